use Rattle.desk_http_messages.proofs.ReplyTexts.{formatted_last, formatted_next, text_is}
use Rattle.desk_http_messages.proofs.replies.reply_text.Goals as goal

pub returns-then-ends : goal.returns-then-ends
returns-then-ends c = rw (c.if-ends.true) (text_is _ _ _ (formatted_last c.args.status c.args.body.now) c.format.ensures.ok)

pub returns-else-ends : goal.returns-else-ends
returns-else-ends c = rw (c.if-ends.false) (text_is _ _ _ (formatted_next c.args.status c.args.body.now) c.format-else-ends.ensures.ok)
