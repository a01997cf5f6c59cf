use Rattle.std.proofs.Common.{ap, sym, ◌∙◌}
use Rattle.desk_http_messages.specs.Replies.{print_reply, memory_reply}
use Rattle.desk_http_messages.proofs.ReplyTexts.{memory_text_true, memory_text_false}
use Rattle.desk_http_messages.proofs.replies.memory_text.Goals as goal

pub returns-then-ends : goal.returns-then-ends
returns-then-ends c = memory_text_true ∙ ap (λ b. print_reply b memory_reply) (sym c.if-ends.true)

pub returns-else-ends : goal.returns-else-ends
returns-else-ends c = memory_text_false ∙ ap (λ b. print_reply b memory_reply) (sym c.if-ends.false)
