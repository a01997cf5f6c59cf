use Rattle.std.proofs.Common.{ap, sym, ◌∙◌, true}
use Rattle.desk_http_messages.specs.Replies.{print_reply, fault_reply}
use Rattle.desk_http_messages.proofs.ReplyTexts.{BadHead_text, TransferEncoding_text, BadLength_text, BodyTooLarge_text, BodyCut_text}
use Rattle.desk_http_messages.proofs.replies.fault_text.Goals as goal

pub returns-in-BadHead-clause-value : goal.returns-in-BadHead-clause-value
returns-in-BadHead-clause-value c = BadHead_text ∙ ap (λ f. print_reply true (fault_reply f)) (sym c.in-BadHead.is)

pub returns-in-TransferEncoding-clause-value : goal.returns-in-TransferEncoding-clause-value
returns-in-TransferEncoding-clause-value c = TransferEncoding_text ∙ ap (λ f. print_reply true (fault_reply f)) (sym c.in-TransferEncoding.is)

pub returns-in-BadLength-clause-value : goal.returns-in-BadLength-clause-value
returns-in-BadLength-clause-value c = BadLength_text ∙ ap (λ f. print_reply true (fault_reply f)) (sym c.in-BadLength.is)

pub returns-in-BodyTooLarge-clause-value : goal.returns-in-BodyTooLarge-clause-value
returns-in-BodyTooLarge-clause-value c = BodyTooLarge_text ∙ ap (λ f. print_reply true (fault_reply f)) (sym c.in-BodyTooLarge.is)

pub returns-in-BodyCut-clause-value : goal.returns-in-BodyCut-clause-value
returns-in-BodyCut-clause-value c = BodyCut_text ∙ ap (λ f. print_reply true (fault_reply f)) (sym c.in-BodyCut.is)
