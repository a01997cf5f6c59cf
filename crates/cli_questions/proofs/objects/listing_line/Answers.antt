-- What is listed is that of the client of whom it is asked.
use Rattle.std.proofs.Common.{◌≡◌, IfOk, subst, sym}
use Rattle.std.specs.String.{string_bytes}
use Rattle.serde_json.specs.Written.{compact_text}
use Rattle.desk_text.specs.Address.{number_of}
use Rattle.desk_service.specs.Questions.{question_of}
use Rattle.desk_service.specs.declared.questions.Question.{Question as LentQuestion}
use Rattle.desk_http_bodies.specs.Exports.{exports_data}
use Rattle.cli_questions.specs.Objects.{listing_line}
use Rattle.cli_questions.proofs.objects.listing_line.Goals as goal

pub returns-in-Listing : goal.returns-in-Listing
returns-in-Listing c =
    subst (λ (question : LentQuestion). IfOk c.line_of.result (λ line. string_bytes line ≡ listing_line (question_of question) c.args.policy.now c.args.listing.now)) (sym c.in-Listing.is)
    (c.line_of.ensures (compact_text (exports_data c.args.policy.now (number_of c.in-Listing.address) c.args.listing.now)) c.exports_body.ensures)
