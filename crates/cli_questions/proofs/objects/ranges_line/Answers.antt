-- The ranges are those of the path of which it is asked.
use Rattle.std.proofs.Common.{◌≡◌, IfOk, map, subst, sym}
use Rattle.std.specs.String.{string_bytes}
use Rattle.serde_json.specs.Written.{compact_text}
use Rattle.desk_who.specs.Who.{range_value}
use Rattle.desk_service.specs.Questions.{question_of}
use Rattle.desk_service.specs.declared.questions.Question.{Question as LentQuestion}
use Rattle.desk_http_bodies.specs.Ranges.{who_data}
use Rattle.cli_questions.specs.Objects.{ranges_line}
use Rattle.cli_questions.proofs.objects.ranges_line.Goals as goal

pub returns-in-Who : goal.returns-in-Who
returns-in-Who c =
    subst (λ (question : LentQuestion). IfOk c.line_of.result (λ line. string_bytes line ≡ ranges_line (question_of question) c.args.policy.now (map range_value c.args.ranges.now))) (sym c.in-Who.is)
    (c.line_of.ensures (compact_text (who_data c.args.policy.now c.in-Who.path.now (map range_value c.args.ranges.now))) c.who_body.ensures)
