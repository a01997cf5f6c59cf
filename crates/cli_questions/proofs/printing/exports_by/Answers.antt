-- By whether they are asked for as an object.
use Rattle.std.proofs.Common.{◌≡◌, Bool, IfOk, subst, sym}
use Rattle.std.specs.String.{string_bytes}
use Rattle.serde_json.specs.Written.{compact_text}
use Rattle.desk_json.specs.Exports.{all_exports_data}
use Rattle.cli_questions.specs.Questions.{exports_by, printer_of}
use Rattle.cli_questions.proofs.printing.exports_by.Goals as goal

pub returns-then-json : goal.returns-then-json
returns-then-json c =
    subst (λ (json : Bool). IfOk c.line_of.result (λ text. string_bytes text ≡ exports_by json (printer_of c.args.printer) c.args.policy.now)) (sym c.if-json.true)
    (c.line_of.ensures (compact_text (all_exports_data c.args.policy.now)) c.exports_object.ensures)

pub returns-else-json : goal.returns-else-json
returns-else-json c =
    subst (λ (json : Bool). IfOk c.exports_text.result (λ text. string_bytes text ≡ exports_by json (printer_of c.args.printer) c.args.policy.now)) (sym c.if-json.false)
    c.exports_text.ensures
