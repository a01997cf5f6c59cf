-- Why is printed with the verdict to whom asks, and else alone.
use Rattle.std.proofs.Common.{Option, subst, sym}
use Rattle.std.specs.Option.{option_map}
use Rattle.cli_output.specs.ShownLines.{shown_lines}
use Rattle.cli_verdict.specs.TryText.{mount_question_of}
use Rattle.cli_verdict.specs.TryText as told
use Rattle.cli_verdict.specs.declared.try_text.MountQuestion.{MountQuestion}
use Rattle.cli_questions.specs.PrivateAnswering.{TriesToPrintWhy}
use Rattle.cli_questions.proofs.DeskAnswers.{alone}
use Rattle.cli_questions.proofs.printing.print_why.Goals as goal

pub returns-in-Some : goal.returns-in-Some
returns-in-Some c =
    subst (λ (asked : Option told.MountQuestion). TriesToPrintWhy asked c.args.view.now c.args.reasons.now c.print_reasons.result) c.mount_in.ensures
    (subst (λ (asked : Option MountQuestion). TriesToPrintWhy (option_map mount_question_of asked) c.args.view.now c.args.reasons.now c.print_reasons.result) (sym c.in-Some.is) c.print_reasons.ensures)

pub returns-in-None : goal.returns-in-None
returns-in-None c =
    subst (λ (asked : Option told.MountQuestion). TriesToPrintWhy asked c.args.view.now c.args.reasons.now c.print_text.result) c.mount_in.ensures
    (subst (λ (asked : Option MountQuestion). TriesToPrintWhy (option_map mount_question_of asked) c.args.view.now c.args.reasons.now c.print_text.result) (sym c.in-None.is)
    (alone c.args.view.now c.args.reasons.now c.print_text.result (c.print_text.ensures (shown_lines c.args.reasons.now) c.shown_lines.ensures)))
