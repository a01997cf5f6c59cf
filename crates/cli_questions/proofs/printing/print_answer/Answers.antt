-- By whether it is asked for as an object.
use Rattle.desk_service.specs.Questions.{answer_of}
use Rattle.cli_questions.specs.Questions.{asked_of}
use Rattle.cli_questions.proofs.DeskAnswers.{lines_printed, object_printed}
use Rattle.cli_questions.proofs.printing.print_answer.Goals as goal

pub returns-then-json : goal.returns-then-json
returns-then-json c = object_printed (asked_of c.args.asked) (answer_of (λ content. content) c.args.answer) c.print_object.result c.if-json.true c.print_object.ensures

pub returns-else-json : goal.returns-else-json
returns-else-json c = lines_printed (asked_of c.args.asked) (answer_of (λ content. content) c.args.answer) c.print_lines.result c.if-json.false c.print_lines.ensures
