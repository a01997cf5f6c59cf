-- The answer by each history is printed.
use Rattle.std.proofs.Common.{[]}
use Rattle.sqlite.specs.Files.{over_files}
use Rattle.desk_service.specs.Questions.{answer_of, question_of}
use Rattle.cli_questions.specs.Questions.{asked_of}
use Rattle.cli_questions.proofs.DeskAnswers.{printed_by, sound}
use Rattle.cli_questions.proofs.answering.answer_looked_up.Goals as goal

pub print_answer-requires : goal.print_answer-requires
print_answer-requires c =
    sound c.requires.found.0 (question_of c.args.asked.question) (answer_of (λ content. content) c.in-Ok.answer)
    (c.in-Ok.ensures.answered c.requires.found.0 [] c.requires.found.1 c.requires.found.2)

pub returns-in-Ok : goal.returns-in-Ok
returns-in-Ok c =
    printed_by over_files c.args.desk.now (asked_of c.args.asked) c.args.looked (answer_of (λ content. content) c.in-Ok.answer) c.print_answer.result
    (λ history stands found. c.in-Ok.ensures.answered history [] stands found) c.print_answer.ensures
