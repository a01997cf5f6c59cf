-- What the desk on the copy answers is answered of the path.
use Rattle.sqlite.specs.Files.{over_files}
use Rattle.cli_questions.specs.Questions.{asked_of}
use Rattle.cli_questions.proofs.DeskAnswers.{at_path, has_history, no_desk}
use Rattle.cli_questions.proofs.answering.answer_question.Goals as goal

pub answer_copied_desk-printed-requires : goal.answer_copied_desk-printed-requires
answer_copied_desk-printed-requires c = has_history over_files c.in-Ok.desk c.in-Ok.ensures.opened

pub returns-in-Ok : goal.returns-in-Ok
returns-in-Ok c = at_path over_files c.in-Ok.desk c.args.db.now (asked_of c.args.asked) c.answer_copied_desk-printed.result c.in-Ok.ensures.opened c.answer_copied_desk-printed.ensures

pub returns-in-Err : goal.returns-in-Err
returns-in-Err c = no_desk c.args.db.now (asked_of c.args.asked) c.in-Err.printed c.in-Err.ensures.refused
