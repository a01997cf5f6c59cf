-- The statements leave the desk as it stood. No disk lies about the copy.
use Rattle.std.proofs.Common.{[], refl}
use Rattle.sqlite_pool.specs.Pool.{state}
use Rattle.sqlite.specs.Files.{file_state, over_files}
use Rattle.cli_questions.specs.Questions.{asked_of}
use Rattle.cli_questions.proofs.DeskAnswers.{after_statements, good_disk, look_fails}
use Rattle.cli_questions.proofs.answering.answer_copied_desk.Goals as goal

pub answer_looked_up-requires-clause-found : goal.answer_looked_up-requires-clause-found
unfolding state
answer_looked_up-requires-clause-found c =
    let good = good_disk (file_state c.look_up.new.desk.conn).is_clean refl in
    (c.requires.0, c.look_up.ensures.looks.0.stands good c.requires.0 [] c.requires.1, c.in-Ok.ensures.found good c.requires.0 [] c.requires.1)

pub returns-in-Ok : goal.returns-in-Ok
unfolding state
returns-in-Ok c =
    let good = good_disk (file_state c.look_up.new.desk.conn).is_clean refl in
    after_statements over_files c.args.desk.now c.look_up.new.desk (asked_of c.args.asked) c.in-Ok.looked c.answer_looked_up.result
    (λ history stood. c.look_up.ensures.looks.0.stands good history [] stood) (λ history stood. c.in-Ok.ensures.found good history [] stood) c.answer_looked_up.ensures

pub returns-in-Err : goal.returns-in-Err
returns-in-Err c = look_fails over_files c.args.desk.now (asked_of c.args.asked) c.in-Err.error c.refused_by_copy.result c.in-Err.ensures.errors c.refused_by_copy.ensures
