-- The file systems are read, and then the files.
use Rattle.std.proofs.Common.{◌∙◌, List, Option, ap, codes, subst, ℕ}
use Rattle.std.proofs.lemmas.Result.{err_from_is_err_and}
use Rattle.cli_words.specs.Words.{rows_in}
use Rattle.cli_sources.specs.TableFiles.{input_count}
use Rattle.cli_sources.specs.WholeFiles.{whole_files}
use Rattle.cli_sources.specs.WholeQuestion.{AnswersFiles}
use Rattle.cli_sources.proofs.AskedSystems.{with_fault, with_table, without}
use Rattle.cli_sources.proofs.whole_question.answer_whole.Goals as goal

pub returns-in_err-systems : goal.returns-in_err-systems
returns-in_err-systems g c =
    let p = err_from_is_err_and c.from_residual.result c.from_residual.ensures.1 in
    let rows = rows_in c.args.words.now in
    let subject = c.args.subject.now in
    rw (p.1, p.2)
    (without c.args.json subject rows c.whole_inputs-others.result (input_count (whole_files subject (codes "FILE") rows)) (c.whole_inputs-others.ensures.counted ∙ ap input_count c.whole_files-files.ensures)
    (g.I.Read.remaining c.args.input.now) (g.I.Read.remaining c.read_systems.new.input) c.read_systems.ensures.left _ c.in_err-systems.field-0.0 c.in_err-systems.ensures.systems)

pub returns-in-Ok : goal.returns-in-Ok
returns-in-Ok g c =
    let rows = rows_in c.args.words.now in
    let subject = c.args.subject.now in
    let left = g.I.Read.remaining c.read_systems.new.input in
    with_table c.args.json subject rows c.whole_inputs-others.result (input_count (whole_files subject (codes "FILE") rows)) (c.whole_inputs-others.ensures.counted ∙ ap input_count c.whole_files-files.ensures)
    (g.I.Read.remaining c.args.input.now) left c.read_systems.ensures.left _ c.in-Ok.filesystems c.answer_files.result (rw c.in-Ok.is at c.in_ok-systems.ensures.systems)
    (subst (λ (files : List (List ℕ × Option (List ℕ))). AnswersFiles (g.Q.WholeQuestion.Answers c.args.question.now) files left c.in-Ok.filesystems c.answer_files.result) c.whole_files-files.ensures c.answer_files.ensures)

pub returns-in-Err : goal.returns-in-Err
returns-in-Err g c =
    let rows = rows_in c.args.words.now in
    let subject = c.args.subject.now in
    with_fault c.args.json subject rows c.whole_inputs-others.result (input_count (whole_files subject (codes "FILE") rows)) (c.whole_inputs-others.ensures.counted ∙ ap input_count c.whole_files-files.ensures)
    (g.I.Read.remaining c.args.input.now) (g.I.Read.remaining c.read_systems.new.input) c.read_systems.ensures.left _ c.in-Err.printed (rw c.in-Err.is at c.in_ok-systems.ensures.systems)
