-- The second word is found, the file systems are read, and then the files.
use Rattle.std.proofs.Common.{◌∙◌, ◌++◌, ◌∷◌, [], List, Option, Some, ap, subst, ℕ}
use Rattle.std.proofs.lemmas.Result.{err_from_is_err_and}
use Rattle.cli_words.specs.Words.{rows_in}
use Rattle.cli_sources.specs.TwoQuestion.{AnswersFiles}
use Rattle.cli_sources.specs.TableFiles.{input_count}
use Rattle.cli_sources.specs.TwoFiles.{two_files}
use Rattle.cli_sources.proofs.AskedSystems.{with_fault, with_table, without}
use Rattle.cli_sources.proofs.FoundWords.{by_found}
use Rattle.cli_sources.proofs.two_question.answer_two.Goals as goal

pub returns-in_err-systems : goal.returns-in_err-systems
returns-in_err-systems g c =
    let p = err_from_is_err_and c.from_residual-in_err-systems.result c.from_residual-in_err-systems.ensures.1 in
    let rows = rows_in c.args.words.now in
    let subject = c.args.subject.now in
    let word = c.in_ok-word.word.now in
    let same = ap (λ (files : List (List ℕ × Option (List ℕ))). files ++ (c.args.names.second.now, Some word) ∷ []) c.whole_files.ensures in
    rw (p.1, p.2) (by_found _ _ _ _ _ c.in_ok-word.ensures
    (without c.args.json subject rows c.two_inputs-others.result (input_count (two_files subject c.args.names.first.now rows (c.args.names.second.now, Some word))) (c.two_inputs-others.ensures ∙ ap input_count same)
    (g.I.Read.remaining c.args.input.now) (g.I.Read.remaining c.read_systems.new.input) c.read_systems.ensures.left _ c.in_err-systems.field-0.0 c.in_err-systems.ensures.systems))

pub returns-in-Ok : goal.returns-in-Ok
returns-in-Ok g c =
    let rows = rows_in c.args.words.now in
    let subject = c.args.subject.now in
    let word = c.in_ok-word.word.now in
    let same = ap (λ (files : List (List ℕ × Option (List ℕ))). files ++ (c.args.names.second.now, Some word) ∷ []) c.whole_files.ensures in
    by_found _ _ _ _ _ c.in_ok-word.ensures
    (with_table c.args.json subject rows c.two_inputs-others.result (input_count (two_files subject c.args.names.first.now rows (c.args.names.second.now, Some word))) (c.two_inputs-others.ensures ∙ ap input_count same)
    (g.I.Read.remaining c.args.input.now) (g.I.Read.remaining c.read_systems.new.input) c.read_systems.ensures.left _ c.in-Ok.filesystems c.answer_files.result (rw c.in-Ok.is at c.in_ok-systems.ensures.systems)
    (subst (λ (files : List (List ℕ × Option (List ℕ))). AnswersFiles (g.Q.TwoQuestion.Answers c.args.question.now) files (g.I.Read.remaining c.read_systems.new.input) c.in-Ok.filesystems c.answer_files.result) same c.answer_files.ensures))

pub returns-in-Err : goal.returns-in-Err
returns-in-Err g c =
    let rows = rows_in c.args.words.now in
    let subject = c.args.subject.now in
    let word = c.in_ok-word.word.now in
    let same = ap (λ (files : List (List ℕ × Option (List ℕ))). files ++ (c.args.names.second.now, Some word) ∷ []) c.whole_files.ensures in
    by_found _ _ _ _ _ c.in_ok-word.ensures
    (with_fault c.args.json subject rows c.two_inputs-others.result (input_count (two_files subject c.args.names.first.now rows (c.args.names.second.now, Some word))) (c.two_inputs-others.ensures ∙ ap input_count same)
    (g.I.Read.remaining c.args.input.now) (g.I.Read.remaining c.read_systems.new.input) c.read_systems.ensures.left _ c.in-Err.printed (rw c.in-Err.is at c.in_ok-systems.ensures.systems))
