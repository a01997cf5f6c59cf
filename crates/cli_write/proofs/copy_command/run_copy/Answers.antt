use Rattle.std.proofs.Common.{codes, List, ℕ}
use Rattle.std.proofs.lemmas.Result.{err_from_is_err_and}
use Rattle.cli_words.specs.Words.{ByWord, rows_in}
use Rattle.cli_write.specs.CopyCommand.{CopiesDatabase}
use Rattle.cli_write.proofs.CommandAnswers.{by_word, no_word}
use Rattle.cli_write.proofs.copy_command.run_copy.Goals as goal

pub returns-in_err-db : goal.returns-in_err-db
returns-in_err-db c =
    let rows = rows_in c.args.words.now in
    let p = err_from_is_err_and c.from_residual.result c.from_residual.ensures.1 in
    rw (p.1, p.2)
    (no_word (codes "DB") rows (λ (db : List ℕ). ByWord (codes "FILE") rows (λ (file : List ℕ). CopiesDatabase db)) c.in_err-db.field-0.0 c.in_err-db.ensures.0 c.in_err-db.ensures.1)

pub returns-in_err-file : goal.returns-in_err-file
returns-in_err-file c =
    let rows = rows_in c.args.words.now in
    let p = err_from_is_err_and c.from_residual-in_err-file.result c.from_residual-in_err-file.ensures.1 in
    rw (p.1, p.2)
    (by_word (codes "DB") rows (λ (db : List ℕ). ByWord (codes "FILE") rows (λ (file : List ℕ). CopiesDatabase db)) c.in_ok-db.db.now _ c.in_ok-db.ensures
    (no_word (codes "FILE") rows (λ (file : List ℕ). CopiesDatabase c.in_ok-db.db.now) c.in_err-file.field-0.0 c.in_err-file.ensures.0 c.in_err-file.ensures.1))

pub returns : goal.returns
returns c =
    let rows = rows_in c.args.words.now in
    by_word (codes "DB") rows (λ (db : List ℕ). ByWord (codes "FILE") rows (λ (file : List ℕ). CopiesDatabase db)) c.in_ok-db.db.now c.copy_database.result c.in_ok-db.ensures
    (by_word (codes "FILE") rows (λ (file : List ℕ). CopiesDatabase c.in_ok-db.db.now) c.in_ok-file.file.now c.copy_database.result c.in_ok-file.ensures c.copy_database.ensures)
