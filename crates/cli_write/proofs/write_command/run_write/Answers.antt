use Rattle.std.proofs.Common.{codes, List, ℕ}
use Rattle.std.proofs.lemmas.Result.{err_from_is_err_and}
use Rattle.cli_words.specs.Words.{ByWord, rows_in}
use Rattle.cli_write.specs.WriteCommand.{WritesDatabase}
use Rattle.cli_write.proofs.CommandAnswers.{by_word, no_word}
use Rattle.cli_write.proofs.write_command.run_write.Goals as goal

pub returns-in_err-db : goal.returns-in_err-db
returns-in_err-db c =
    let rows = rows_in c.args.words.now in
    let p = err_from_is_err_and c.from_residual.result c.from_residual.ensures.1 in
    rw (p.1, p.2)
    (no_word (codes "DB") rows (λ (db : List ℕ). ByWord (codes "DIR") rows (λ (dir : List ℕ). WritesDatabase db dir)) c.in_err-db.field-0.0 c.in_err-db.ensures.0 c.in_err-db.ensures.1)

pub returns-in_err-dir : goal.returns-in_err-dir
returns-in_err-dir c =
    let rows = rows_in c.args.words.now in
    let p = err_from_is_err_and c.from_residual-in_err-dir.result c.from_residual-in_err-dir.ensures.1 in
    rw (p.1, p.2)
    (by_word (codes "DB") rows (λ (db : List ℕ). ByWord (codes "DIR") rows (λ (dir : List ℕ). WritesDatabase db dir)) c.in_ok-db.db.now _ c.in_ok-db.ensures
    (no_word (codes "DIR") rows (λ (dir : List ℕ). WritesDatabase c.in_ok-db.db.now dir) c.in_err-dir.field-0.0 c.in_err-dir.ensures.0 c.in_err-dir.ensures.1))

pub returns : goal.returns
returns c =
    let rows = rows_in c.args.words.now in
    by_word (codes "DB") rows (λ (db : List ℕ). ByWord (codes "DIR") rows (λ (dir : List ℕ). WritesDatabase db dir)) c.in_ok-db.db.now c.write_database.result c.in_ok-db.ensures
    (by_word (codes "DIR") rows (λ (dir : List ℕ). WritesDatabase c.in_ok-db.db.now dir) c.in_ok-dir.dir.now c.write_database.result c.in_ok-dir.ensures c.write_database.ensures)
