use Rattle.std.proofs.Common.{Ok, arith}
use Rattle.std.specs.Prelude.{Contains}
use Rattle.std.proofs.lemmas.Result.{err_from_is_err_and}
use Rattle.sqlite.specs.Held.{state}
use Rattle.sqlite.specs.State.{HasCleanDisk, State}
use Rattle.desk_store.specs.Create.{MakesLater, Ran, insert_version}
use Rattle.desk_store.specs.Open.{opening_statements}
use Rattle.desk_store.specs.Storing.{MakesSecond}
use Rattle.desk_store.specs.Tables.{delete_version}
use Rattle.desk_store.proofs.Inside.{inside_then, same_survives}
use Rattle.desk_store.proofs.OpeningSaid.{of_insert, of_later, of_version}
use Rattle.desk_store.proofs.Said.{both, fails_last, said_in, said_widely}
use Rattle.desk_store.proofs.SecondMade.{second_made}
use Rattle.desk_store.proofs.database.make_second.Goals as goal

pub returns-clause-made : goal.returns-clause-made
returns-clause-made g c =
    let start = state g.S.Store c.args.tx.now.conn.now in
    let one = state g.S.Store c.make_later.new.tx.conn.now in
    let two = state g.S.Store c.run.new.tx.conn.now in
    let end = state g.S.Store c.run-2.new.tx.conn.now in
    let First : State → State → Type 0 = λ s t. MakesLater s one × Ran delete_version one t in
    let first = inside_then start one two (tt {0}) (Ok (tt {0})) MakesLater (Ran delete_version) First c.in_ok-make_later.ensures.made c.in_ok-run.ensures.ran (λ a b. (a, b)) in
    inside_then start two end (tt {0}) c.run-2.result First (Ran insert_version) MakesSecond first c.run-2.ensures.ran (λ before last. second_made start one two end before.0 before.1 last)

pub returns-in_err-make_later-clause-said : goal.returns-in_err-make_later-clause-said
returns-in_err-make_later-clause-said g c on clean =
    let e = c.in_err-make_later.field-0.0 in
    let p = err_from_is_err_and c.from_residual.result c.from_residual.ensures.1 in
    rw (p.1, p.2) (said_widely g.S.Store _ (Contains opening_statements) of_later c.args.tx.now.conn.now c.make_later.new.tx.conn.now e (c.in_err-make_later.ensures.said on clean))

pub returns-in_err-run-clause-said : goal.returns-in_err-run-clause-said
returns-in_err-run-clause-said g c on clean =
    let one = c.make_later.new.tx.conn.now in
    let end = c.run.new.tx.conn.now in
    let e = c.in_err-run.field-0.0 in
    let early : HasCleanDisk (state g.S.Store one) = omega (arith, clean, c.in_err-run.ensures.ran.crash.clean) in
    let made = c.in_ok-make_later.ensures.made in
    let p = err_from_is_err_and c.from_residual-in_err-run.result c.from_residual-in_err-run.ensures.1 in
    rw (p.1, p.2) (said_in g.S.Store _ (Contains opening_statements) of_version c.args.tx.now.conn.now one end end e made.crash (c.in_err-run.ensures.said (made.done early).0.mode clean) (same_survives (state g.S.Store end)))

pub returns-clause-said : goal.returns-clause-said
returns-clause-said g c on clean =
    let start = c.args.tx.now.conn.now in
    let one = c.make_later.new.tx.conn.now in
    let two = c.run.new.tx.conn.now in
    let made = c.in_ok-make_later.ensures.made in
    let ran = c.in_ok-run.ensures.ran in
    let early : HasCleanDisk (state g.S.Store two) = omega (arith, clean, c.run-2.ensures.ran.crash.clean) in
    fails_last g.S.Store _ (Contains opening_statements) of_insert start two c.run-2.new.tx.conn.now c.run-2.result (both (state g.S.Store start) (state g.S.Store one) (state g.S.Store two) made.crash ran.crash)
    (c.run-2.ensures.said (ran.done early).0.mode clean)
