use Rattle.std.proofs.Common.{arith, inl, inr}
use Rattle.std.proofs.lemmas.Result.{err_from_is_err_and}
use Rattle.sqlite.specs.Held.{state}
use Rattle.sqlite.specs.State.{HasCleanDisk}
use Rattle.desk_store.specs.Create.{MakesLater, Ran}
use Rattle.desk_schema.specs.Tables.{create_approval, create_proposal}
use Rattle.desk_store.proofs.Inside.{inside_then}
use Rattle.desk_store.proofs.Said.{fails_last, said_widely}
use Rattle.desk_store.proofs.Making.{makes_later}
use Rattle.desk_store.proofs.creating.make_later.Goals as goal

pub returns-clause-made : goal.returns-clause-made
returns-clause-made g c =
    let start = state g.S.Store c.args.tx.now.conn.now in
    let one = state g.S.Store c.run.new.tx.conn.now in
    let end = state g.S.Store c.run-2.new.tx.conn.now in
    inside_then start one end _ c.run-2.result (Ran create_approval) (Ran create_proposal) MakesLater c.in_ok-run.ensures.ran c.run-2.ensures.ran (λ first last room. makes_later start one end room first last)

pub returns-in_err-run-clause-said : goal.returns-in_err-run-clause-said
returns-in_err-run-clause-said g c on clean =
    let start = c.args.tx.now.conn.now in
    let end = c.run.new.tx.conn.now in
    let e = c.in_err-run.field-0.0 in
    let p = err_from_is_err_and c.from_residual.result c.from_residual.ensures.1 in
    rw (p.1, p.2) (said_widely g.S.Store _ _ (λ s is. inl is) start end e (c.in_err-run.ensures.said on clean))

pub returns-clause-said : goal.returns-clause-said
returns-clause-said g c on clean =
    let one = c.run.new.tx.conn.now in
    let early : HasCleanDisk (state g.S.Store one) = omega (arith, clean, c.run-2.ensures.ran.crash.clean) in
    let first = c.in_ok-run.ensures.ran in
    fails_last g.S.Store _ _ (λ s is. inr is) c.args.tx.now.conn.now one c.run-2.new.tx.conn.now c.run-2.result first.crash (c.run-2.ensures.said (first.done early).0.mode clean)
