use Rattle.std.proofs.Common.{◌≡◌, Ok, arith, refl, rules, subst, sym, true}
use Rattle.std.specs.Prelude.{Contains}
use Rattle.std.proofs.lemmas.Result.{err_from_is_err_and}
use Rattle.sqlite.specs.Held.{state}
use Rattle.sqlite.specs.State.{HasCleanDisk}
use Rattle.desk_store.specs.Create.{RunsInside}
use Rattle.desk_store.specs.Desk.{CommitsAtMost}
use Rattle.desk_store.specs.Error.{FailsAsSaid, IsSaid}
use Rattle.desk_store.specs.Open.{Migrates, opening_statements}
use Rattle.desk_store.specs.Storing.{MakesSecond}
use Rattle.desk_store.proofs.Committing.{commit_tried}
use Rattle.desk_store.proofs.OpeningSaid.{of_commit}
use Rattle.desk_store.proofs.Said.{commit_said, step_failed}
use Rattle.desk_store.proofs.SecondMade.{makes_migrated}
use Rattle.desk_store.proofs.database.commit_second.Goals as goal

pub returns-clause-migrated : goal.returns-clause-migrated
returns-clause-migrated g c =
    let old = state g.S.Store c.args.conn.now in
    let begun = state g.S.Store (record c.args.conn.now { in_transaction = true }) in
    let end = state g.S.Store c.make_second.new.tx.conn.now in
    let step = subst (λ conn. RunsInside (state g.S.Store conn) end (Ok (tt {0})) MakesSecond) c.transaction-tx.ensures.begun c.in_ok-make_second.ensures.made in
    let early : HasCleanDisk end → HasCleanDisk old = λ clean. omega (arith, clean, step.crash.clean) in
    let back : c.commit.new.self.0 ≡ c.conn-2-1.given.0 = search rules in
    let after = state g.S.Store c.commit.new.self.0 in
    let done : CommitsAtMost Migrates old after c.commit.result =
    commit_tried old begun end after Migrates MakesSecond (λ live. live) refl
    (λ P s. record { clean = s.clean; shield = s.shield; counts = s.counts; limit = s.limit; closes = s.closes; crash = s.crash }) (tt {0}) step
    (λ clean live. makes_migrated old begun end refl c.requires.rest c.requires.first c.requires.keyed c.requires.room (early clean) live) c.commit.ensures.ended c.commit.ensures.survives
    c.commit.result c.commit.ensures.ok c.commit.ensures.err (λ live trees may. g.met.S.Store.settled c.commit.new.self.0.store trees live may) in
    subst (λ conn. CommitsAtMost Migrates old (state g.S.Store conn) c.commit.result) back done

pub returns-clause-said : goal.returns-clause-said
returns-clause-said g c =
    let old = c.args.conn.now in
    let back : c.commit.new.self.0 ≡ c.conn-2-1.given.0 = search rules in
    subst (λ conn. FailsAsSaid g.S.Store (Contains opening_statements) old conn c.commit.result) back
    (commit_said g.S.Store (Contains opening_statements) of_commit old c.transaction-tx.result.conn.now c.make_second.new.tx.conn.now c.commit.new.self.0 (tt {0}) MakesSecond _
    c.transaction-tx.ensures.begun c.in_ok-make_second.ensures.made c.commit.ensures.survives c.commit.result c.commit.ensures.err)

pub returns-in_err-make_second-clause-said : goal.returns-in_err-make_second-clause-said
returns-in_err-make_second-clause-said g c clean =
    let old = c.args.conn.now in
    let new = c.drop-tx.new.self.0 in
    let e = c.in_err-make_second.field-0.0 in
    let back : new ≡ c.conn-1.given.0 = search rules in
    let still : HasCleanDisk (state g.S.Store new) = subst (λ conn. HasCleanDisk (state g.S.Store conn)) (sym back) clean in
    let said = step_failed g.S.Store (Contains opening_statements) old c.transaction-tx.result.conn.now c.make_second.new.tx.conn.now new e c.transaction-tx.ensures.begun c.in_err-make_second.ensures.said c.drop-tx.ensures.survives still in
    let p = err_from_is_err_and c.from_residual.result c.from_residual.ensures.1 in
    rw (p.1, p.2) (subst (λ conn. IsSaid g.S.Store (Contains opening_statements) old conn e) back said)
