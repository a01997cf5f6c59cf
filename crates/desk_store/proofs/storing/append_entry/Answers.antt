use Rattle.std.proofs.Common.{◌≡◌, rules, subst, sym}
use Rattle.std.specs.Prelude.{Contains}
use Rattle.std.proofs.lemmas.Result.{err_from_is_err_and}
use Rattle.sqlite.specs.Held.{state}
use Rattle.sqlite.specs.State.{HasCleanDisk}
use Rattle.desk_store.specs.Error.{FailsAsSaid, IsSaid}
use Rattle.desk_store.specs.Storing.{WritesEntry, statements_of}
use Rattle.desk_store.proofs.Said.{commit_said, of_commit, step_failed}
use Rattle.desk_store.proofs.storing.append_entry.Goals as goal

pub returns-clause-said : goal.returns-clause-said
returns-clause-said g c =
    let old = c.args.conn.now in
    let stored = c.args.entry.now in
    let back : c.commit.new.self.0 ≡ c.conn-2-1.given.0 = search rules in
    subst (λ conn. FailsAsSaid g.S.Store (Contains (statements_of stored)) old conn c.commit.result) back
    (commit_said g.S.Store (Contains (statements_of stored)) (of_commit stored) old c.transaction-tx.result.conn.now c.write_entry.new.tx.conn.now c.commit.new.self.0 (tt {0}) (WritesEntry stored) _
    c.transaction-tx.ensures.begun c.in_ok-write_entry.ensures.written c.commit.ensures.survives c.commit.result c.commit.ensures.err)

pub returns-in_err-write_entry-clause-said : goal.returns-in_err-write_entry-clause-said
returns-in_err-write_entry-clause-said g c clean =
    let old = c.args.conn.now in
    let new = c.drop-tx.new.self.0 in
    let e = c.in_err-write_entry.field-0.0 in
    let back : new ≡ c.conn-1.given.0 = search rules in
    let still : HasCleanDisk (state g.S.Store new) = subst (λ conn. HasCleanDisk (state g.S.Store conn)) (sym back) clean in
    let said = step_failed g.S.Store (Contains (statements_of c.args.entry.now)) old c.transaction-tx.result.conn.now c.write_entry.new.tx.conn.now new e c.transaction-tx.ensures.begun c.in_err-write_entry.ensures.said c.drop-tx.ensures.survives still in
    let p = err_from_is_err_and c.from_residual.result c.from_residual.ensures.1 in
    rw (p.1, p.2) (subst (λ conn. IsSaid g.S.Store (Contains (statements_of c.args.entry.now)) old conn e) back said)
