use Rattle.std.proofs.Common.{◌≡◌, ap, arith, subst, sym, IsTrue, Ok, Err, Some, None, option_map, []}
use Rattle.std.proofs.lemmas.Result.{err_from_is_err_and}
use Rattle.std.specs.List.{cons_option}
use Rattle.sqlite.specs.Held.{state}
use Rattle.sqlite.specs.State.{Executes, ExecutesInside, HasCleanDisk, State}
use Rattle.desk_store.specs.Error.{Statement, Step}
use Rattle.desk_store.specs.History.{approval_of}
use Rattle.desk_store.specs.Storing.{AddsApproval}
use Rattle.desk_store.specs.Tables.{Writes, approval_row, insert_approval}
use Rattle.desk_store.proofs.Entries.{approval_added, writes_nothing}
use Rattle.desk_store.proofs.Placed.{signed}
use Rattle.desk_store.proofs.Inside.{did_so, no_step, ran_inside}
use Rattle.desk_store.proofs.Said.{said_now}
use Rattle.desk_store.proofs.storing.add_approval.Goals as goal

pub returns-in_ok-execute-clause-added : goal.returns-in_ok-execute-clause-added
returns-in_ok-execute-clause-added g c =
    let old = state g.S.Store c.args.tx.now.conn.now in
    let new = state g.S.Store c.execute.new.self.conn.now in
    let r = c.args.head.now in
    let row = approval_row r.file r.rev c.in-Some.approver in
    let count = c.in_ok-execute.field-0 in
    let rev = signed c.from.result r.rev c.from.ensures (omega arith) in
    let is : approval_of r ≡ Some row = ap (option_map (approval_row r.file r.rev)) c.in-Some.is in
    let runs : HasCleanDisk new → IsTrue old.in_transaction → ExecutesInside 0 insert_approval row old new (Ok count) =
    λ clean on. rw (c.params-to_sql.ensures, c.params-to_sql-in-Some.ensures, rev, c.params-to_sql-in-Some-2.ensures, c.as_str.ensures, c.as_str-in-Some.ensures) at (c.in_ok-execute.ensures.runs clean on) in
    did_so old new _ (λ (s t : State). Executes insert_approval row s t (Ok count)) (AddsApproval (approval_of r))
    (λ h has sound. subst (λ o. Writes [] (cons_option o []) (λ proposals. proposals) old.now new.now) (sym is) (approval_added old new count has r.file r.rev c.in-Some.approver h))
    (ran_inside old new insert_approval row count _ _ _ c.in_ok-execute.ensures.ended runs c.in_ok-execute.ensures.survives)

pub returns-in_default-clause-added : goal.returns-in_default-clause-added
returns-in_default-clause-added g c =
    let old = state g.S.Store c.args.tx.now.conn.now in
    let r = c.args.head.now in
    let is : approval_of r ≡ None = ap (option_map (approval_row r.file r.rev)) c.in_default.is in
    no_step old (tt {0}) (AddsApproval (approval_of r)) c.requires.inside
    (λ clean has sound. subst (λ o. Writes [] (cons_option o []) (λ proposals. proposals) old.now old.now) (sym is) (writes_nothing old.now sound))

pub returns-in_err-execute-clause-said : goal.returns-in_err-execute-clause-said
returns-in_err-execute-clause-said g c on clean =
    let old = c.args.tx.now.conn.now in
    let new = c.execute.new.self.conn.now in
    let r = c.args.head.now in
    let row = approval_row r.file r.rev c.in-Some.approver in
    let own : Statement = Step insert_approval row in
    let e = c.in_err-execute.field-0.0 in
    let rev = signed c.from.result r.rev c.from.ensures (omega arith) in
    let is : option_map (Step insert_approval) (approval_of r) ≡ Some own = ap (λ o. option_map (Step insert_approval) (option_map (approval_row r.file r.rev) o)) c.in-Some.is in
    let runs : ExecutesInside 0 insert_approval row (state g.S.Store old) (state g.S.Store new) (Err e) =
    rw (c.params-to_sql.ensures, c.params-to_sql-in-Some.ensures, rev, c.params-to_sql-in-Some-2.ensures, c.as_str.ensures, c.as_str-in-Some.ensures) at (c.in_err-execute.ensures.runs clean on) in
    let p = err_from_is_err_and c.from_residual.result c.from_residual.ensures.1 in
    rw (p.1, p.2) (said_now g.S.Store (λ (s : Statement). option_map (Step insert_approval) (approval_of r) ≡ Some s) old new own e is runs)
