use Rattle.std.proofs.Common.{◌≡◌, arith, refl, IsTrue, Ok, Err}
use Rattle.std.proofs.lemmas.Result.{err_from_is_err_and}
use Rattle.sqlite.specs.Held.{state}
use Rattle.sqlite.specs.State.{Executes, ExecutesInside, HasCleanDisk, State}
use Rattle.desk_store.specs.Error.{Statement, Step}
use Rattle.desk_store.specs.History.{proposed_row}
use Rattle.desk_store.specs.Storing.{AddsProposal}
use Rattle.desk_store.specs.Tables.{insert_proposal}
use Rattle.desk_store.proofs.Entries.{proposal_added}
use Rattle.desk_store.proofs.Placed.{signed}
use Rattle.desk_store.proofs.Inside.{did_so, ran_inside}
use Rattle.desk_store.proofs.Said.{said_now}
use Rattle.desk_store.proofs.storing.add_proposal.Goals as goal

pub returns-clause-added : goal.returns-clause-added
returns-clause-added g c =
    let old = state g.S.Store c.args.tx.now.conn.now in
    let new = state g.S.Store c.execute.new.self.conn.now in
    let p = c.args.proposal.now in
    let row = proposed_row p in
    let count = c.in_ok-execute.field-0 in
    let base = signed c.from.result p.base c.from.ensures (omega arith) in
    let runs : HasCleanDisk new → IsTrue old.in_transaction → ExecutesInside 0 insert_proposal row old new (Ok count) =
    λ clean on. rw (c.params-to_sql.ensures, c.params-to_sql-2.ensures, base, c.params-to_sql-3.ensures, c.params-to_sql-4.ensures, c.as_str.ensures, c.as_str-2.ensures, c.as_bytes.ensures.value, c.as_str-3.ensures) at (c.in_ok-execute.ensures.runs clean on) in
    did_so old new _ (λ (s t : State). Executes insert_proposal row s t (Ok count)) (AddsProposal row) (λ h has. proposal_added old new count has p.file p.base p.author p.body h)
    (ran_inside old new insert_proposal row count _ _ _ c.in_ok-execute.ensures.ended runs c.in_ok-execute.ensures.survives)

pub returns-in_err-execute-clause-said : goal.returns-in_err-execute-clause-said
returns-in_err-execute-clause-said g c on clean =
    let old = c.args.tx.now.conn.now in
    let new = c.execute.new.self.conn.now in
    let p = c.args.proposal.now in
    let own : Statement = Step insert_proposal (proposed_row p) in
    let e = c.in_err-execute.field-0.0 in
    let base = signed c.from.result p.base c.from.ensures (omega arith) in
    let runs : ExecutesInside 0 insert_proposal (proposed_row p) (state g.S.Store old) (state g.S.Store new) (Err e) =
    rw (c.params-to_sql.ensures, c.params-to_sql-2.ensures, base, c.params-to_sql-3.ensures, c.params-to_sql-4.ensures, c.as_str.ensures, c.as_str-2.ensures, c.as_bytes.ensures.value, c.as_str-3.ensures) at (c.in_err-execute.ensures.runs clean on) in
    let told = err_from_is_err_and c.from_residual.result c.from_residual.ensures.1 in
    rw (told.1, told.2) (said_now g.S.Store (λ (s : Statement). s ≡ own) old new own e refl runs)
