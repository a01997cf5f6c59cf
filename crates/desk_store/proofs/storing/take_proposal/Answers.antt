use Rattle.std.proofs.Common.{IsTrue, Ok, Err, [], ◌∷◌, ◌≡◌, refl}
use Rattle.std.proofs.lemmas.Result.{err_from_is_err_and}
use Rattle.sqlite.specs.Held.{state}
use Rattle.sqlite.specs.State.{Executes, ExecutesInside, HasCleanDisk, State}
use Rattle.sqlite.specs.declared.types.Value.TheVariants.{Text as Words}
use Rattle.desk_store.specs.Error.{Statement, Step}
use Rattle.desk_store.specs.Storing.{TakesProposal}
use Rattle.desk_store.specs.Tables.{delete_proposal}
use Rattle.desk_store.proofs.Entries.{proposal_gone}
use Rattle.desk_store.proofs.Inside.{did_so, ran_inside}
use Rattle.desk_store.proofs.Said.{said_now}
use Rattle.desk_store.proofs.storing.take_proposal.Goals as goal

pub returns-clause-taken : goal.returns-clause-taken
returns-clause-taken g c =
    let old = state g.S.Store c.args.tx.now.conn.now in
    let new = state g.S.Store c.execute.new.self.conn.now in
    let file = c.args.file.now in
    let count = c.in_ok-execute.field-0 in
    let runs : HasCleanDisk new → IsTrue old.in_transaction → ExecutesInside 0 delete_proposal (Words file ∷ []) old new (Ok count) =
    λ clean on. rw (c.params-to_sql.ensures) at (c.in_ok-execute.ensures.runs clean on) in
    did_so old new _ (λ (s t : State). Executes delete_proposal (Words file ∷ []) s t (Ok count)) (TakesProposal file) (λ h has keyed. proposal_gone old new count has file keyed h)
    (ran_inside old new delete_proposal (Words file ∷ []) count _ _ _ c.in_ok-execute.ensures.ended runs c.in_ok-execute.ensures.survives)

pub returns-in_err-execute-clause-said : goal.returns-in_err-execute-clause-said
returns-in_err-execute-clause-said g c on clean =
    let old = c.args.tx.now.conn.now in
    let new = c.execute.new.self.conn.now in
    let file = c.args.file.now in
    let own : Statement = Step delete_proposal (Words file ∷ []) in
    let e = c.in_err-execute.field-0.0 in
    let runs : ExecutesInside 0 delete_proposal (Words file ∷ []) (state g.S.Store old) (state g.S.Store new) (Err e) = rw (c.params-to_sql.ensures) at (c.in_err-execute.ensures.runs clean on) in
    let p = err_from_is_err_and c.from_residual.result c.from_residual.ensures.1 in
    rw (p.1, p.2) (said_now g.S.Store (λ (s : Statement). s ≡ own) old new own e refl runs)
