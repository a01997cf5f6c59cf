use Rattle.std.proofs.Common.{◌≡◌, ◌∙◌, ap, sym, subst, Err, All, arith}
use Rattle.std.proofs.lemmas.List.Elements.{All-push}
use Rattle.desk_core.specs.Standing.{CanBePending}
use Rattle.desk_store.specs.Desk.{MayPend}
use Rattle.desk_store.specs.History.{proposed_row}
use Rattle.desk_store.specs.declared.error.DeskError.TheVariants as error
use Rattle.desk_store.proofs.StoredRows.{not_said, pushed, read_more}
use Rattle.desk_store.proofs.stored_rows.proposals_in.Goals as goal

pub returns-in-Err-clause-foreign : goal.returns-in-Err-clause-foreign
returns-in-Err-clause-foreign c = λ schema pending may can same.
    let told : c.in-Err.e ≡ error.Schema = cc in
    not_said c.args.rows.now c.loop-row.row-index c.row-item.result (omega arith) c.row-item.is proposed_row (λ proposal. MayPend proposal × CanBePending proposal)
    (λ proposal both. c.in-Err.ensures.foreign (ap Err told) proposal both.0 both.1) pending (λ k d below. (may k d below, can k d below)) same

pub loop-row-preserved : goal.loop-row-preserved
loop-row-preserved c =
    let proposals = c.loop-row.proposals.items in
    let proposal = c.in-Ok.proposal in
    let more = pushed c.push.result proposals c.push.new.self.items proposal (sym c.is_err.ensures.value ∙ c.if-is_err.false) c.push.ensures.items in
    let so_far = c.loop-row.invariant in (
      read_more proposed_row c.args.rows.now c.loop-row.row-index c.row-item.result proposals c.push.new.self.items proposal (omega arith) c.row-item.is more c.in-Ok.ensures.read so_far.0,
      subst (All MayPend) (sym more) (All-push MayPend proposals proposal so_far.1 c.in-Ok.ensures.pending),
    )
