use Rattle.std.proofs.Common.{◌≡◌, ◌∙◌, ap, sym, subst, Err, All, arith}
use Rattle.std.proofs.lemmas.List.Elements.{All-push}
use Rattle.desk_store.specs.StoredRows.{HasUtf8Approver, row_of_approval}
use Rattle.desk_store.specs.declared.error.DeskError.TheVariants as error
use Rattle.desk_store.proofs.StoredRows.{not_approved, pushed, read_more}
use Rattle.desk_store.proofs.stored_rows.approvals_in.Goals as goal

pub returns-in-Err-clause-foreign : goal.returns-in-Err-clause-foreign
returns-in-Err-clause-foreign c = λ schema history all same.
    let told : c.in-Err.e ≡ error.Schema = cc in
    not_approved c.args.rows.now c.loop-row.row-index c.row-item.result (omega arith) c.row-item.is (c.in-Err.ensures.foreign (ap Err told)) history all same

pub loop-row-preserved : goal.loop-row-preserved
loop-row-preserved c =
    let approvals = c.loop-row.approvals.items in
    let approval = c.in-Ok.approval in
    let more = pushed c.push.result approvals c.push.new.self.items approval (sym c.is_err.ensures.value ∙ c.if-is_err.false) c.push.ensures.items in
    let so_far = c.loop-row.invariant in (
      read_more row_of_approval c.args.rows.now c.loop-row.row-index c.row-item.result approvals c.push.new.self.items approval (omega arith) c.row-item.is more c.in-Ok.ensures.read so_far.0,
      subst (All HasUtf8Approver) (sym more) (All-push HasUtf8Approver approvals approval so_far.1 c.in-Ok.ensures.utf8),
    )
