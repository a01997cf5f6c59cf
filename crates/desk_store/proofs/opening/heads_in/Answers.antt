-- What is kept of the revisions is judged; what is found holds of the whole ones.
use Rattle.std.proofs.Common.{◌≡◌, IsPermutation, ap, Err, filter_map, map, refl, subst, sym}
use Rattle.std.proofs.lemmas.Result.{err_from_is_err_and}
use Rattle.desk_store.specs.History.{approval_of, row_of}
use Rattle.desk_store.specs.StoredRows.{row_of_approval}
use Rattle.desk_store.specs.declared.error.DeskError.TheVariants as error
use Rattle.desk_store.proofs.Kept.{kept_storable, kept_unapproved}
use Rattle.desk_store.proofs.Restored.{heads_restored, lightened, none_foreign}
use Rattle.desk_store.proofs.SiteRows.{can_be_kept, heads_newest, if_both, not_numbered}
use Rattle.desk_store.proofs.opening.heads_in.Goals as goal

pub approve-requires : goal.approve-requires
approve-requires c =
    let of = c.in_ok-revisions.ensures.heads c.requires.0 c.requires.1 in
    record { bare = kept_unapproved of.revisions c.in_ok-revisions.revisions.items of.unapproved of.are_kept }

pub returns-in_err-revisions-clause-foreign : goal.returns-in_err-revisions-clause-foreign
returns-in_err-revisions-clause-foreign c = λ schema rows is_gathered history storable numbered revised approved.
    let p = err_from_is_err_and c.from_residual.result c.from_residual.ensures.1 in
    let is = p.1 in
    let from = p.2 in
    let told : c.in_err-revisions.field-0.0 ≡ error.Schema = cc in
    none_foreign rows (c.in_err-revisions.ensures.foreign (ap Err told) rows is_gathered) history storable revised

pub returns-in_err-approve-clause-foreign : goal.returns-in_err-approve-clause-foreign
returns-in_err-approve-clause-foreign c = λ schema rows is_gathered history storable numbered revised approved.
    let p = err_from_is_err_and c.from_residual-in_err-approve.result c.from_residual-in_err-approve.ensures.1 in
    let is = p.1 in
    let from = p.2 in
    let told : c.in_err-approve.field-0.0 ≡ error.Schema = cc in
    let given = c.in_ok-approvals.approvals.items in
    let light = lightened rows c.in_ok-revisions.revisions.items (c.in_ok-revisions.ensures.heads rows is_gathered) history revised in
    let own = subst (IsPermutation (filter_map approval_of history)) (sym c.in_ok-approvals.ensures.read) approved in
    c.in_err-approve.ensures.foreign (ap Err told) light.0 light.1 (subst (λ rs. IsPermutation rs (map row_of_approval given)) (sym light.2) own)

pub returns-clause-newest : goal.returns-clause-newest
returns-clause-newest c =
    let read = c.in_ok-revisions.revisions.items in
    let given = c.in_ok-approvals.approvals.items in
    let marked = c.approve.new.revisions.items in
    let a = c.in_ok-approve.ensures in
    if_both c.newest_heads.result _ _ _
    (λ heads newest newest' rows is_gathered.
    let of = c.in_ok-revisions.ensures.heads rows is_gathered in
    let storable = a.storable (kept_storable of.revisions read of.storable of.are_kept) c.in_ok-approvals.ensures.utf8 in
    heads_restored rows c.args.approvals.now read heads.items of
    (heads_newest (map row_of read) c.args.approvals.now read marked heads.items given refl c.in_ok-approvals.ensures.read a.same a.approved storable newest))
    c.newest_heads.ensures.newest c.newest_heads.ensures.newest

pub returns-clause-kept : goal.returns-clause-kept
returns-clause-kept c =
    let marked = c.approve.new.revisions.items in
    let of = c.in_ok-revisions.ensures.heads c.requires.0 c.requires.1 in
    let storable = kept_storable of.revisions c.in_ok-revisions.revisions.items of.storable of.are_kept in
    if_both c.newest_heads.result _ _ _ (λ heads among among'. can_be_kept marked heads.items (c.in_ok-approve.ensures.storable storable c.in_ok-approvals.ensures.utf8) among) c.newest_heads.ensures.among
    c.newest_heads.ensures.among

pub returns-clause-foreign : goal.returns-clause-foreign
returns-clause-foreign c = λ schema rows is_gathered history storable numbered revised approved.
    let read = c.in_ok-revisions.revisions.items in
    let light = lightened rows read (c.in_ok-revisions.ensures.heads rows is_gathered) history revised in
    not_numbered (map row_of read) read c.approve.new.revisions.items refl c.in_ok-approve.ensures.same (c.newest_heads.ensures.gap schema) light.0 (light.3 numbered) light.1
