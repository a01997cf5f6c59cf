use Rattle.std.proofs.Common.{◌≡◌, ◌∙◌, ap, sym, subst, Err, List}
use Rattle.std.specs.List.{list_all}
use Rattle.std.proofs.lemmas.Bool.{false≢true}
use Rattle.std.proofs.lemmas.Result.{err_from_is_err_and}
use Rattle.desk_core.specs.Head.{Revision, StandOnce}
use Rattle.desk_core.specs.History.{pending_in}
use Rattle.desk_core.specs.Judging.{seven}
use Rattle.desk_core.specs.Standing.{PendOnce}
use Rattle.desk_core.specs.State.{standing}
use Rattle.desk_store.specs.History.{revisions_in}
use Rattle.desk_store.specs.NewestRevisions.{has_revision}
use Rattle.desk_store.specs.declared.error.DeskError.TheVariants as error
use Rattle.desk_store.proofs.Revisions.{history_of}
use Rattle.desk_store.proofs.SiteRows.{can_be_pending, if_both, lacks_one, may_read, not_consistent, not_following, not_read, pending_low, site_history}
use Rattle.desk_store.proofs.opening.state_of_rows.Goals as goal

pub returns-in_err-heads-clause-foreign : goal.returns-in_err-heads-clause-foreign
returns-in_err-heads-clause-foreign g c = λ schema rows is_gathered history site same.
    let p = err_from_is_err_and c.from_residual.result c.from_residual.ensures.1 in
    let is = p.1 in
    let from = p.2 in
    let told : c.in_err-heads.field-0.0 ≡ error.Schema = cc in
    c.in_err-heads.ensures.foreign (ap Err told) rows is_gathered (revisions_in history) site.each (history_of (revisions_in history) site.numbered.numbered) same.revised same.approved

pub returns-then-not-has_the_seven-clause-foreign :
    goal.returns-then-not-has_the_seven-clause-foreign
returns-then-not-has_the_seven-clause-foreign g c = λ schema rows is_gathered history site same.
    let of_heads = ap (λ (heads : List Revision). list_all (has_revision heads) seven) (sym c.as_slice.ensures.value) in
    lacks_one rows c.args.approvals.now c.args.proposals.now c.in_ok-heads.heads.items (c.in_ok-heads.ensures.newest rows is_gathered) history site same
    (of_heads ∙ sym c.has_the_seven.ensures ∙ c.if-not-has_the_seven.true)

pub returns-in-Err-clause-foreign : goal.returns-in-Err-clause-foreign
returns-in-Err-clause-foreign g c = λ schema rows is_gathered history site same.
    let told : c.in-Err.e ≡ error.Schema = cc in
    c.in-Err.ensures.foreign (ap Err told) (pending_in history) site.pending
    (pending_low rows c.args.approvals.now c.args.proposals.now c.in_ok-heads.heads.items (c.in_ok-heads.ensures.newest rows is_gathered) history site same) same.proposed

pub returns-then-not-may_follow-clause-foreign : goal.returns-then-not-may_follow-clause-foreign
returns-then-not-may_follow-clause-foreign g c = λ schema rows is_gathered history site same.
    not_following rows c.args.approvals.now c.args.proposals.now c.in_ok-heads.heads.items (c.in_ok-heads.ensures.newest rows is_gathered) history site same c.in-Ok.proposals.items c.in-Ok.ensures.read
    (λ may. false≢true (sym c.if-not-may_follow.true ∙ c.may_follow.ensures.1 (not_read c.as_slice-2.ensures.value c.as_slice-3.ensures.value may)))

pub state_of_newest-requires-clause-proposals : goal.state_of_newest-requires-clause-proposals
state_of_newest-requires-clause-proposals g c =
    let rows = c.requires.0 in
    let is_gathered = c.requires.1 in
    can_be_pending rows c.args.approvals.now c.args.proposals.now c.in_ok-heads.heads.items (c.in_ok-heads.ensures.newest rows is_gathered) c.in-Ok.proposals.items
    (may_read c.as_slice-2.ensures.value c.as_slice-3.ensures.value (c.may_follow.ensures.0 c.if-not-may_follow.false))

pub returns-clause-history : goal.returns-clause-history
returns-clause-history g c = λ rows is_gathered.
    let of_heads = ap (λ (heads : List Revision). list_all (has_revision heads) seven) (sym c.as_slice.ensures.value) in
    if_both c.state_of_newest.result _ _ _
    (λ state made consistent. site_history rows c.args.approvals.now c.args.proposals.now c.in_ok-heads.heads.items (c.in_ok-heads.ensures.newest rows is_gathered) c.in-Ok.proposals.items c.in-Ok.ensures.read
    (may_read c.as_slice-2.ensures.value c.as_slice-3.ensures.value (c.may_follow.ensures.0 c.if-not-may_follow.false)) c.in-Ok.ensures.pending
    (of_heads ∙ sym c.has_the_seven.ensures ∙ c.if-not-has_the_seven.false) consistent (standing state) made)
    c.state_of_newest.ensures.made c.state_of_newest.ensures.consistent

pub returns-clause-once : goal.returns-clause-once
returns-clause-once g c =
    if_both c.state_of_newest.result _ _ _ (λ state kept kept'. subst StandOnce (sym kept) c.in_ok-heads.ensures.once) c.state_of_newest.ensures.kept c.state_of_newest.ensures.kept

pub returns-clause-proposals_once : goal.returns-clause-proposals_once
returns-clause-proposals_once g c =
    let may = may_read c.as_slice-2.ensures.value c.as_slice-3.ensures.value (c.may_follow.ensures.0 c.if-not-may_follow.false) in
    if_both c.state_of_newest.result _ _ _ (λ state pending pending'. subst PendOnce (sym pending) may.once) c.state_of_newest.ensures.pending c.state_of_newest.ensures.pending

pub returns-clause-foreign : goal.returns-clause-foreign
returns-clause-foreign g c = λ schema rows is_gathered history site same.
    not_consistent rows c.args.approvals.now c.args.proposals.now c.in_ok-heads.heads.items (c.in_ok-heads.ensures.newest rows is_gathered) history site same (c.state_of_newest.ensures.foreign schema)
