use Rattle.std.proofs.Common.{◌≡◌, ◌∙◌, Ok, ap, subst, sym}
use Rattle.desk_tables.specs.Custodians.{read_custodians}
use Rattle.desk_policy.specs.Parsing.{read_site_tables}
use Rattle.desk_core.specs.Head.{newest_in, put}
use Rattle.desk_core.specs.PrivateState.{MayStand}
use Rattle.desk_core.specs.Site.{site_in}
use Rattle.desk_core.specs.Standing.{PendOnce}
use Rattle.desk_core.specs.State.{changed}
use Rattle.desk_core.specs.Views.{shown}
use Rattle.desk_core.proofs.Changing.{may_stand, revised, view_revised}
use Rattle.desk_core.proofs.state.State.revise.Goals as goal

pub put_change-requires : goal.put_change-requires
put_change-requires g c =
    let F = g.V.PolicyView.in_force in
    let state = c.args.self.now in
    let change = shown g.V.PolicyView.part_rows c.args.change in
    subst (λ s. MayStand (F s.view) change) (sym c.self.view_is)
    (may_stand (F state.view) (site_in (newest_in state.heads)) (site_in (put (newest_in state.heads) c.args.head)) change c.requires.site.rests_on)

pub invariant_of-self : goal.invariant_of-self
invariant_of-self g c =
    let F = g.V.PolicyView.in_force in
    let state = c.args.self.now in
    let change = shown g.V.PolicyView.part_rows c.args.change in
    let custodians_are = subst (λ s. read_custodians (site_in (newest_in s.heads)).files.custodians ≡ Ok c.self.inside.site.custodians) c.self.view_is c.self.invariant.custodians_are in
    let tables_are = subst (λ s. read_site_tables (site_in (newest_in s.heads)) ≡ Ok c.self.inside.site.tables) c.self.view_is c.self.invariant.tables_are in
    let newest = c.put_revision.ensures.newest ∙ ap (λ s. put (newest_in s.heads) c.args.head) c.self.view_is in
    let kept = c.put_revision.ensures.kept c.requires.can_be_kept c.self.invariant.kept in
    let pending = c.put_revision.ensures.pending c.self.invariant.pending in
    let view = c.put_change.ensures.view ∙ ap (λ s. changed F (F s.view) change) c.self.view_is in
    revised F state c.self.inside.site.custodians _ c.self.inside.site.tables _ change c.args.head _ _ _ custodians_are tables_are c.requires.site newest kept pending c.put_change.ensures.custodians c.put_change.ensures.tables view

pub returns-clause-view : goal.returns-clause-view
returns-clause-view g c =
    let F = g.V.PolicyView.in_force in
    let state = c.args.self.now in
    let change = shown g.V.PolicyView.part_rows c.args.change in
    let newest = c.put_revision.ensures.newest ∙ ap (λ s. put (newest_in s.heads) c.args.head) c.self.view_is in
    let view = c.put_change.ensures.view ∙ ap (λ s. changed F (F s.view) change) c.self.view_is in
    view_revised F state change c.args.head _ _ c.requires.site newest view

pub returns-clause-proposals_once : goal.returns-clause-proposals_once
returns-clause-proposals_once g c once = c.put_revision.ensures.proposals_once (subst (λ s. PendOnce s.proposals) (sym c.self.view_is) once)
