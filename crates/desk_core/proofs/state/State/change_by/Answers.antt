use Rattle.std.proofs.Common.{◌≡◌, ◌∙◌, sym, ap, subst, Err, List, All}
use Rattle.std.specs.Option.{option_map}
use Rattle.std.proofs.lemmas.Result.{err_from_is_err_and}
use Rattle.desk_tables.specs.declared.filesystems.FsId.{FsId}
use Rattle.desk_tables.specs.declared.filesystems.Mount.{Mount}
use Rattle.desk_policy.specs.Policy.{Content}
use Rattle.desk_policy.specs.Site.{HaveReadableLengths}
use Rattle.desk_policy.specs.SiteFile.{exports_place}
use Rattle.desk_core.specs.Foresight.{with_text}
use Rattle.desk_core.specs.Head.{CanBeKept, newest_in}
use Rattle.desk_core.specs.PrivateState.{IsSiteInForce, PutsInForce, site_with}
use Rattle.desk_core.specs.Site.{site_in}
use Rattle.desk_core.specs.declared.head.Head.{Head}
use Rattle.desk_core.proofs.Changing.{is_no_place, is_place, whole_put, whole_refused}
use Rattle.desk_core.proofs.Foreseeing.{text_readable}
use Rattle.desk_core.proofs.state.State.change_by.Goals as goal

pub lines_by-requires-clause-place : goal.lines_by-requires-clause-place
lines_by-requires-clause-place g c =
    let table = c.filesystems.ensures ∙ ap (λ (k : Content). k.table) (c.policy.ensures ∙ ap (λ s. g.V.PolicyView.in_force s.view) c.self.view_is) in
    let made : List Mount → _ = λ ms. option_map (λ place. let fs : FsId = record { 0 = place } in fs) (exports_place ms c.args.file.now) in
    is_place (exports_place (g.V.PolicyView.in_force c.args.self.now.view).table c.args.file.now) c.in-Some.fs (ap made (sym table) ∙ sym c.exports_place.ensures ∙ c.in-Some.is)

pub put_text_in_force-requires : goal.put_text_in_force-requires
put_text_in_force-requires g c =
    let kept : All CanBeKept c.args.self.now.heads = subst (λ s. All CanBeKept s.heads) c.self.view_is c.self.invariant.kept in
    let same : c.as_slice.result.now ≡ c.args.self.now.heads = c.as_slice.ensures.value ∙ ap (λ s. s.heads) c.self.view_is in
    subst (λ (hs : List Head). HaveReadableLengths (site_in (with_text (newest_in hs) c.args.file.now c.args.text.now))) (sym same) (text_readable c.args.self.now.heads c.args.file.now c.args.text.now kept c.requires)

pub returns-in_err-put_text_in_force-in-None : goal.returns-in_err-put_text_in_force-in-None
returns-in_err-put_text_in_force-in-None g c =
    let F = g.V.PolicyView.in_force in
    let state = c.args.self.now in
    let file = c.args.file.now in
    let text = c.args.text.now in
    let error = c.in_err-put_text_in_force-in-None.field-0.0 in
    let same : c.as_slice.result.now ≡ state.heads = c.as_slice.ensures.value ∙ ap (λ s. s.heads) c.self.view_is in
    let told = subst (λ (hs : List Head). PutsInForce F (site_in (with_text (newest_in hs) file text)) (Err error)) same c.in_err-put_text_in_force-in-None.ensures in
    let p = err_from_is_err_and c.from_residual.result c.from_residual.ensures.1 in
    rw (p.1, p.2) (whole_refused F g.V.PolicyView.part_rows state file (site_with state file text) error told)

pub returns-in_ok-put_text_in_force-in-None : goal.returns-in_ok-put_text_in_force-in-None
returns-in_ok-put_text_in_force-in-None g c =
    let F = g.V.PolicyView.in_force in
    let state = c.args.self.now in
    let file = c.args.file.now in
    let text = c.args.text.now in
    let made = c.in_ok-put_text_in_force-in-None.field-0 in
    let same : c.as_slice.result.now ≡ state.heads = c.as_slice.ensures.value ∙ ap (λ s. s.heads) c.self.view_is in
    let is = subst (λ (hs : List Head). IsSiteInForce F (site_in (with_text (newest_in hs) file text)) made) same c.in_ok-put_text_in_force-in-None.ensures in
    let table = c.filesystems.ensures ∙ ap (λ (k : Content). k.table) (c.policy.ensures ∙ ap (λ s. F s.view) c.self.view_is) in
    let place : List Mount → _ = λ ms. option_map (λ place. let fs : FsId = record { 0 = place } in fs) (exports_place ms file) in (
      is_no_place (exports_place (F state.view).table file) (ap place (sym table) ∙ sym c.exports_place.ensures ∙ c.in-None.is),
      whole_put F state (site_with state file text) made is,
    )
