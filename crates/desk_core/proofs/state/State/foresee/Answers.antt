use Rattle.std.proofs.Common.{◌≡◌, ◌∙◌, sym, ap, subst, Err, List, All}
use Rattle.std.specs.Option.{option_map}
use Rattle.std.proofs.lemmas.Result.{err_from_is_err_and}
use Rattle.desk_tables.specs.declared.filesystems.FsId.{FsId}
use Rattle.desk_tables.specs.declared.filesystems.Mount.{Mount}
use Rattle.desk_policy.specs.Policy.{Content}
use Rattle.desk_policy.specs.Site.{HaveReadableLengths}
use Rattle.desk_policy.specs.SiteFile.{exports_place}
use Rattle.desk_core.specs.Foresight.{with_text}
use Rattle.desk_core.specs.Head.{CanBeKept, newest_in}
use Rattle.desk_core.specs.PrivateState.{IsSiteInForce, PutsInForce, site_with}
use Rattle.desk_core.specs.Site.{IsInForce, site_in}
use Rattle.desk_core.specs.declared.head.Head.{Head}
use Rattle.desk_core.proofs.Changing.{is_no_place, is_place}
use Rattle.desk_core.proofs.Foreseeing.{lines_faulty, site_faulty, text_readable}
use Rattle.desk_core.proofs.state.State.foresee.Goals as goal

pub returns-in_err-view_of_lines-in-Some : goal.returns-in_err-view_of_lines-in-Some
returns-in_err-view_of_lines-in-Some g c =
    let error = c.in_err-view_of_lines-in-Some.field-0.0 in
    let p = err_from_is_err_and c.from_residual.result c.from_residual.ensures.1 in
    rw (p.1, p.2) (lines_faulty g.V.PolicyView.in_force c.args.self.now c.args.file.now c.args.text.now c.in-Some.fs.0 error c.in_err-view_of_lines-in-Some.ensures)

pub put_text_in_force-requires : goal.put_text_in_force-requires
put_text_in_force-requires g c =
    let kept : All CanBeKept c.args.self.now.heads = subst (λ s. All CanBeKept s.heads) c.self.view_is c.self.invariant.kept in
    let same : c.as_slice.result.now ≡ c.args.self.now.heads = c.as_slice.ensures.value ∙ ap (λ s. s.heads) c.self.view_is in
    subst (λ (hs : List Head). HaveReadableLengths (site_in (with_text (newest_in hs) c.args.file.now c.args.text.now))) (sym same) (text_readable c.args.self.now.heads c.args.file.now c.args.text.now kept c.requires)

pub returns-in_err-site-in-None : goal.returns-in_err-site-in-None
returns-in_err-site-in-None g c =
    let F = g.V.PolicyView.in_force in
    let state = c.args.self.now in
    let error = c.in_err-site-in-None.field-0.0 in
    let same : c.as_slice.result.now ≡ state.heads = c.as_slice.ensures.value ∙ ap (λ s. s.heads) c.self.view_is in
    let told = subst (λ (hs : List Head). PutsInForce F (site_in (with_text (newest_in hs) c.args.file.now c.args.text.now)) (Err error)) same c.in_err-site-in-None.ensures in
    let p = err_from_is_err_and c.from_residual-in_err-site-in-None.result c.from_residual-in_err-site-in-None.ensures.1 in
    rw (p.1, p.2) (site_faulty F state c.args.file.now c.args.text.now error told)

pub returns-in_ok-view_of_lines-in-Some : goal.returns-in_ok-view_of_lines-in-Some
returns-in_ok-view_of_lines-in-Some g c =
    let F = g.V.PolicyView.in_force in
    let state = c.args.self.now in
    let file = c.args.file.now in
    let told = c.in_ok-view_of_lines-in-Some.ensures in
    let table = c.filesystems.ensures ∙ ap (λ (k : Content). k.table) (c.policy.ensures ∙ ap (λ s. F s.view) c.self.view_is) in
    let place : List Mount → _ = λ ms. option_map (λ place. let fs : FsId = record { 0 = place } in fs) (exports_place ms file) in
    ((is_place (exports_place (F state.view).table file) c.in-Some.fs (ap place (sym table) ∙ sym c.exports_place.ensures ∙ c.in-Some.is), told.0), told.1)

pub returns-in_ok-site-in-None : goal.returns-in_ok-site-in-None
returns-in_ok-site-in-None g c =
    let F = g.V.PolicyView.in_force in
    let state = c.args.self.now in
    let file = c.args.file.now in
    let text = c.args.text.now in
    let made = c.in_ok-site-in-None.site in
    let same : c.as_slice.result.now ≡ state.heads = c.as_slice.ensures.value ∙ ap (λ s. s.heads) c.self.view_is in
    let is = subst (λ (hs : List Head). IsSiteInForce F (site_in (with_text (newest_in hs) file text)) made) same c.in_ok-site-in-None.ensures in
    let table = c.filesystems.ensures ∙ ap (λ (k : Content). k.table) (c.policy.ensures ∙ ap (λ s. F s.view) c.self.view_is) in
    let place : List Mount → _ = λ ms. option_map (λ place. let fs : FsId = record { 0 = place } in fs) (exports_place ms file) in (
      is_no_place (exports_place (F state.view).table file) (ap place (sym table) ∙ sym c.exports_place.ensures ∙ c.in-None.is),
      subst (λ v. IsInForce (site_with state file text) (F v)) (sym c.view_of.ensures) is.view,
    )
