use Rattle.std.proofs.Common.{◌≡◌, ◌∙◌, sym, ap, subst, Err, List, Ok, All}
use Rattle.std.proofs.lemmas.Result.{err_from_is_err_and}
use Rattle.desk_policy.specs.Site.{HaveReadableLengths}
use Rattle.desk_core.specs.Foresight.{ForeseesSite, with_text}
use Rattle.desk_core.specs.Head.{CanBeKept, newest_in}
use Rattle.desk_core.specs.PrivateState.{IsSiteInForce, PutsInForce}
use Rattle.desk_core.specs.Site.{site_in}
use Rattle.desk_core.specs.declared.head.Head.{Head}
use Rattle.desk_core.proofs.Foreseeing.{text_readable, whole_faulty, whole_foreseen}
use Rattle.desk_core.proofs.state.State.foresee_site.Goals as goal

pub put_text_in_force-requires : goal.put_text_in_force-requires
put_text_in_force-requires g c =
    let kept : All CanBeKept c.args.self.now.heads = subst (λ s. All CanBeKept s.heads) c.self.view_is c.self.invariant.kept in
    let same : c.as_slice.result.now ≡ c.args.self.now.heads = c.as_slice.ensures.value ∙ ap (λ s. s.heads) c.self.view_is in
    subst (λ (hs : List Head). HaveReadableLengths (site_in (with_text (newest_in hs) c.args.file.now c.args.text.now))) (sym same) (text_readable c.args.self.now.heads c.args.file.now c.args.text.now kept c.requires)

pub returns-in_err-made : goal.returns-in_err-made
returns-in_err-made g c =
    let F = g.V.PolicyView.in_force in
    let state = c.args.self.now in
    let error = c.in_err-made.field-0.0 in
    let same : c.as_slice.result.now ≡ state.heads = c.as_slice.ensures.value ∙ ap (λ s. s.heads) c.self.view_is in
    let told = subst (λ (hs : List Head). PutsInForce F (site_in (with_text (newest_in hs) c.args.file.now c.args.text.now)) (Err error)) same c.in_err-made.ensures in
    let p = err_from_is_err_and c.from_residual.result c.from_residual.ensures.1 in
    rw (p.1, p.2) (whole_faulty F state c.args.file.now c.args.text.now error told)

pub returns : goal.returns
returns g c =
    let F = g.V.PolicyView.in_force in
    let state = c.args.self.now in
    let made = c.in_ok-made.made in
    let same : c.as_slice.result.now ≡ state.heads = c.as_slice.ensures.value ∙ ap (λ s. s.heads) c.self.view_is in
    let is = subst (λ (hs : List Head). IsSiteInForce F (site_in (with_text (newest_in hs) c.args.file.now c.args.text.now)) made) same c.in_ok-made.ensures in
    subst (λ site. ForeseesSite F state c.args.file.now c.args.text.now (Ok site)) (sym c.foreseen_in.ensures) (whole_foreseen F state c.args.file.now c.args.text.now made is)
