use Rattle.std.proofs.Common.{◌≡◌, ◌∙◌, ap, map, subst}
use Rattle.std.proofs.lemmas.Result.{IfOk-weaker}
use Rattle.desk_impact.specs.Places.{AreInOrder, paths_in, place_of}
use Rattle.page_places.specs.Changes.{row_value}
use Rattle.page_places.specs.Directories.{own_dirs, places_with}
use Rattle.page_places.specs.PrivateChanges.{AreAllChanges}
use Rattle.page_places.specs.PrivateImpacts.{AreAllAt}
use Rattle.page_places.proofs.changes.changes_below.Goals as goal

pub returns : goal.returns
returns g c =
    let old = g.V.PolicyView.in_force c.args.before.now in
    let new = g.V.PolicyView.in_force c.args.lines.now in
    let fs = c.args.fs.0 in
    let mount = c.args.mount.now in
    let dirs = paths_in c.in_ok-dirs.dirs.items in
    let order : AreInOrder (own_dirs old new fs) dirs =
    subst (λ content. AreInOrder (own_dirs old content fs) dirs) c.policy-2.ensures (subst (λ content. AreInOrder (own_dirs content c.policy-2.result.now fs) dirs) c.policy.ensures c.in_ok-dirs.ensures) in
    let are : map place_of c.as_slice-2.result.now ≡ places_with mount dirs =
    ap (map place_of) c.as_slice-2.ensures.value ∙ c.in_ok-places.ensures ∙ ap (λ items. places_with mount (paths_in items)) c.as_slice.ensures.value in
    IfOk-weaker c.changes_at_places.result (λ rows. AreAllAt old new (map place_of c.as_slice-2.result.now) (map row_value rows.items)) (λ rows. AreAllChanges old new fs (map row_value rows.items))
    (λ rows all. record {
      found = all.found;
      places = record { mount = mount; dirs = dirs; mount_is = c.requires; dirs_are = order; are = all.places_are ∙ are };
      impacts = all.impacts;
      are = all.are;
    })
    c.changes_at_places.ensures
