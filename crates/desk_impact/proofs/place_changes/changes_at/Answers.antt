use Rattle.std.proofs.Common.{◌≡◌, ◌∙◌, IfOk, ap, map, subst, sym}
use Rattle.std.proofs.lemmas.List.{get_or_default}
use Rattle.std.proofs.lemmas.Result.{IfOk-weaker}
use Rattle.desk_tables.specs.FileSystems.{fs_of}
use Rattle.desk_impact.specs.Impact.{IsImpact, change_value}
use Rattle.desk_impact.specs.declared.changes.TwoVerdicts.{TwoVerdicts as KeptVerdicts}
use Rattle.desk_impact.specs.KnownSystems.{IsKnownChange}
use Rattle.desk_impact.specs.Places.{Others, place_of, place_verdicts}
use Rattle.desk_impact.specs.PrivatePlaces.{path_of}
use Rattle.desk_impact.specs.declared.known_systems.Known.{Known}
use Rattle.desk_impact.specs.declared.places.Place.{Place as LentPlace}
use Rattle.desk_impact.proofs.Learned.{is_known, known_others}
use Rattle.desk_impact.proofs.place_changes.changes_at.Goals as goal

pub learn_changes-requires : goal.learn_changes-requires
learn_changes-requires g c = record { taken = c.requires.taken; known = c.requires.known }

pub returns-in-Directory-clause-changes : goal.returns-in-Directory-clause-changes
returns-in-Directory-clause-changes g c =
    let old = g.V.PolicyView.in_force c.args.before.now in
    let new = g.V.PolicyView.in_force c.args.after.now in
    subst (λ place. IfOk c.changes_beside.result (λ changes. IsImpact old new (place_verdicts old new (place_of place)) (map change_value changes.items))) (sym c.in-Directory.is)
    c.changes_beside.ensures

pub returns-in-Others-clause-changes : goal.returns-in-Others-clause-changes
returns-in-Others-clause-changes g c =
    let old = g.V.PolicyView.in_force c.args.before.now in
    let new = g.V.PolicyView.in_force c.args.after.now in
    let path = c.path_of.result.now in
    let mount = c.in-Others.field-0.now in
    let items = c.learn_changes.new.known.items in
    let at = c.in_ok-own.ensures.own in
    let known : IsKnownChange old new at.one = is_known (IsKnownChange old new) items (fs_of old.table path) (fs_of new.table path) c.in_ok-own.own at c.in_ok-own.ensures.all in
    let here : path ≡ mount = c.path_of.ensures ∙ ap (λ (place : LentPlace). path_of (place_of place)) c.in-Others.is in
    let one = c.index-one.result.now in
    let same : one ≡ at.one = c.index-one.ensures ∙ get_or_default items c.in_ok-own.own one at.one at.within ∙ at.there in
    let impact : IsImpact old new (place_verdicts old new (Others mount)) (map change_value at.one.found) =
    subst (λ dir. IsImpact old new (place_verdicts old new (Others dir)) (map change_value at.one.found)) here (known_others old new at.one path known at.old_is at.new_is) in
    subst (λ place. IfOk c.copied.result (λ changes. IsImpact old new (place_verdicts old new (place_of place)) (map change_value changes.items))) (sym c.in-Others.is)
    (IfOk-weaker c.copied.result (λ copy. copy.items ≡ c.as_slice.result.now) (λ changes. IsImpact old new (place_verdicts old new (Others mount)) (map change_value changes.items))
    (λ copy is.
    subst (λ found. IsImpact old new (place_verdicts old new (Others mount)) (map change_value found)) (sym (is ∙ c.as_slice.ensures ∙ ap (λ (k : Known KeptVerdicts). k.found) same)) impact)
    c.copied.ensures)
