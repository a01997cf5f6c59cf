use Rattle.std.proofs.Common.{◌++◌, ◌∙◌, List, ap, map, subst, sym, take}
use Rattle.std.specs.List.{All}
use Rattle.std.proofs.lemmas.List.{take_all}
use Rattle.std.proofs.lemmas.List.Elements.{All-nil}
use Rattle.desk_who.specs.declared.runs.Run.{Run}
use Rattle.desk_impact.specs.Impact.{change_value}
use Rattle.desk_impact.specs.KnownSystems.{IsKnownChange}
use Rattle.desk_impact.specs.Places.{AreInOrder, paths_in, place_of, taken_by}
use Rattle.desk_impact.specs.Writings.{AreWritings}
use Rattle.desk_impact.specs.declared.changes.TwoVerdicts.{TwoVerdicts}
use Rattle.page_places.specs.Changes.{each_with, row_value}
use Rattle.page_places.specs.PrivateImpacts.{AreAllAt}
use Rattle.page_places.proofs.Gathered.{more, none_at, one_more}
use Rattle.page_places.proofs.impacts.changes_at_places.Goals as goal

pub loop-place-init : goal.loop-place-init
loop-place-init g c =
    let old = g.V.PolicyView.in_force c.args.before.now in
    let new = g.V.PolicyView.in_force c.args.after.now in
    record {
      told = none_at old new (map row_value c.new-rows.result.items) (ap (map row_value) c.new-rows.ensures.items);
      known = subst (All (IsKnownChange old new)) (sym c.new-known.ensures.items) (All-nil (IsKnownChange old new));
    }

pub changes_at-requires : goal.changes_at-requires
changes_at-requires g c =
    let old = g.V.PolicyView.in_force c.args.before.now in
    let new = g.V.PolicyView.in_force c.args.after.now in
    let taken = c.in_ok-taken.taken.items in
    let writings = c.in_ok-writings.writings.items in
    record {
      taken =
          subst (λ items. AreInOrder (taken_by old new) (paths_in items)) (sym c.as_slice.ensures.value)
          (subst (λ content. AreInOrder (taken_by old content) (paths_in taken)) c.policy-2.ensures
          (subst (λ content. AreInOrder (taken_by content c.policy-2.result.now) (paths_in taken)) c.policy.ensures c.in_ok-taken.ensures));
      writings =
          subst (AreWritings old new) (sym c.as_slice-in-loop-place.ensures.value)
          (subst (λ content. AreWritings old content writings) c.policy-4.ensures
          (subst (λ content. AreWritings content c.policy-4.result.now writings) c.policy-3.ensures c.in_ok-writings.ensures));
      known = c.loop-place.invariant.known;
    }

pub loop-place-preserved : goal.loop-place-preserved
loop-place-preserved g c =
    let old = g.V.PolicyView.in_force c.args.before.now in
    let new = g.V.PolicyView.in_force c.args.after.now in
    let i = c.loop-place.place-index in
    let places = c.args.places.now in
    let place = place_of c.place-item.result in
    let rows = map row_value c.loop-place.rows.items in
    record {
      told =
          subst (λ some. AreAllAt old new some (map row_value c.push_changes.new.rows.items)) (sym (more place_of places i c.place-item.result c.loop-place-test.true c.place-item.is))
          (one_more old new (map place_of (take i places)) rows (map row_value c.push_changes.new.rows.items) place (map change_value c.in_ok-changes.changes.items) c.loop-place.invariant.told
          c.in_ok-changes.ensures.changes
          (c.in_ok-push_changes.ensures ∙ ap (λ (items : List (Run TwoVerdicts)). rows ++ each_with place (map change_value items)) c.as_slice-in-loop-place-2.ensures.value));
      known = c.in_ok-changes.ensures.known;
    }

pub returns : goal.returns
returns g c =
    subst (λ some. AreAllAt (g.V.PolicyView.in_force c.args.before.now) (g.V.PolicyView.in_force c.args.after.now) (map place_of some) (map row_value c.loop-place.rows.items))
    (take_all c.loop-place.place-index c.args.places.now c.loop-place-test.false) c.loop-place.invariant.told
