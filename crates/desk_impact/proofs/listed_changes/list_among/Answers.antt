use Rattle.std.proofs.Common.{map, subst, sym}
use Rattle.std.specs.List.{All}
use Rattle.std.proofs.lemmas.List.{take_all}
use Rattle.std.proofs.lemmas.List.Elements.{All-nil}
use Rattle.desk_impact.specs.KnownSystems.{IsKnownChange}
use Rattle.desk_impact.specs.ListedChanges.{listed_place}
use Rattle.desk_impact.specs.Places.{AreInOrder, paths_in, place_of, taken_by}
use Rattle.desk_impact.specs.PrivateListedChanges.{AreListedAmong}
use Rattle.desk_impact.specs.Writings.{AreWritings}
use Rattle.desk_impact.proofs.Listing.{next_listed, none_listed}
use Rattle.desk_impact.proofs.listed_changes.list_among.Goals as goal

pub loop-place-init : goal.loop-place-init
loop-place-init g c =
    let before = g.V.PolicyView.in_force c.args.before.now in
    let after = g.V.PolicyView.in_force c.args.after.now in
    record {
      listed = none_listed before after c.args.only c.new-listed.result.items c.new-listed.ensures.items;
      known = subst (All (IsKnownChange before after)) (sym c.new-known.ensures.items) (All-nil (IsKnownChange before after));
    }

pub list_place-requires : goal.list_place-requires
list_place-requires g c =
    let before = g.V.PolicyView.in_force c.args.before.now in
    let after = g.V.PolicyView.in_force c.args.after.now in
    record {
      taken =
          subst (λ items. AreInOrder (taken_by before after) (paths_in items)) (sym c.as_slice.ensures.value)
          (subst (λ content. AreInOrder (taken_by before content) (paths_in c.in_ok-taken.taken.items)) c.policy-2.ensures
          (subst (λ content. AreInOrder (taken_by content c.policy-2.result.now) (paths_in c.in_ok-taken.taken.items)) c.policy.ensures c.in_ok-taken.ensures));
      writings =
          subst (AreWritings before after) (sym c.as_slice-in-loop-place.ensures.value)
          (subst (λ content. AreWritings before content c.in_ok-writings.writings.items) c.policy-4.ensures
          (subst (λ content. AreWritings content c.policy-4.result.now c.in_ok-writings.writings.items) c.policy-3.ensures c.in_ok-writings.ensures));
      known = c.loop-place.invariant.known;
    }

pub loop-place-preserved : goal.loop-place-preserved
loop-place-preserved g c = record {
  listed = next_listed (g.V.PolicyView.in_force c.args.before.now) (g.V.PolicyView.in_force c.args.after.now) c.args.only
      c.args.places.now c.loop-place.place-index c.place-item.result c.loop-place-test.true c.place-item.is
      c.loop-place.listed.items c.push.new.self.items c.in_ok-one.one c.in_ok-push.ensures.items c.in_ok-one.ensures.place c.in_ok-one.ensures.changes c.loop-place.invariant.listed;
  known = c.in_ok-one.ensures.known;
}

pub returns : goal.returns
returns g c =
    let before = g.V.PolicyView.in_force c.args.before.now in
    let after = g.V.PolicyView.in_force c.args.after.now in
    subst (λ places. AreListedAmong before after c.args.only (map place_of places) (map listed_place c.loop-place.listed.items)) (take_all c.loop-place.place-index c.args.places.now c.loop-place-test.false)
    c.loop-place.invariant.listed
