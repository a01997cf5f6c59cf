use Rattle.std.proofs.Common.{ap, map, refl, subst, sym, true}
use Rattle.std.specs.List.{All}
use Rattle.std.proofs.lemmas.List.Elements.{All-nil}
use Rattle.desk_policy.specs.Policy.{Content}
use Rattle.desk_who.specs.Runs.{run_value}
use Rattle.desk_impact.specs.Places.{AreInOrder, paths_in, place_of, taken_by}
use Rattle.desk_impact.specs.PrivateKnownSystems.{AreKnownFindings}
use Rattle.desk_impact.specs.Writings.{AreWritings}
use Rattle.desk_impact.specs.Sections.{ArePlacesBelow, place_found}
use Rattle.desk_impact.proofs.Found.{all, next, none_yet}
use Rattle.desk_impact.proofs.sections.found_below.Goals as goal

pub loop-place-init : goal.loop-place-init
loop-place-init g c =
    let meaning = g.T.Alike.meaning in
    let sought = c.args.search.now in
    let content = g.S.Search.in_force sought in
    let are_known = AreKnownFindings meaning (g.S.Search.found sought) content (g.S.Search.turns sought) in
    record {
      so_far = λ rule of. none_yet rule content (map (place_found meaning) c.new-sections.result.items) (ap (map (place_found meaning)) c.new-sections.ensures.items);
      known = subst (All are_known) (sym c.new-known.ensures.items) (All-nil are_known);
    }

pub findings_at-requires : goal.findings_at-requires
findings_at-requires g c =
    let content = g.S.Search.in_force c.args.search.now in
    record {
      taken = subst (λ paths. AreInOrder (taken_by content content) (paths_in paths)) (sym c.as_slice.ensures.value)
          (subst (λ one. AreInOrder (taken_by one one) (paths_in c.in_ok-taken.taken.items)) c.requires c.in_ok-taken.ensures);
      writings = subst (AreWritings content content) (sym c.as_slice-in-loop-place.ensures.value)
          (subst (λ one. AreWritings one one c.in_ok-writings.writings.items) c.requires c.in_ok-writings.ensures);
      known = c.loop-place.invariant.known;
    }

pub loop-place-preserved : goal.loop-place-preserved
loop-place-preserved g c =
    let meaning = g.T.Alike.meaning in
    record {
      so_far = λ rule of. next rule (g.S.Search.in_force c.args.search.now) c.as_slice-place-items.result.now c.loop-place.place-index c.place-item.result c.loop-place-test.true c.place-item.is
          (map (place_found meaning) c.loop-place.sections.items) (map (place_found meaning) c.push_if_some.new.sections.items) (c.loop-place.invariant.so_far rule of)
          (record {
            found = record { place = place_of c.place-item.result; ranges = map (run_value meaning) c.in_ok-runs.runs.items };
            place_is = refl;
            runs = c.in_ok-runs.ensures.runs rule of;
            added = c.in_ok-push_if_some.ensures;
          });
      known = c.in_ok-runs.ensures.known;
    }

pub returns : goal.returns
returns g c = λ rule of.
    let meaning = g.T.Alike.meaning in
    let content = g.S.Search.in_force c.args.search.now in
    let dir = c.args.dir.now in
    let items = c.as_slice-place-items.result.now in
    let places : ArePlacesBelow content dir (map place_of items) =
    subst (λ some. ArePlacesBelow content dir (map place_of some)) (sym c.as_slice-place-items.ensures.value)
    (subst (λ (one : Content). ArePlacesBelow one dir (map place_of c.in_ok-places.places.items)) c.requires c.in_ok-places.ensures) in
    all rule content dir true items c.loop-place.place-index (map (place_found meaning) c.loop-place.sections.items) places c.loop-place-test.false (c.loop-place.invariant.so_far rule of)
