-- All that changes at the places so far; and what is known is so.
use Rattle.std.proofs.Common.{All, map, take}
use Rattle.desk_impact.specs.KnownSystems.{IsKnownChange}
use Rattle.desk_impact.specs.Places.{place_of}
use Rattle.page_places.specs.Changes.{row_value}
use Rattle.page_places.specs.PrivateImpacts.{AreAllAt}
use Rattle.page_places.proofs.impacts.changes_at_places.Given as goal

abbrev pub invariant-loop-place : goal.invariant-loop-place
invariant-loop-place g l = record {
  told : AreAllAt (g.V.PolicyView.in_force l.before) (g.V.PolicyView.in_force l.after) (map place_of (take l.place-index l.places)) (map row_value l.rows.items);
  known : All (IsKnownChange (g.V.PolicyView.in_force l.before) (g.V.PolicyView.in_force l.after)) l.known.items;
}
