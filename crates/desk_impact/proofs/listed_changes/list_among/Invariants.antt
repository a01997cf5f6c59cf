-- The places so far are listed, and what is known is so.
use Rattle.std.proofs.Common.{All, map, take}
use Rattle.desk_impact.specs.KnownSystems.{IsKnownChange}
use Rattle.desk_impact.specs.ListedChanges.{listed_place}
use Rattle.desk_impact.specs.Places.{place_of}
use Rattle.desk_impact.specs.PrivateListedChanges.{AreListedAmong}
use Rattle.desk_impact.proofs.listed_changes.list_among.Given as goal

abbrev pub invariant-loop-place : goal.invariant-loop-place
invariant-loop-place g l = record {
  listed : AreListedAmong (g.V.PolicyView.in_force l.before) (g.V.PolicyView.in_force l.after) l.only (map place_of (take l.place-index l.places)) (map listed_place l.listed.items);
  known : All (IsKnownChange (g.V.PolicyView.in_force l.before) (g.V.PolicyView.in_force l.after)) l.known.items;
}
