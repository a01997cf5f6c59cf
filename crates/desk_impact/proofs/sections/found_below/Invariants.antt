-- What is found at the places so far, and what is known is so.
use Rattle.std.proofs.Common.{All, map, take}
use Rattle.desk_who.specs.Searching.{ByRule}
use Rattle.desk_impact.specs.Places.{place_of}
use Rattle.desk_impact.specs.PrivateKnownSystems.{AreKnownFindings}
use Rattle.desk_impact.specs.PrivateSections.{AreFoundAmong}
use Rattle.desk_impact.specs.Sections.{place_found}
use Rattle.desk_impact.proofs.sections.found_below.Given as goal

abbrev pub invariant-loop-place : goal.invariant-loop-place
invariant-loop-place g l = record {
  so_far : ByRule g.T.Alike.meaning (g.S.Search.found l.search) (g.S.Search.in_force l.search) (g.S.Search.turns l.search)
      (λ rule. AreFoundAmong rule (g.S.Search.in_force l.search) (map place_of (take l.place-index l.place-items)) (map (place_found g.T.Alike.meaning) l.sections.items));
  known : All (AreKnownFindings g.T.Alike.meaning (g.S.Search.found l.search) (g.S.Search.in_force l.search) (g.S.Search.turns l.search)) l.known.items;
}
