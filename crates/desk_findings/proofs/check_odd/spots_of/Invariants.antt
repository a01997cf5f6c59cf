-- The spots so far.
use Rattle.std.proofs.Common.{◌≡◌, map, take}
use Rattle.std.specs.List.{All}
use Rattle.desk_findings.specs.CheckOdd.{IsSpot, odd_at, odd_of_spot}
use Rattle.desk_findings.specs.PrivateCheckOdd.{AreWordsIn}
use Rattle.desk_findings.proofs.check_odd.spots_of.Given as goal

abbrev pub invariant-loop-odd : goal.invariant-loop-odd
invariant-loop-odd l = record {
  same : map odd_of_spot l.spots.items ≡ map odd_at (take l.odd-index l.odds);
  places : All (IsSpot l.text) l.spots.items;
  last : AreWordsIn l.lines.items l.last;
}
