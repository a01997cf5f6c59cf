-- The findings so far are those of the spots so far.
use Rattle.std.proofs.Common.{◌≡◌, ◌++◌, map, take}
use Rattle.desk_findings.specs.CheckOdd.{tell_spot}
use Rattle.desk_findings.specs.Told.{IsFront, told}
use Rattle.desk_findings.proofs.check_odd.push_spots.Given as goal

abbrev pub invariant-loop-spot : goal.invariant-loop-spot
invariant-loop-spot l = record {
  told : map told l.found ≡ map told l.initial.found ++ map (tell_spot l.source) (take l.spot-index l.spots);
  front : IsFront (map (λ line. line.now) l.lines.items) l.front;
}
