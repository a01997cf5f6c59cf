-- Each place so far is on the line.
use Rattle.std.specs.List.{All}
use Rattle.desk_netgroup.specs.Slices.{IsOnLine}
use Rattle.desk_netgroup.proofs.slices.places_of_members.Given as goal

abbrev pub invariant-loop-token : goal.invariant-loop-token
invariant-loop-token l = All (IsOnLine l.line) l.places.items
