-- Each place so far is on the line.
use Rattle.std.specs.List.{All}
use Rattle.desk_exports.specs.Places.{IsOnLine}
use Rattle.desk_exports.proofs.places.name_places.Given as goal

abbrev pub invariant-loop-index : goal.invariant-loop-index
invariant-loop-index l = All (IsOnLine l.line) l.places.items
