-- None of the names so far is a bad one.
use Rattle.std.proofs.Common.{◌≡◌, take, None}
use Rattle.std.specs.List.{position}
use Rattle.desk_exports.specs.Rules.{is_bad_name}
use Rattle.desk_exports.proofs.places.bad_name_place.Given as goal

abbrev pub invariant-loop-index : goal.invariant-loop-index
invariant-loop-index l = position is_bad_name (take l.index l.names) ≡ None
