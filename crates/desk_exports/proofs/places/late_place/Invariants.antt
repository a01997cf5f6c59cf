-- None of the names so far begins with a slash.
use Rattle.std.proofs.Common.{◌≡◌, take, None}
use Rattle.std.specs.List.{position}
use Rattle.desk_text.specs.Path.{is_absolute}
use Rattle.desk_exports.proofs.places.late_place.Given as goal

abbrev pub invariant-loop-index : goal.invariant-loop-index
invariant-loop-index l = position is_absolute (take l.index l.names) ≡ None
