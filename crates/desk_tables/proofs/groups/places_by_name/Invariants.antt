-- The index has the names of the groups so far.
use Rattle.std.proofs.Common.{take}
use Rattle.desk_tables.specs.PrivateIndex.{HasGroupNames}
use Rattle.desk_tables.proofs.groups.places_by_name.Given as goal

abbrev pub invariant-loop-place : goal.invariant-loop-place
invariant-loop-place l = HasGroupNames (take l.place l.rows) l.index
