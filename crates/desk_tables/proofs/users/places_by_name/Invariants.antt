-- The index has the names of the users so far.
use Rattle.std.proofs.Common.{take}
use Rattle.desk_tables.specs.PrivateIndex.{HasUserNames}
use Rattle.desk_tables.proofs.users.places_by_name.Given as goal

abbrev pub invariant-loop-place : goal.invariant-loop-place
invariant-loop-place l = HasUserNames (take l.place l.rows) l.index
