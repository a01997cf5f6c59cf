-- The index has the numbers of the users so far.
use Rattle.std.proofs.Common.{take}
use Rattle.desk_tables.specs.PrivateIndex.{HasUserNumbers}
use Rattle.desk_tables.proofs.users.places_by_uid.Given as goal

abbrev pub invariant-loop-place : goal.invariant-loop-place
invariant-loop-place l = HasUserNumbers (take l.place l.rows) l.index
