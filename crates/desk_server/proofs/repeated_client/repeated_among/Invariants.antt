-- Those of the lines so far that have a client of an earlier line.
use Rattle.std.proofs.Common.{take}
use Rattle.desk_policy.specs.Policy.{rows_of}
use Rattle.desk_server.proofs.Repeating.{AreRepeatedAmong}
use Rattle.desk_server.proofs.repeated_client.repeated_among.Given as goal

abbrev pub invariant-loop-row : goal.invariant-loop-row
invariant-loop-row l = AreRepeatedAmong (rows_of l.index l.fs.0) (take l.row-index l.row-items) l.found.items
