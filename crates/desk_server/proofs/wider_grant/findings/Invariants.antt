-- The findings of the lines so far.
use Rattle.std.proofs.Common.{take}
use Rattle.desk_server.specs.PrivateWiderGrants.{AreWiderAmong}
use Rattle.desk_server.proofs.wider_grant.findings.Given as goal

abbrev pub invariant-loop-row : goal.invariant-loop-row
invariant-loop-row l = AreWiderAmong l.index l.fn.fs.0 (take l.row-index l.row-items) l.found.items
