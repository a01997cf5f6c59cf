-- All lines that mountd asks, and that list the path, are lighter than the groups so far; and if there was a group, one names the
-- client, unless it was the group for everybody.
use Rattle.desk_text.specs.Address.{number_of}
use Rattle.desk_policy.specs.Policy.{rows_of}
use Rattle.desk_policy.specs.Verdict.{lists_here}
use Rattle.desk_server.proofs.ByGroups.{AskedBelow}
use Rattle.desk_server.proofs.deciding.granting_row.Given as goal

abbrev pub invariant-loop-group : goal.invariant-loop-group
invariant-loop-group l = AskedBelow (lists_here l.path) (rows_of l.index l.fs.0) (number_of l.address) l.below

abbrev pub decreases-loop-group : goal.decreases-loop-group
decreases-loop-group l = l.below
