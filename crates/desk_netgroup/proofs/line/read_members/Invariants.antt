-- The members so far, and those of the rest, are those of the tokens.
use Rattle.std.proofs.Common.{◌≡◌, length}
use Rattle.desk_netgroup.specs.GroupLine.{followed_by, members}
use Rattle.desk_netgroup.proofs.line.read_members.Given as goal

abbrev pub invariant-loop-rest : goal.invariant-loop-rest
invariant-loop-rest l = followed_by l.members (members l.rest) ≡ members l.tokens

abbrev pub decreases-loop-rest : goal.decreases-loop-rest
decreases-loop-rest l = length l.rest
