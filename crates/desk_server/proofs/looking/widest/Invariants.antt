-- All lines that widen are lighter than the groups so far.
use Rattle.desk_text.specs.Address.{number_of}
use Rattle.desk_policy.specs.Policy.{rows_of}
use Rattle.desk_server.specs.PrivateWiderGrants.{AreNext}
use Rattle.desk_server.proofs.looking.widest.Given as goal

abbrev pub invariant-loop-group : goal.invariant-loop-group
invariant-loop-group l = AreNext (rows_of l.index l.fs.0) (number_of l.address) l.group

abbrev pub decreases-loop-group : goal.decreases-loop-group
decreases-loop-group l = l.group.weight
