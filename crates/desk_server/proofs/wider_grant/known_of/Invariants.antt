-- What is known from looks at the addresses so far.
use Rattle.std.proofs.Common.{take}
use Rattle.desk_policy.specs.Policy.{rows_of}
use Rattle.desk_idle.specs.Selections.{addresses_of}
use Rattle.desk_server.specs.PrivateWiderGrants.{AreTold}
use Rattle.desk_server.proofs.wider_grant.known_of.Given as goal

abbrev pub invariant-loop-selection : goal.invariant-loop-selection
invariant-loop-selection l = AreTold (rows_of l.index l.fs.0) (take l.selection-index (addresses_of l.selections)) l.known
