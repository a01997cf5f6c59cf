-- A `(` is open after the tokens so far.
use Rattle.std.proofs.Common.{◌≡◌, take}
use Rattle.desk_netgroup.specs.Faults.{has_unclosed}
use Rattle.desk_netgroup.proofs.line.has_unclosed.Given as goal

abbrev pub invariant-loop-token : goal.invariant-loop-token
invariant-loop-token l = l.is_open ≡ has_unclosed (take l.token-index l.tokens)
