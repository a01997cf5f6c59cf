-- No word so far.
use Rattle.std.proofs.Common.{◌≡◌, length}
use Rattle.desk_netgroup.specs.Faults.{after_first_word}
use Rattle.desk_netgroup.proofs.line.after_first_word.Given as goal

abbrev pub invariant-loop-rest : goal.invariant-loop-rest
invariant-loop-rest l = after_first_word l.rest ≡ after_first_word l.tokens

abbrev pub decreases-loop-rest : goal.decreases-loop-rest
decreases-loop-rest l = length l.rest
