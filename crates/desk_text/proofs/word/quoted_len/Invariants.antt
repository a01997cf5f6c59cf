use Rattle.std.proofs.Common.{◌-◌, ◌≤◌, length}
use Rattle.desk_text.proofs.Quoted.{IsQuoted}
use Rattle.desk_text.proofs.word.quoted_len.Given as goal

abbrev pub invariant-loop-n : goal.invariant-loop-n
invariant-loop-n l = record {
  so_far : IsQuoted l.text l.n;
  some : 1 ≤ l.n;
}

abbrev pub decreases-loop-n : goal.decreases-loop-n
decreases-loop-n l = length l.text - l.n
