use Rattle.std.proofs.Common.{◌≡◌, ◌++◌, length}
use Rattle.desk_text.specs.Lines.{logical_lines}
use Rattle.desk_text.proofs.lines.logical_lines.Given as goal

abbrev pub invariant-loop-lines : goal.invariant-loop-lines
invariant-loop-lines l = record {
  read : l.lines.items ++ l.left ≡ logical_lines l.text;
}

abbrev pub decreases-loop-lines : goal.decreases-loop-lines
decreases-loop-lines l = length l.left
