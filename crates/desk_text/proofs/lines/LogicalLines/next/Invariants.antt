use Rattle.std.proofs.Common.{◌≡◌, ◌-◌}
use Rattle.desk_text.specs.PrivateLines.{CanBeCounted, lines_left}
use Rattle.desk_text.proofs.lines.LogicalLines.next.Given as goal

abbrev pub invariant-loop-parts : goal.invariant-loop-parts
invariant-loop-parts l = record {
  left : lines_left l.initial.self-inside.number l.initial.self-inside.left ≡ lines_left l.self-inside.number l.self-inside.left;
  counted : CanBeCounted l.self-inside.number l.self-inside.left;
}

abbrev pub decreases-loop-parts : goal.decreases-loop-parts
decreases-loop-parts l = 4294967295 - l.self-inside.left.start
