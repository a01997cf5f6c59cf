-- The lines so far were counted.
use Rattle.std.proofs.Common.{◌≡◌, length}
use Rattle.page_filesystem.proofs.texts.line_count.Given as goal

abbrev pub invariant-loop-line : goal.invariant-loop-line
invariant-loop-line l = l.count ≡ length l.yielded
