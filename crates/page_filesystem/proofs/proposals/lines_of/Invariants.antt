-- The lines so far are in the set.
use Rattle.std.proofs.Common.{length, take}
use Rattle.std.specs.Str.Lines.{lines}
use Rattle.page_filesystem.specs.Proposals.{HasLines}
use Rattle.page_filesystem.proofs.proposals.lines_of.Given as goal

abbrev pub invariant-loop-line : goal.invariant-loop-line
invariant-loop-line l = HasLines (take (length l.yielded) (lines l.text)) l.known
