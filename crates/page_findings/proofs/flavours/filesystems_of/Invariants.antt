-- The file systems of the lines so far.
use Rattle.std.proofs.Common.{◌≡◌, map, take}
use Rattle.page_findings.proofs.flavours.filesystems_of.Given as goal

abbrev pub invariant-loop-line : goal.invariant-loop-line
invariant-loop-line l = l.filesystems.items ≡ map (λ line. line.fs) (take l.line-index l.lines)
