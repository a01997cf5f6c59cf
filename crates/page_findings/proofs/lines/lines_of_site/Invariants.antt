-- The lines of the file systems so far.
use Rattle.std.proofs.Common.{map}
use Rattle.page_findings.specs.Lines.{line_value}
use Rattle.page_findings.proofs.Adding.{AreLinesOfFirst}
use Rattle.page_findings.proofs.lines.lines_of_site.Given as goal

abbrev pub invariant-loop-place : goal.invariant-loop-place
invariant-loop-place l = AreLinesOfFirst l.policy l.place (map line_value l.lines.items)
