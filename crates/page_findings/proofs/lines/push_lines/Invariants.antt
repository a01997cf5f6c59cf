-- The lines so far are added.
use Rattle.std.proofs.Common.{map, take}
use Rattle.desk_policy.specs.Policy.{rows_of}
use Rattle.page_findings.specs.Lines.{line_value}
use Rattle.page_findings.specs.PrivateLines.{AddsLines}
use Rattle.page_findings.proofs.lines.push_lines.Given as goal

abbrev pub invariant-loop-place : goal.invariant-loop-place
invariant-loop-place l = AddsLines l.policy l.fs.0 (take l.place (rows_of l.policy l.fs.0)) (map line_value l.initial.lines.items) (map line_value l.lines.items)
