-- The directories of the lines so far.
use Rattle.std.proofs.Common.{◌≡◌, map, take}
use Rattle.std.specs.List.{flat_map}
use Rattle.page_findings.specs.Figures.{directories_of}
use Rattle.page_findings.specs.Lines.{line_value}
use Rattle.page_findings.proofs.figures.directories_of.Given as goal

abbrev pub invariant-loop-line : goal.invariant-loop-line
invariant-loop-line l = map (λ path. path.now) l.paths.items ≡ flat_map directories_of (map line_value (take l.line-index l.lines))
