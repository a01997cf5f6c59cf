-- The lists of the lines so far.
use Rattle.std.proofs.Common.{◌≡◌, map, take}
use Rattle.page_findings.specs.Flavours.{each_once}
use Rattle.page_findings.specs.Lines.{flavours_of, line_value}
use Rattle.page_findings.proofs.flavours.lists_among.Given as goal

abbrev pub invariant-loop-line : goal.invariant-loop-line
invariant-loop-line l = map (λ list. list.now) l.lists.items ≡ each_once (map flavours_of (map line_value (take l.line-index l.lines)))
