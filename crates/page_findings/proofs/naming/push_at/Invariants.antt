-- The lines that the ranges so far name.
use Rattle.std.proofs.Common.{◌≡◌, ◌++◌, take}
use Rattle.std.specs.List.{flat_map}
use Rattle.desk_who.specs.Who.{range_value}
use Rattle.page_findings.specs.PrivateDeciding.{named_in}
use Rattle.page_findings.proofs.naming.push_at.Given as goal

abbrev pub invariant-loop-range : goal.invariant-loop-range
invariant-loop-range l = l.lines.items ≡ l.fn.lines.items ++ flat_map (λ range. named_in (range_value range)) (take l.range-index l.found)
