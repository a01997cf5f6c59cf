-- The lines that verdicts name at the places so far.
use Rattle.std.proofs.Common.{◌≡◌, ◌++◌, map, take}
use Rattle.std.specs.List.{flat_map}
use Rattle.desk_text.specs.Address.{number_of}
use Rattle.desk_who.specs.Who.{range_value}
use Rattle.page_findings.specs.PrivateDeciding.{lines_at}
use Rattle.page_findings.proofs.naming.push_between.Given as goal

abbrev pub invariant-loop-section : goal.invariant-loop-section
invariant-loop-section l = l.lines.items ≡ l.fn.lines.items ++ flat_map (λ section. lines_at (number_of l.first) (number_of l.last) (map range_value section.ranges)) (take l.section-index l.sections)
