-- One empty list for each file system so far.
use Rattle.std.proofs.Common.{◌≡◌, [], map, replicate}
use Rattle.desk_impact.specs.Sections.{section_value}
use Rattle.page_data.proofs.sections.empty_lists.Given as goal

abbrev pub invariant-loop : goal.invariant-loop
invariant-loop l = map (map section_value) l.lists.items ≡ replicate l.counter []
