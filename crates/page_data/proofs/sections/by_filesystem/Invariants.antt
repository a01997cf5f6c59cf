-- The sections so far, each in the list of its file system.
use Rattle.std.proofs.Common.{◌≡◌, ◌++◌, length, map}
use Rattle.std.specs.List.{range_with_len}
use Rattle.desk_impact.specs.Sections.{section_value}
use Rattle.page_data.proofs.Placed.{placed}
use Rattle.page_data.proofs.sections.by_filesystem.Given as goal

abbrev pub invariant-loop-section : goal.invariant-loop-section
invariant-loop-section l = record {
  sections : l.yielded ++ l.section-iterator.rest.items ≡ l.fn.sections.items;
  lists : map (map section_value) l.lists.items ≡ map (placed l.table (map section_value l.yielded)) (range_with_len 0 (length l.table));
}
