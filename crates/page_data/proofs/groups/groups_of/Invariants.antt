-- The sections so far in groups, and the places of these by their keys.
use Rattle.std.proofs.Common.{◌≡◌, ◌++◌, map}
use Rattle.desk_impact.specs.Sections.{section_value}
use Rattle.page_data.specs.Groups.{AreGrouped, group_value}
use Rattle.page_data.specs.PrivateGroups.{AreNumbered}
use Rattle.page_data.proofs.Keyed.{same_key}
use Rattle.page_data.proofs.groups.groups_of.Given as goal

abbrev pub invariant-loop-section : goal.invariant-loop-section
invariant-loop-section l = record {
  sections : l.yielded ++ l.section-iterator.rest.items ≡ l.fn.sections.items;
  numbered : AreNumbered l.numbers (map group_value l.groups.items);
  grouped : AreGrouped same_key (map section_value l.yielded) (map group_value l.groups.items);
}
