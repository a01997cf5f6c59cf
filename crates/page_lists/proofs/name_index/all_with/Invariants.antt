-- Those of the index so far that have the name, and none before the first one has it.
use Rattle.std.proofs.Common.{◌≡◌, take}
use Rattle.page_lists.specs.NameIndex.{lent_with}
use Rattle.page_lists.proofs.name_index.all_with.Given as goal

abbrev pub invariant-loop-place : goal.invariant-loop-place
invariant-loop-place l = l.lines.items ≡ lent_with l.name (take l.place l.index)
