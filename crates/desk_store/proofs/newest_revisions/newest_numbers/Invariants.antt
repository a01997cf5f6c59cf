use Rattle.std.proofs.Common.{map, take}
use Rattle.desk_core.specs.History.{IsHistory}
use Rattle.desk_core.specs.declared.entry.Entry.TheVariants.{Revised}
use Rattle.desk_store.specs.NewestRevisions.{AreNewest}
use Rattle.desk_store.proofs.newest_revisions.newest_numbers.Given as goal

abbrev pub invariant-loop-revision : goal.invariant-loop-revision
invariant-loop-revision l = IsHistory (map Revised (take l.revision-index l.revisions)) × AreNewest l.numbers (map Revised (take l.revision-index l.revisions))
