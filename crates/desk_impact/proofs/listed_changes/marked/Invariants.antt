-- The changes so far are marked.
use Rattle.std.proofs.Common.{map, take}
use Rattle.desk_impact.specs.Impact.{change_value}
use Rattle.desk_impact.specs.ListedChanges.{listed_change}
use Rattle.desk_impact.specs.PrivateListedChanges.{AreMarked}
use Rattle.desk_impact.proofs.listed_changes.marked.Given as goal

abbrev pub invariant-loop-change : goal.invariant-loop-change
invariant-loop-change l = AreMarked (map change_value (take l.change-index l.changes)) (map listed_change l.listed.items)
