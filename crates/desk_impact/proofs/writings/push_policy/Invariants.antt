-- Those of the file systems so far are added.
use Rattle.std.proofs.Common.{◌≡◌, ◌++◌, map, take}
use Rattle.std.specs.List.{flat_map}
use Rattle.desk_impact.specs.Writings.{writing_value, written_by_all}
use Rattle.desk_impact.proofs.writings.push_policy.Given as goal

abbrev pub invariant-loop-rows : goal.invariant-loop-rows
invariant-loop-rows l = map writing_value l.writings.items ≡ map writing_value l.initial.writings.items ++ flat_map written_by_all (take l.rows-index l.rows-items)
