-- Those of the directories so far are added.
use Rattle.std.proofs.Common.{◌≡◌, ◌++◌, map, take}
use Rattle.desk_impact.specs.Writings.{writing_value}
use Rattle.desk_impact.proofs.writings.push_row.Given as goal

abbrev pub invariant-loop-dir : goal.invariant-loop-dir
invariant-loop-dir l =
    map writing_value l.writings.items ≡ map writing_value l.initial.writings.items ++ map (λ dir. record { dir = dir; row = l.row }) (take l.dir-index l.dir-items)
