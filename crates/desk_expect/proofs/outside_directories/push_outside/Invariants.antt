-- Those of the directories so far are added.
use Rattle.std.proofs.Common.{◌≡◌, ◌++◌, map, take}
use Rattle.std.specs.List.{flat_map}
use Rattle.desk_expect.specs.OutsideDirectories.{outside_scope, outside_value}
use Rattle.desk_expect.proofs.outside_directories.push_outside.Given as goal

abbrev pub invariant-loop-scope : goal.invariant-loop-scope
invariant-loop-scope l = map outside_value l.found.items ≡ map outside_value l.initial.found.items ++ flat_map (outside_scope l.filesystems l.expectation) (take l.scope-index l.scope-items)
