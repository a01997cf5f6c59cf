-- Those of the lines so far are found.
use Rattle.std.proofs.Common.{◌≡◌, ◌++◌, [], map, take}
use Rattle.std.specs.List.{flat_map}
use Rattle.desk_expect.specs.OutsideDirectories.{outside_of, outside_value}
use Rattle.desk_expect.proofs.outside_directories.find_outside.Given as goal

abbrev pub invariant-loop-expectation : goal.invariant-loop-expectation
invariant-loop-expectation l = map outside_value l.found.items ≡ [] ++ flat_map (outside_of l.filesystems) (take l.expectation-index l.expectations)
