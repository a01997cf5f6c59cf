-- The lines of those so far are written.
use Rattle.std.proofs.Common.{◌≡◌, [], ◌++◌, take}
use Rattle.std.specs.List.{flat_map}
use Rattle.std.specs.String.{string_bytes}
use Rattle.desk_expect.specs.OutsideDirectories.{outside_line, outside_value}
use Rattle.desk_expect.specs.declared.outside_directories.Outside.{Outside}
use Rattle.desk_expect.proofs.outside_directories.outside_text.Given as goal

abbrev pub invariant-loop-one : goal.invariant-loop-one
invariant-loop-one l = string_bytes l.text ≡ [] ++ flat_map (λ (one : Outside). outside_line l.file (outside_value one)) (take l.one-index l.outside)
