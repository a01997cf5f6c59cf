-- The groups so far were added.
use Rattle.std.proofs.Common.{◌≡◌, ◌++◌, take}
use Rattle.std.specs.List.{flat_map}
use Rattle.std.specs.String.{string_bytes}
use Rattle.page_places.specs.Groups.{group_text}
use Rattle.page_places.proofs.groups.push_groups.Given as goal

abbrev pub invariant-loop-part : goal.invariant-loop-part
invariant-loop-part l = string_bytes l.page ≡ string_bytes l.initial.page ++ flat_map (group_text l.fs.0) (take l.part-index l.groups)
