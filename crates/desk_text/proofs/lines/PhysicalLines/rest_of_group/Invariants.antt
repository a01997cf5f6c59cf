use Rattle.std.proofs.Common.{◌≡◌, ◌+◌, ◌-◌, ◌<◌, ◌≤◌, ◌∷◌, ◌++◌, true, map, length}
use Rattle.std.specs.List.{AllByRecursion}
use Rattle.desk_text.specs.Lines.{ArePlaced, groups, is_continued}
use Rattle.desk_text.specs.Views.{line_of_part}
use Rattle.desk_text.specs.PrivateLines.{IsOnward, parts_left}
use Rattle.desk_text.proofs.lines.PhysicalLines.rest_of_group.Given as goal

abbrev pub invariant-loop-next : goal.invariant-loop-next
invariant-loop-next l = record {
  is : groups (map line_of_part l.parts.items ++ parts_left l.self) ≡ groups (line_of_part l.fn.first ∷ parts_left l.fn.self);
  going_on : AllByRecursion (λ line. is_continued line.whole ≡ true) (map line_of_part l.parts.items);
  placed : ArePlaced (map line_of_part l.parts.items);
  counted : l.fn.self.start + length l.parts.items ≤ l.self.start + 1;
  some : 0 < length l.parts.items;
  onward : IsOnward l.fn.self l.self;
}

abbrev pub decreases-loop-next : goal.decreases-loop-next
decreases-loop-next l = 4294967295 - l.self.start
