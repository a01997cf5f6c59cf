-- The copies of the names so far are added.
use Rattle.std.proofs.Common.{◌≡◌, ◌++◌, map, take}
use Rattle.desk_tables.proofs.spaced_lines.push_copies.Given as goal

abbrev pub invariant-loop-name : goal.invariant-loop-name
invariant-loop-name l = l.copies ≡ l.fn.copies ++ map (λ x. x.now) (take l.name-index l.names)
