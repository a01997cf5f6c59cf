-- The lines of this weight so far, behind what was there.
use Rattle.std.proofs.Common.{◌≡◌, ◌++◌, map, take}
use Rattle.std.specs.Prelude.{filter}
use Rattle.desk_text.specs.Address.{number_of}
use Rattle.desk_why.specs.Matches.{weighs}
use Rattle.desk_why.proofs.matches.push_weighing.Given as goal

abbrev pub invariant-loop-row : goal.invariant-loop-row
invariant-loop-row l = map (λ row. row.now) l.found.items ≡ map (λ row. row.now) l.initial.found.items ++ filter (weighs (number_of l.address) l.weight) (take l.row-index l.rows)
