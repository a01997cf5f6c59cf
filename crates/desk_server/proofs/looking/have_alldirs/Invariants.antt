-- None of the lines so far has -alldirs.
use Rattle.std.proofs.Common.{◌≡◌, false, All, Contains, List, take}
use Rattle.std.specs.List.{list_any}
use Rattle.desk_policy.specs.declared.row.Row.{Row}
use Rattle.desk_index.specs.Keys.{numbers}
use Rattle.desk_server.proofs.looking.have_alldirs.Given as goal

abbrev pub invariant-loop-line : goal.invariant-loop-line
invariant-loop-line l = (chosen : List Row) → l.lines ≡ numbers chosen → All (Contains l.rows) chosen → list_any (λ row. row.entry.alldirs) (take l.line-index chosen) ≡ false
