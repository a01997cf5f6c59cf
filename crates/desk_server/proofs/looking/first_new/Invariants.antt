-- None of the lines so far lists what is not listed yet.
use Rattle.std.proofs.Common.{◌≡◌, false, All, Contains, List, take}
use Rattle.std.specs.List.{list_any}
use Rattle.desk_policy.specs.declared.row.Row.{Row}
use Rattle.desk_index.specs.Keys.{numbers}
use Rattle.desk_idle.specs.Laws.{brings}
use Rattle.desk_idle.specs.Listed.{IsListedBy}
use Rattle.desk_server.proofs.looking.first_new.Given as goal

abbrev pub invariant-loop-line : goal.invariant-loop-line
invariant-loop-line l =
    (chosen earlier : List Row) → l.lines ≡ numbers chosen → All (Contains l.rows) chosen → IsListedBy l.listed earlier → list_any (brings earlier) (take l.line-index chosen) ≡ false
