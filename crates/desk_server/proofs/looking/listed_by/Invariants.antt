-- What the lines so far list.
use Rattle.std.proofs.Common.{◌≡◌, All, Contains, List, take}
use Rattle.desk_policy.specs.declared.row.Row.{Row}
use Rattle.desk_index.specs.Keys.{numbers}
use Rattle.desk_idle.specs.Listed.{IsListedBy}
use Rattle.desk_server.proofs.looking.listed_by.Given as goal

abbrev pub invariant-loop-line : goal.invariant-loop-line
invariant-loop-line l = (chosen : List Row) → l.lines ≡ numbers chosen → All (Contains l.rows) chosen → IsListedBy l.listed (take l.line-index chosen)
