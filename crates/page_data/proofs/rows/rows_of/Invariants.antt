-- The rows of the ranges so far.
use Rattle.std.proofs.Common.{map, take}
use Rattle.desk_who.specs.Runs.{AreDiscrete}
use Rattle.desk_who.specs.Who.{range_value}
use Rattle.page_data.specs.Rows.{row_value}
use Rattle.page_data.proofs.Rowed.{Rowed, Verdict}
use Rattle.page_data.proofs.rows.rows_of.Given as goal

abbrev pub invariant-loop-range : goal.invariant-loop-range
invariant-loop-range l = (compare : AreDiscrete Verdict) → Rowed compare (map range_value (take l.range-index l.range-items)) (map row_value l.rows.items)
