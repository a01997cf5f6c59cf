-- What the private contracts of finding faults cite.
use Rattle.std.specs.Prelude.{◌≤◌, ℕ, List, Option, Some, None, Result, Ok, Err}
use Rattle.std.specs.Str.{IsCharBoundary}
use Rattle.desk_tables.specs.declared.faults.Slice.{Slice}
use Rattle.desk_tables.specs.declared.rules.TableRule.{TableRule}

-- the rule that a line breaks, if it breaks one
abbrev pub broken_rule : {Row : Type 0} → Result (Option Row) TableRule → Option TableRule
broken_rule (Ok row) = None
broken_rule (Err rule) = Some rule

-- The line has the slice: it begins and ends where a character begins, or where the line ends.
pub record HasSlice (line : List ℕ) (slice : Slice) : Type 0 where
  pub ordered : slice.start ≤ slice.end
  pub begins : IsCharBoundary line slice.start
  pub ends : IsCharBoundary line slice.end
