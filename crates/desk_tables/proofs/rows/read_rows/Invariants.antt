-- No line so far has a fault, and the rows are theirs.
use Rattle.std.proofs.Common.{◌≡◌, ℕ, List, [], Option, Result, length, take}
use Rattle.std.specs.List.{filter_map}
use Rattle.desk_tables.specs.PrivateRows.{ReadsEachLine}
use Rattle.desk_text.specs.Reading.{fault_of, value_of}
use Rattle.desk_tables.specs.Rows.{answered_lines}
use Rattle.desk_tables.specs.declared.rules.TableRule.{TableRule}
use Rattle.desk_tables.proofs.rows.read_rows.Given as goal

abbrev pub invariant-loop-line : goal.invariant-loop-line
invariant-loop-line g l = record {
  counted : l.number ≡ length l.yielded;
  read : (answer : List ℕ → Result (Option g.row.Row.Denot) TableRule) → ReadsEachLine (goal.F-post g l.read) answer
      → (filter_map fault_of (take (length l.yielded) (answered_lines answer l.text)) ≡ [])
      × (l.rows ≡ filter_map value_of (take (length l.yielded) (answered_lines answer l.text)));
}
