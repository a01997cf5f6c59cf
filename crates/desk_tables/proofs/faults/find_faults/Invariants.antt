-- The faults are those of the lines so far, each at its place.
use Rattle.std.proofs.Common.{◌≡◌, ℕ, List, Option, Result, length, map, take}
use Rattle.std.specs.List.{All, filter_map}
use Rattle.desk_text.specs.Reading.{fault_of}
use Rattle.desk_tables.specs.Faults.{IsPlaced}
use Rattle.desk_tables.specs.PrivateRows.{ReadsEachLine}
use Rattle.desk_tables.specs.Rows.{answered_lines}
use Rattle.desk_tables.specs.declared.faults.PlacedFault.{PlacedFault}
use Rattle.desk_tables.specs.declared.rules.TableRule.{TableRule}
use Rattle.desk_tables.proofs.faults.find_faults.Given as goal

abbrev pub invariant-loop-line : goal.invariant-loop-line
invariant-loop-line g l = record {
  counted : l.number ≡ length l.yielded;
  faults : (answer : List ℕ → Result (Option g.row.Row.Denot) TableRule) → ReadsEachLine (goal.F-post g l.read) answer
      → map (λ (one : PlacedFault). one.fault) l.found ≡ filter_map fault_of (take (length l.yielded) (answered_lines answer l.text));
  placed : All (IsPlaced l.text) l.found;
}
