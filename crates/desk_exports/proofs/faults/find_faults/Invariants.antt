-- The faults are those of the lines so far, each at its place.
use Rattle.std.proofs.Common.{◌≡◌, map, take}
use Rattle.std.specs.List.{All}
use Rattle.desk_exports.specs.Faults.{IsPlaced}
use Rattle.desk_exports.specs.Files.{line_says}
use Rattle.desk_exports.specs.Laws.{faults}
use Rattle.desk_exports.specs.Tables.{table_rows}
use Rattle.desk_exports.proofs.faults.find_faults.Given as goal

abbrev pub invariant-loop-line : goal.invariant-loop-line
invariant-loop-line l = record {
  faults : map (λ one. one.fault) l.found ≡ faults (line_says (table_rows l.tables) l.scope) (take l.line-index l.line-items);
  placed : All (IsPlaced l.text) l.found;
}
