-- Those of the lines so far.
use Rattle.std.proofs.Common.{◌≡◌, map, take}
use Rattle.std.specs.List.{AllByRecursion, flat_map}
use Rattle.desk_text.specs.Address.{number_of}
use Rattle.desk_policy.specs.Keys.{HasBlock}
use Rattle.desk_policy.specs.declared.row.Row.{Row}
use Rattle.desk_who.proofs.Within.{found_by}
use Rattle.desk_who.proofs.starts.starts_within.Given as goal

abbrev pub invariant-loop-row : goal.invariant-loop-row
invariant-loop-row l = record {
  found : map number_of l.found.items ≡ flat_map (found_by l.starts) (map (λ row. row.now) (take l.row-index l.rows));
  blocks : AllByRecursion (λ (row : Row). HasBlock row.entry.clients) (map (λ row. row.now) (take l.row-index l.rows));
}
