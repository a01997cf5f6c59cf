-- The lines so far were added.
use Rattle.std.proofs.Common.{◌≡◌, ◌++◌, map, take}
use Rattle.serde_json.specs.View.{view}
use Rattle.desk_json.specs.Exports.{line_data}
use Rattle.desk_json.proofs.exports.push_lines.Given as goal

abbrev pub invariant-loop-row : goal.invariant-loop-row
invariant-loop-row l = map view l.values.items ≡ map view l.fn.values.items ++ map (λ row. line_data l.mount row.entry) (take l.row-index l.rows)
