-- The lines so far.
use Rattle.std.proofs.Common.{◌≡◌, map, take}
use Rattle.std.specs.List.{AllByRecursion, flat_map}
use Rattle.desk_text.specs.Address.{number_of}
use Rattle.desk_policy.specs.declared.row.Row.{Row}
use Rattle.desk_policy.specs.Keys.{HasBlock}
use Rattle.desk_who.specs.PrivateStarts.{starts_of}
use Rattle.desk_who.proofs.starts.starts_among.Given as goal

abbrev pub invariant-loop-row : goal.invariant-loop-row
invariant-loop-row l =
    (map number_of l.starts.items ≡ flat_map starts_of (take l.row-index l.rows))
    × AllByRecursion (λ (row : Row). HasBlock row.entry.clients) (take l.row-index l.rows)
