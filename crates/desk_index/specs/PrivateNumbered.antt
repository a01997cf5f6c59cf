-- What the private contracts of look-ups of lines by their numbers cite.
use Rattle.std.specs.Prelude.{ℕ, ◌==◌, List, find}
use Rattle.std.specs.List.{filter_map}
use Rattle.desk_policy.specs.declared.row.Row.{Row}

-- the lines of these numbers
abbrev pub rows_numbered : List Row → List ℕ → List Row
rows_numbered rows lines = filter_map (λ number. find (λ row. row.entry.line == number) rows) lines
