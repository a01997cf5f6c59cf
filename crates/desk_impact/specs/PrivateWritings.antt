-- What the private contracts of writings cite.
use Rattle.std.specs.Prelude.{◌≡◌, ℕ, Contains, List, map}
use Rattle.desk_policy.specs.declared.row.Row.{Row}
use Rattle.desk_impact.specs.Writings.{Written, writing_value}
use Rattle.desk_impact.specs.declared.writings.Writing.{Writing}

-- the lines have each one that writes this directory
abbrev pub HasWriters : List Writing → List (List ℕ) → List Row → Type 0
HasWriters writings dir rows = (one : Written) → Contains (map writing_value writings) one → one.dir ≡ dir → Contains rows one.row
