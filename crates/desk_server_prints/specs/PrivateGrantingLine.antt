-- What the private contracts of the scan cite.
use Rattle.std.specs.Prelude.{ℕ, ◌&&◌, Bool, List, Option, None, if◌then◌else◌}
use Rattle.desk_policy.specs.Verdict.{lists_here}
use Rattle.desk_policy.specs.Weights.{weight_of}
use Rattle.desk_policy.specs.declared.row.Row.{Row}
use Rattle.desk_server.specs.Server.{is_named}

-- a line names the client, and lists a path of its file system
abbrev pub is_wider : ℕ → List (List ℕ) → Row → Bool
is_wider address path row = is_named (weight_of row address) && lists_here path row

-- its weight, if it does
abbrev pub wider_weight : ℕ → List (List ℕ) → Row → Option ℕ
wider_weight address path row = if is_wider address path row then weight_of row address else None
