-- What the private contracts of the scan cite.
use Rattle.std.specs.Prelude.{◌≡◌, ℕ, ◌==◌, Bool, true, false, List, Option, Some, None, nat_lt, is_none, if◌then◌else◌}
use Rattle.std.specs.List.{list_all, list_any}
use Rattle.desk_policy.specs.declared.row.Row.{Row}
use Rattle.desk_policy.specs.Weights.{weight_of, is_greatest}

abbrev pub is_same_weight : Option ℕ → ℕ → Bool
is_same_weight None weight = false
is_same_weight (Some other) weight = other == weight

-- the line matches the address with this weight
abbrev pub has_weight : ℕ → ℕ → Row → Bool
has_weight address weight row = is_same_weight (weight_of row address) weight

-- the greater weight; no match is the least
abbrev pub greater : Option ℕ → Option ℕ → Option ℕ
greater None other = other
greater (Some weight) None = Some weight
greater (Some weight) (Some other) = if nat_lt weight other then Some other else Some weight

-- no line matches, or this is a line's weight that none exceeds
abbrev pub IsGreatest : List Row → ℕ → Option ℕ → Type 0
IsGreatest rows address None = list_all (λ row. is_none (weight_of row address)) rows ≡ true
IsGreatest rows address (Some weight) = (list_any (has_weight address weight) rows ≡ true) × (is_greatest rows address (Some weight) ≡ true)
