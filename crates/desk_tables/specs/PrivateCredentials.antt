-- What the private contracts on group numbers cite.
use Rattle.std.specs.Prelude.{◌≡◌, ◌==◌, ◌++◌, ℕ, Bool, true, false, List, [], ◌∷◌, length, if◌then◌else◌}
use Rattle.std.specs.List.{list_any}

-- whether a number is among others
abbrev pub is_among : ℕ → List ℕ → Bool
is_among gid gids = list_any (λ g. g == gid) gids

-- A number is added at the end where it is not among the old ones; there is no room for it where those are sixteen.
abbrev pub AddsOnce : Bool → List ℕ → ℕ → List ℕ → Type 0
AddsOnce true old gid new = new ≡ (if is_among gid old then old else old ++ gid ∷ [])
AddsOnce false old gid new = (is_among gid old ≡ false) × (length old ≡ 16)
