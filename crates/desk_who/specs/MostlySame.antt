-- What is found for a path, from what is found where the verdicts are mostly the same. (this project's own)
use Rattle.std.specs.Prelude.{◌≡◌, ◌⊎◌, ℕ, ◌+◌, ◌<◌, ◌^◌, true, false, List, None, Option}
use Rattle.std.specs.List.{AllByRecursion}
use Rattle.std.specs.Option.{option_map}
use Rattle.desk_text.specs.AddrSet.{is_among}
use Rattle.desk_text.specs.declared.address.Addr.{Addr}
use Rattle.desk_policy.specs.Weights.{weight_of}
use Rattle.desk_policy.specs.declared.row.Row.{Row}
use Rattle.desk_who.specs.Runs.{AreRunsWithValue, Finds, Run}
use Rattle.desk_who.specs.Starts.{IsSteadyLine}

-- two functions of addresses have the same value at an address, and the same one at the next
pub record AreAlike {A : Type 0} (value_at other_at : ℕ → A) (address : ℕ) : Type 0 where
  pub here : value_at address ≡ other_at address
  pub next : value_at (address + 1) ≡ other_at (address + 1)

-- neither has another value at the next address
pub record NeitherChanges {A : Type 0} (value_at other_at : ℕ → A) (address : ℕ) : Type 0 where
  pub own : value_at (address + 1) ≡ value_at address
  pub other : other_at (address + 1) ≡ other_at address

-- Two functions of addresses go together except at the decided addresses: at any other one, and at the one before it, they have
-- the same values, or neither changes between the two.
abbrev pub GoTogether : {A : Type 0} → (ℕ → A) → (ℕ → A) → List ℕ → Type 0
GoTogether value_at other_at decided =
    (address : ℕ) → address + 1 < 2 ^ 32 → is_among (address + 1) decided ≡ false → AreAlike value_at other_at address ⊎ NeitherChanges value_at other_at address

-- Given the runs with a value of another function of addresses, which goes together with one except at the decided addresses, and
-- what is found for these and for the first of all: the runs at which that one has a value.
abbrev pub AreRunsBeside : {T A : Type 0} → (T → A) → (Addr → Option T → Type 0) → List (Run A) → List ℕ → List (Run A) → Type 0
AreRunsBeside {T} {A} meaning found others decided runs =
    (value_at other_at : ℕ → Option A) → Finds (option_map meaning) found decided value_at → AreRunsWithValue other_at others → GoTogether value_at other_at decided
    → AreRunsWithValue value_at runs

-- Given the runs at which another function of addresses has a value, which goes together with this one except at the decided
-- addresses, these are the runs at which this one has a value.
abbrev pub AreFoundBeside : {A : Type 0} → (ℕ → Option A) → List (Run A) → List ℕ → List (Run A) → Type 0
AreFoundBeside {A} value_at others decided runs =
    (other_at : ℕ → Option A) → AreRunsWithValue other_at others → GoTogether value_at other_at decided → AreRunsWithValue value_at runs

-- The addresses at which one of these lines begins or ceases to match, and those of the starts at which one of them matches.
pub record AreStartsWithin (starts : List ℕ) (rows : List Row) (decided : List ℕ) : Type 0 where
  pub behind : is_among 0 decided ≡ false
  pub steady : AllByRecursion (IsSteadyLine decided) rows
  pub apart : (address : ℕ) → address < 2 ^ 32 → is_among address starts ≡ true → is_among address decided ≡ false → AllByRecursion (λ row. weight_of row address ≡ None) rows
