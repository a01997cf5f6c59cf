-- The addresses at which lines begin or cease to match. (this project's own)
use Rattle.std.specs.Prelude.{◌≡◌, ℕ, ◌+◌, ◌<◌, ◌^◌, false, List}
use Rattle.std.specs.List.{AllByRecursion}
use Rattle.std.specs.List.Sorted.{IsStrictlyIncreasing}
use Rattle.desk_text.specs.AddrSet.{is_among}
use Rattle.desk_tables.specs.FileSystems.{fs_of}
use Rattle.desk_policy.specs.Policy.{Content}
use Rattle.desk_policy.specs.Verdict.{verdict_of}
use Rattle.desk_policy.specs.Weights.{weight_of}
use Rattle.desk_policy.specs.declared.row.Row.{Row}
use Rattle.desk_who.specs.Runs.{AreStartsOf}

-- a line matches an address as it matches the one before it, unless this is one of these
abbrev pub IsSteadyLine : List ℕ → Row → Type 0
IsSteadyLine starts row = (address : ℕ) → address + 1 < 2 ^ 32 → is_among (address + 1) starts ≡ false → weight_of row (address + 1) ≡ weight_of row address

-- ascending addresses, at which alone the lines begin and cease to match; the first address of all is not among them
pub record AreStarts (rows : List Row) (starts : List ℕ) : Type 0 where
  pub ascend : IsStrictlyIncreasing starts
  pub behind : is_among 0 starts ≡ false
  pub steady : AllByRecursion (IsSteadyLine starts) rows

-- ascending addresses, at which alone the verdict on a path changes, and on each other path of its file system
abbrev pub AreStartsUnder : Content → List (List ℕ) → List ℕ → Type 0
AreStartsUnder content path starts =
    (other : List (List ℕ)) → fs_of content.table other ≡ fs_of content.table path → AreStartsOf (λ address. verdict_of content address other) starts

-- ascending addresses, among them each of two lists; the first address of all is one of them only if one of the lists has it
pub record AreJoined (starts others all : List ℕ) : Type 0 where
  pub ascend : IsStrictlyIncreasing all
  pub behind : is_among 0 starts ≡ false → is_among 0 others ≡ false → is_among 0 all ≡ false
  pub own : (address : ℕ) → is_among address all ≡ false → is_among address starts ≡ false
  pub other : (address : ℕ) → is_among address all ≡ false → is_among address others ≡ false
