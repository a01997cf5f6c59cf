-- A function of addresses as the list of its runs: the longest ranges of addresses at which it has one value. (this
-- project's own)
use Rattle.std.specs.Prelude.{◌≡◌, ◌≢◌, ◌⊎◌, ◌↔◌, ℕ, ◌+◌, ◌<◌, ◌≤◌, ◌^◌, ◌&&◌, ◌||◌, ◌==◌, nat_le, Bool, true, false, List, [], ◌∷◌, Option, None, Some, filter, find, if◌then◌else◌, map}
use Rattle.std.specs.List.{AllByRecursion, filter_map, list_any}
use Rattle.std.specs.List.Sorted.{IsStrictlyIncreasing}
use Rattle.std.specs.Option.{option_map}
use Rattle.desk_text.specs.Address.{number_of}
use Rattle.desk_text.specs.AddrSet.{is_among}
use Rattle.desk_text.specs.declared.address.Addr.{Addr}
use Rattle.desk_who.specs.declared.runs.Run.{Run as KeptRun}

-- the addresses from the first to the last, and the value at each of them
pub record Run (A : Type 0) : Type 0 where
  pub first : ℕ
  pub last : ℕ
  pub value : A

-- the address is one of the range
abbrev pub holds : {A : Type 0} → ℕ → Run A → Bool
holds address run = nat_le run.first address && nat_le address run.last

-- each address of the range has its value
pub record HasValue {A : Type 0} (value_at : ℕ → A) (run : Run A) : Type 0 where
  pub proper : run.first ≤ run.last
  pub addresses : run.last < 2 ^ 32
  pub values : (address : ℕ) → run.first ≤ address → address ≤ run.last → value_at address ≡ run.value

-- each range ends before any later one begins, so that none of them holds an address twice
abbrev pub Ascend : {A : Type 0} → List (Run A) → Type 0
Ascend [] = Unit {0}
Ascend (run ∷ runs) = AllByRecursion (λ later. run.last < later.first) runs × Ascend runs

-- neighbouring ranges have different values
abbrev pub AreApart : {A : Type 0} → List (Run A) → Type 0
AreApart [] = Unit {0}
AreApart (run ∷ []) = Unit {0}
AreApart (run ∷ next ∷ runs) = (run.value ≢ next.value) × AreApart (next ∷ runs)

-- The ranges are ascending, leave out no address and hold none twice, give each address its value, and neighbours have
-- different values.
pub record AreRuns {A : Type 0} (value_at : ℕ → A) (runs : List (Run A)) : Type 0 where
  pub values : AllByRecursion (HasValue value_at) runs
  pub complete : (address : ℕ) → address < 2 ^ 32 → list_any (holds address) runs ≡ true
  pub ascend : Ascend runs
  pub apart : AreApart runs

-- ascending addresses, at which alone a function of addresses changes: at any other it has the value of the address before. The
-- first address of all is not among them
pub record AreStartsOf {A : Type 0} (value_at : ℕ → A) (starts : List ℕ) : Type 0 where
  pub ascend : IsStrictlyIncreasing starts
  pub behind : is_among 0 starts ≡ false
  pub steady : (address : ℕ) → address + 1 < 2 ^ 32 → is_among (address + 1) starts ≡ false → value_at (address + 1) ≡ value_at address

-- a run as it is kept, by value, with what its value means
abbrev pub run_value : {T A : Type 0} → (T → A) → KeptRun T → Run A
run_value meaning run = record { first = number_of run.first; last = number_of run.last; value = meaning run.value }

-- the first address of all, or one of these
abbrev pub is_asked : List ℕ → ℕ → Bool
is_asked starts address = address == 0 || is_among address starts

-- what is found for the first address of all, and for each of these, means what a function of addresses says
abbrev pub Finds : {T A : Type 0} → (T → A) → (Addr → T → Type 0) → List ℕ → (ℕ → A) → Type 0
Finds {T} meaning found starts value_at =
    (address : Addr) (value : T) → is_asked starts (number_of address) ≡ true → found address value → meaning value ≡ value_at (number_of address)

-- The runs of what is found, given where it may change: whatever function of addresses says what it means, and changes at these
-- addresses alone, has these runs.
abbrev pub AreRunsFound : {T A : Type 0} → (T → A) → (Addr → T → Type 0) → List ℕ → List (KeptRun T) → Type 0
AreRunsFound {T} {A} meaning found starts runs =
    (value_at : ℕ → A) → Finds meaning found starts value_at → AreStartsOf value_at starts → AreRuns value_at (map (run_value meaning) runs)

-- a run with a value, if it has one
abbrev pub with_value : {A : Type 0} → Run (Option A) → Option (Run A)
with_value run = option_map (λ value. record { first = run.first; last = run.last; value = value }) run.value

-- those of the runs that have a value, each with it
abbrev pub those_with_value : {A : Type 0} → List (Run (Option A)) → List (Run A)
those_with_value runs = filter_map with_value runs

-- The runs at which a function of addresses has a value: of all its runs those that have one, each with it.
pub record AreRunsWithValue {A : Type 0} (value_at : ℕ → Option A) (those : List (Run A)) : Type 0 where
  pub whole : List (Run (Option A))
  pub runs : AreRuns value_at whole
  pub are : those ≡ those_with_value whole

-- A function of addresses with values of this kind has at most one list of runs.
abbrev pub RunsAreUnique : Type 0 → Type 0
RunsAreUnique A = (value_at : ℕ → A) (runs other : List (Run A)) → AreRuns value_at runs → AreRuns value_at other → other ≡ runs

-- any two values of this kind are the same or not
abbrev pub AreDiscrete : Type 0 → Type 0
AreDiscrete A = (value other : A) → (value ≡ other) ⊎ (value ≢ other)

-- A function of addresses has runs, if any two values of this kind are the same or not.
abbrev pub RunsExist : Type 0 → Type 0
RunsExist A = AreDiscrete A → (value_at : ℕ → A) → (runs : List (Run A)) × AreRuns value_at runs

-- a value, if it passes a test
abbrev pub passing : {A : Type 0} → (A → Bool) → A → Option A
passing test value = if test value then Some value else None

-- Of the runs of a function of addresses, those whose value passes a test are the runs at which it has a value that passes.
abbrev pub RunsPassTests : Type 0 → Type 0
RunsPassTests A =
    AreDiscrete A → (test : A → Bool) (value_at : ℕ → A) (runs : List (Run A)) → AreRuns value_at runs
    → AreRunsWithValue (λ address. passing test (value_at address)) (filter (λ run. test run.value) runs)

-- Runs with a value hold no address twice; the run that holds an address gives its value, and an address that none holds has none.
abbrev pub RunsTellValues : Type 0 → Type 0
RunsTellValues A =
    (value_at : ℕ → Option A) (runs : List (Run A)) → AreRunsWithValue value_at runs
    → Ascend runs × ((address : ℕ) → address < 2 ^ 32 → option_map (λ run. run.value) (find (holds address) runs) ≡ value_at address)

-- There is at most one list of runs with a value.
abbrev pub RunsWithValueAreUnique : Type 0 → Type 0
RunsWithValueAreUnique A = (value_at : ℕ → Option A) (runs other : List (Run A)) → AreRunsWithValue value_at runs → AreRunsWithValue value_at other → other ≡ runs

-- There is no run with a value exactly if no address has one.
abbrev pub NoRunIsNoValue : Type 0 → Type 0
NoRunIsNoValue A = (value_at : ℕ → Option A) (runs : List (Run A)) → AreRunsWithValue value_at runs → (runs ≡ []) ↔ ((address : ℕ) → address < 2 ^ 32 → value_at address ≡ None)
