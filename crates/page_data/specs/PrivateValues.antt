-- What the private contracts of values cite.
use Rattle.std.specs.Prelude.{◌≡◌, ℕ, ◌==◌, List, [], ◌∷◌, Option, Some, if◌then◌else◌, map}
use Rattle.std.specs.Option.{option_map}
use Rattle.desk_who.specs.Runs.{AreRuns, AreStartsOf, Run, run_value}
use Rattle.desk_who.specs.declared.runs.Run.{Run as KeptRun}

-- given the runs of a function of addresses, this is its value at an address
abbrev pub IsValueAt : {T A : Type 0} → (T → A) → List (KeptRun T) → ℕ → Option T → Type 0
IsValueAt {T} {A} meaning runs address value =
    (value_at : ℕ → A) → AreRuns value_at (map (run_value meaning) runs) → option_map meaning value ≡ Some (value_at address)

-- given the runs of a function of addresses, it changes at these addresses alone
abbrev pub AreItsStarts : {A : Type 0} → List (Run A) → List ℕ → Type 0
AreItsStarts {A} runs starts = (value_at : ℕ → A) → AreRuns value_at runs → AreStartsOf value_at starts

-- an address, unless it is the first of all
abbrev pub start_at : ℕ → List ℕ
start_at address = if address == 0 then [] else address ∷ []
