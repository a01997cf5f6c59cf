-- What is selected wherever that may change. (this project's own)
use Rattle.std.specs.Prelude.{◌≡◌, ℕ, List, ◌∷◌, All, map}
use Rattle.desk_text.specs.Address.{number_of}
use Rattle.desk_policy.specs.declared.row.Row.{Row}
use Rattle.desk_index.specs.Lighter.{AreHeaviestBelow}
use Rattle.desk_who.specs.Starts.{AreStarts}
use Rattle.desk_idle.specs.declared.selections.Selection.{Selection}

-- These are the heaviest lines that match this address, which are the selected ones; none if no line matches it. (No line weighs 35.)
abbrev pub IsSelection : List Row → Selection → Type 0
IsSelection rows selection = AreHeaviestBelow rows (number_of selection.address) 35 selection.group

-- the addresses that are looked at
abbrev pub addresses_of : List Selection → List ℕ
addresses_of selections = map (λ selection. number_of selection.address) selections

-- so it is at the first address of all, and wherever a line begins or ceases to match
pub record AreSelections (rows : List Row) (selections : List Selection) : Type 0 where
  pub starts : List ℕ
  pub are : AreStarts rows starts
  pub addresses : addresses_of selections ≡ 0 ∷ starts
  pub each : All (IsSelection rows) selections
