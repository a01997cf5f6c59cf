-- What the private contracts of the walk cite.
use Rattle.std.specs.Prelude.{◌≡◌, ℕ, ◌||◌, Bool, List, [], ◌∷◌, ◌++◌, Option, Some, None, reverse, if◌then◌else◌}
use Rattle.std.specs.Str.{bytes_eq}
use Rattle.desk_netgroup.specs.declared.group_line.GroupLine.{GroupLine}
use Rattle.desk_netgroup.specs.declared.group_line.Member.{Member}

-- a walk enters a group that is defined and was not entered before: then it is, and its members are pending, the first on
-- top; any other group changes nothing
abbrev pub Enters : Option GroupLine → List ℕ → (List ℕ → Bool) → (List ℕ → Bool) → List Member → List Member → Type 0
Enters None group old new pending pending' = ((name : List ℕ) → new name ≡ old name) × (pending' ≡ pending)
Enters (Some line) group old new pending pending' =
    ((name : List ℕ) → new name ≡ (old name || bytes_eq name group)) × (pending' ≡ (if old group then pending else pending ++ reverse line.members))

-- a text that was not seen is seen then, and kept after the others
abbrev pub AddsNew : List ℕ → (List ℕ → Bool) → (List ℕ → Bool) → List (List ℕ) → List (List ℕ) → Type 0
AddsNew text old new kept kept' =
    ((other : List ℕ) → new other ≡ (old other || bytes_eq other text)) × (kept' ≡ (if old text then kept else kept ++ text ∷ []))
