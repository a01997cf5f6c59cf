-- What the model of the names of a line cites.
use Rattle.std.specs.Prelude.{ℕ, ◌-◌, ◌≡◌, ◌≤◌, List, [], ◌∷◌, drop, length, string_bytes, take}
use Rattle.std.specs.Str.{IsCharBoundary}
use Rattle.desk_exports.specs.declared.names.Joined.{Joined}
use Rattle.desk_exports.specs.declared.names.Values.{Values}
use Rattle.desk_exports.specs.declared.names.Values.TheVariants.{Nothing, One, Many}

-- the pieces of a text from this place on that end at these places
abbrev pub pieces_from : ℕ → List ℕ → List ℕ → List (List ℕ)
pieces_from start text [] = []
pieces_from start text (end ∷ ends) = take (end - start) (drop start text) ∷ pieces_from end text ends

-- These places ascend from this one to the end of the text, and each is between two characters.
abbrev pub AreEnds : ℕ → List ℕ → List ℕ → Type 0
AreEnds start text [] = start ≡ length text
AreEnds start text (end ∷ ends) = (start ≤ end) × (IsCharBoundary text end × AreEnds end text ends)

-- the names in one text
abbrev pub pieces_of : Joined → List (List ℕ)
pieces_of names = pieces_from 0 (string_bytes names.text) names.ends.items

abbrev pub AreCut : Joined → Type 0
AreCut names = AreEnds 0 (string_bytes names.text) names.ends.items

-- the names that lie in the list itself, or in one text
abbrev pub names_in : Values → List (List ℕ)
names_in Nothing = []
names_in (One name) = name ∷ []
names_in (Many names) = pieces_of names.value

abbrev pub ArePieces : Values → Type 0
ArePieces Nothing = Unit {0}
ArePieces (One name) = Unit {0}
ArePieces (Many names) = AreCut names.value
