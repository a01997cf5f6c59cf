-- What the private contracts of groups cite.
use Rattle.std.specs.Prelude.{◌≡◌, ℕ, ◌++◌, Bool, false, List, [], ◌∷◌, Result, Ok, Err, Vec, if◌then◌else◌}
use Rattle.std.specs.BTreeMap.{BTreeMap, get}
use Rattle.std.specs.Cmp.Lexicographic.{slice_cmp}
use Rattle.std.specs.List.{flat_map, position_from}
use Rattle.std.specs.Ordering.{nat_cmp}
use Rattle.std.specs.Str.{bytes_eq}
use Rattle.desk_policy.specs.Verdict.{Grant}
use Rattle.desk_policy.specs.declared.verdict.Denial.{Denial}
use Rattle.desk_who.specs.Runs.{Run}
use Rattle.desk_impact.specs.Sections.{PlaceBreaches}

-- the first and the last address of a range with a verdict that grants, and the line
abbrev pub numbers_by : ℕ → ℕ → Result Grant Denial → List ℕ
numbers_by first last (Ok grant) = first ∷ last ∷ grant.line ∷ []
numbers_by first last (Err denial) = []

abbrev pub numbers_of : Run (Result Grant Denial) → List ℕ
numbers_of range = numbers_by range.first range.last range.value

-- by these numbers granted ranges are told apart
abbrev pub key_of : List (Run (Result Grant Denial)) → List ℕ
key_of ranges = flat_map numbers_of ranges

-- the first of a group has this key
abbrev pub has_key : List ℕ → List PlaceBreaches → Bool
has_key key [] = false
has_key key (section ∷ sections) = bytes_eq (key_of section.ranges) key

-- the groups, with one more section: in the first group with its key, or by itself in a new one
abbrev pub with_section : PlaceBreaches → List (List PlaceBreaches) → List (List PlaceBreaches)
with_section section [] = (section ∷ []) ∷ []
with_section section (group ∷ groups) = if has_key (key_of section.ranges) group then (group ++ section ∷ []) ∷ groups else group ∷ with_section section groups

module _ {Z : Type 0} where
  -- under each key stands the place of the group with that key, if there is one
  abbrev pub AreNumbered : BTreeMap (Vec ℕ Z) ℕ → List (List PlaceBreaches) → Type 0
  AreNumbered numbers groups = (key : Vec ℕ Z) → get (λ one other. slice_cmp nat_cmp one.items other.items) numbers key ≡ position_from (has_key key.items) 0 groups
