-- What the private contracts of the paths cite: how a path is kept, and being under another path, by the kept forms.
use Rattle.std.specs.Prelude.{ℕ, ◌==◌, ◌&&◌, ◌||◌, nat_lt, Bool, true, false, List, [], ◌∷◌, length, slice_index}
use Rattle.std.specs.List.{flat_map}

-- a path as it is kept: each component behind a slash, so that nothing is kept of `/`
abbrev pub kept_text : List (List ℕ) → List ℕ
kept_text path = flat_map (λ part. 47 ∷ part) path

-- a text ends here, or goes on with a slash
abbrev pub ends_component : List ℕ → Bool
ends_component [] = true
ends_component (b ∷ text) = b == 47

-- a kept path is another one, or goes on behind it with a slash
abbrev pub goes_below : List ℕ → List ℕ → Bool
goes_below path [] = ends_component path
goes_below [] (a ∷ above) = false
goes_below (b ∷ path) (a ∷ above) = b == a && goes_below path above

-- a text ends at this place, or has a slash there
abbrev pub ends_before : List ℕ → ℕ → Bool
ends_before path place = (place == length path) || (nat_lt place (length path) && slice_index path place == 47)

-- a part between two slashes that is no component
abbrev pub is_empty : List ℕ → Bool
is_empty part = length part == 0
