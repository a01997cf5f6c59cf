-- Paths that are the same, and paths that are among others.
use Rattle.std.proofs.Common.{◌≡◌, ◌<◌, ℕ, true, List, [], ◌∷◌, map, arith, refl, sym, ap, ◌∙◌, subst}
use Rattle.std.specs.List.{Any, Contains}
use Rattle.std.proofs.lemmas.List.{get_or-map, length-map}
use Rattle.std.proofs.lemmas.List.Elements.{Contains-append_right}
use Rattle.std.proofs.lemmas.List.Folds.{Any-from_list_any, list_any-from_Any}
use Rattle.std.proofs.lemmas.Slice.Eq.{bytes_eq-Decides, slice_eq-Decides}
use Rattle.desk_text.specs.Path.{same_path}
use Rattle.desk_policy.specs.Verdict.{is_directory_among}

abbrev pub Path : Type 0
Path = List (List ℕ)

-- the same path is an equal one
pub same_is : (a b : Path) → same_path a b ≡ true → a ≡ b
same_is a b e = (slice_eq-Decides bytes_eq-Decides a b (same_path a b) refl).0 e

pub is_same : (a b : Path) → a ≡ b → same_path a b ≡ true
is_same a b e = (slice_eq-Decides bytes_eq-Decides a b (same_path a b) refl).1 e

-- values of a list
pub contains_first : {X : Type 0} (x : X) (xs : List X) → Contains (x ∷ xs) x
contains_first x xs = (0, omega arith, refl)

pub contains_later : {X : Type 0} (first : X) (xs : List X) (x : X) → Contains xs x → Contains (first ∷ xs) x
contains_later first xs x at = Contains-append_right (first ∷ []) xs x at

pub contains_map : {X Y : Type 0} (f : X → Y) (xs : List X) (x : X) → Contains xs x → Contains (map f xs) (f x)
contains_map f xs x at = (at.0, subst (λ n. at.0 < n) (sym (length-map xs f)) at.1, get_or-map f xs at.0 x (f x) at.1 ∙ ap f at.2)

-- a path is among others exactly if they contain it
pub among : (path : Path) (paths : List Path) → Contains paths path → is_directory_among path paths ≡ true
among path paths at = list_any-from_Any (λ other. same_path other path) paths (at.0, path, at.1, at.2, is_same path path refl)

pub contained : (path : Path) (paths : List Path) → is_directory_among path paths ≡ true → Contains paths path
contained path paths is =
    let found : Any (λ other. same_path other path ≡ true) paths = Any-from_list_any (λ other. same_path other path) paths is in
    subst (Contains paths) (same_is found.1 path found.4) (found.0, found.2, found.3)
