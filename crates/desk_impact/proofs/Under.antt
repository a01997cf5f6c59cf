-- Paths under one another, and the mount point at which a path is at home.
use Rattle.std.proofs.Common.{◌≡◌, ◌⊎◌, ℕ, ◌||◌, not, Bool, true, false, List, [], ◌∷◌, ◌++◌, refl, sym, ap, ◌∙◌, inl, inr}
use Rattle.std.specs.List.{list_all, list_any}
use Rattle.std.specs.Str.{bytes_eq}
use Rattle.std.proofs.lemmas.Bool.{and_parts, and_from, cases_Bool, or_cases, or_left, or_right, or_parts, true≢false}
use Rattle.std.proofs.lemmas.Slice.Eq.{bytes_eq-Decides}
use Rattle.desk_text.specs.Path.{is_under}
use Rattle.desk_impact.specs.Places.{HasHome, PathsHaveHomes}
use Rattle.desk_impact.proofs.Same.{Path, contains_first, contains_later}

same_part : (a b : List ℕ) → bytes_eq a b ≡ true → a ≡ b
same_part a b e = (bytes_eq-Decides a b).0 e

part_itself : (a : List ℕ) → bytes_eq a a ≡ true
part_itself a = (bytes_eq-Decides a a).1 refl

pub under_itself : (path : Path) → is_under path path ≡ true
under_itself [] = refl
under_itself (part ∷ path) = and_from (bytes_eq part part) (is_under path path) (part_itself part) (under_itself path)

pub under_trans : (a b c : Path) → is_under a b ≡ true → is_under b c ≡ true → is_under a c ≡ true
under_trans a b [] u v = refl
under_trans a [] (z ∷ c) u v = absurd (true≢false (sym v))
under_trans [] (y ∷ b) (z ∷ c) u v = absurd (true≢false (sym u))
under_trans (x ∷ a) (y ∷ b) (z ∷ c) u v =
    let p = and_parts (bytes_eq x y) (is_under a b) u in
    let q = and_parts (bytes_eq y z) (is_under b c) v in
    and_from (bytes_eq x z) (is_under a c) (ap (λ w. bytes_eq w z) (same_part x y p.0) ∙ q.0) (under_trans a b c p.1 q.1)

-- of two paths that one path is under, one is under the other
pub nested : (path a b : Path) → is_under path a ≡ true → is_under path b ≡ true → (is_under a b ≡ true) ⊎ (is_under b a ≡ true)
nested path a [] u v = inl refl
nested path [] (y ∷ b) u v = inr refl
nested [] (x ∷ a) (y ∷ b) u v = absurd (true≢false (sym u))
nested (w ∷ path) (x ∷ a) (y ∷ b) u v =
    let p = and_parts (bytes_eq w x) (is_under path a) u in
    let q = and_parts (bytes_eq w y) (is_under path b) v in
    let xy : bytes_eq x y ≡ true = ap (λ z. bytes_eq z y) (sym (same_part w x p.0)) ∙ q.0 in
    let yx : bytes_eq y x ≡ true = ap (λ z. bytes_eq z x) (sym (same_part w y q.0)) ∙ p.0 in
    elim (nested path a b p.1 q.1) [
      | inl e ↦ inl (and_from (bytes_eq x y) (is_under a b) xy e)
      | inr e ↦ inr (and_from (bytes_eq y x) (is_under b a) yx e)
    ]

-- a path with one more component is under that path
pub child_under : (mount : Path) (name : List ℕ) → is_under (mount ++ name ∷ []) mount ≡ true
child_under [] name = refl
child_under (part ∷ mount) name = and_from (bytes_eq part part) (is_under (mount ++ name ∷ []) mount) (part_itself part) (child_under mount name)

-- and under others only if that path is, but for itself
pub above_child : (mount other : Path) (name : List ℕ) → is_under (mount ++ name ∷ []) other ≡ true → (is_under mount other ≡ true) ⊎ (other ≡ mount ++ name ∷ [])
above_child mount [] name u = inl refl
above_child [] (y ∷ []) name u = inr (ap (λ part. part ∷ []) (sym (same_part name y (and_parts (bytes_eq name y) true u).0)))
above_child [] (y ∷ z ∷ other) name u = absurd (true≢false (sym (and_parts (bytes_eq name y) false u).1))
above_child (x ∷ mount) (y ∷ other) name u =
    let p = and_parts (bytes_eq x y) (is_under (mount ++ name ∷ []) other) u in
    elim (above_child mount other name p.1) [
      | inl e ↦ inl (and_from (bytes_eq x y) (is_under mount other) p.0 e)
      | inr e ↦ inr (ap (λ part. part ∷ other) (sym (same_part x y p.0)) ∙ ap (λ ps. x ∷ ps) e)
    ]

-- ---- at home
-- a mount point does not stand between the path and this one
abbrev pub is_above : Path → Path → Path → Bool
is_above path mount other = not (is_under path other) || is_under mount other

pub passes_apart : (path mount other : Path) → is_under path other ≡ false → is_above path mount other ≡ true
passes_apart path mount other e = ap (λ b. not b || is_under mount other) e

all_apart : (path mount : Path) (mounts : List Path) → list_any (is_under path) mounts ≡ false → list_all (is_above path mount) mounts ≡ true
all_apart path mount [] none = refl
all_apart path mount (other ∷ mounts) none =
    let p = or_parts (is_under path other) (list_any (is_under path) mounts) none in
    and_from (is_above path mount other) (list_all (is_above path mount) mounts) (passes_apart path mount other p.0) (all_apart path mount mounts p.1)

-- what stands between neither a path and one mount point nor, so, the path and one below that
all_below : (path mount lower : Path) (mounts : List Path) → is_under lower mount ≡ true → list_all (is_above path mount) mounts ≡ true → list_all (is_above path lower) mounts ≡ true
all_below path mount lower [] u all = refl
all_below path mount lower (other ∷ mounts) u all =
    let p = and_parts (is_above path mount other) (list_all (is_above path mount) mounts) all in
    and_from (is_above path lower other) (list_all (is_above path lower) mounts)
    (elim (or_cases (not (is_under path other)) (is_under mount other) p.0) [
      | inl apart ↦ or_left (not (is_under path other)) (is_under lower other) apart
      | inr above ↦ or_right (not (is_under path other)) (is_under lower other) (under_trans lower mount other u above)
    ])
    (all_below path mount lower mounts u p.1)

module _ (path : Path) where
  home_of : (first : Path) (mounts : List Path) → is_under path first ≡ true → HasHome mounts path → HasHome (first ∷ mounts) path
  home_of first mounts here home =
      let p = and_parts (is_under path home.mount) (list_all (is_above path home.mount) mounts) home.home in
      elim (nested path home.mount first p.0 here) [
        | inl below ↦ record {
          mount = home.mount;
          listed = contains_later first mounts home.mount home.listed;
          home = and_from (is_under path home.mount) (list_all (is_above path home.mount) (first ∷ mounts)) p.0
              (and_from (is_above path home.mount first) (list_all (is_above path home.mount) mounts) (or_right (not (is_under path first)) (is_under home.mount first) below) p.1);
        }
        | inr above ↦ record {
          mount = first;
          listed = contains_first first mounts;
          home = and_from (is_under path first) (list_all (is_above path first) (first ∷ mounts)) here
              (and_from (is_above path first first) (list_all (is_above path first) mounts) (or_right (not (is_under path first)) (is_under first first) (under_itself first))
              (all_below path home.mount first mounts above p.1));
        }
      ]

  only_home : (first : Path) (mounts : List Path) → is_under path first ≡ true → list_any (is_under path) mounts ≡ false → HasHome (first ∷ mounts) path
  only_home first mounts here none = record {
    mount = first;
    listed = contains_first first mounts;
    home = and_from (is_under path first) (list_all (is_above path first) (first ∷ mounts)) here
        (and_from (is_above path first first) (list_all (is_above path first) mounts) (or_right (not (is_under path first)) (is_under first first) (under_itself first)) (all_apart path first mounts none));
  }

  home_behind : (first : Path) (mounts : List Path) → is_under path first ≡ false → HasHome mounts path → HasHome (first ∷ mounts) path
  home_behind first mounts apart home =
      let p = and_parts (is_under path home.mount) (list_all (is_above path home.mount) mounts) home.home in
      record {
        mount = home.mount;
        listed = contains_later first mounts home.mount home.listed;
        home = and_from (is_under path home.mount) (list_all (is_above path home.mount) (first ∷ mounts)) p.0
            (and_from (is_above path home.mount first) (list_all (is_above path home.mount) mounts) (passes_apart path home.mount first apart) p.1);
      }

pub paths_have_homes : PathsHaveHomes
paths_have_homes [] path some = absurd (true≢false (sym some))
paths_have_homes (first ∷ mounts) path some =
    elim (cases_Bool (is_under path first)) as (λ _. HasHome (first ∷ mounts) path) [
      | inl here ↦ elim (cases_Bool (list_any (is_under path) mounts)) as (λ _. HasHome (first ∷ mounts) path) [
        | inl more ↦ home_of path first mounts here (paths_have_homes mounts path more)
        | inr none ↦ only_home path first mounts here none
      ]
      | inr apart ↦ home_behind path first mounts apart (paths_have_homes mounts path (sym (ap (λ b. b || list_any (is_under path) mounts) apart) ∙ some))
    ]
