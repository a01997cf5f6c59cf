-- What is under no mount point, and has none under it.
use Rattle.std.proofs.Common.{◌≡◌, ◌⊎◌, ℕ, ◌+◌, ◌||◌, not, Bool, true, false, cond, List, [], ◌∷◌, None, Some, length, refl, sym, ap, ◌∙◌, inl, inr, arith}
use Rattle.std.specs.Prelude.{position}
use Rattle.std.specs.List.{list_any, position_or_len}
use Rattle.std.specs.Str.{bytes_eq}
use Rattle.std.specs.Cmp.Lexicographic.{bytes_decides}
use Rattle.std.proofs.lemmas.Bool.{and_from, and_left, and_parts, cases_Bool, le-ltb, or_parts, true≢false}
use Rattle.desk_text.specs.Path.{is_under}
use Rattle.desk_tables.specs.FileSystems.{fs_of, is_file_system}
use Rattle.desk_tables.specs.declared.filesystems.Mount.{Mount}
use Rattle.desk_policy.specs.Verdict.{verdict_in, verdict_of}
use Rattle.desk_expect.specs.OutsideDirectories.{OutsideIsDenied, is_outside}

-- of two directories that a path is under, one is under the other
comparable : (path a b : List (List ℕ)) → is_under path a ≡ true → is_under path b ≡ true → (is_under a b ≡ true) ⊎ (is_under b a ≡ true)
comparable path [] b h k = inr refl
comparable path (x ∷ a) [] h k = inl refl
comparable [] (x ∷ a) (y ∷ b) h k = absurd (true≢false (sym h))
comparable (z ∷ path) (x ∷ a) (y ∷ b) h k =
    let p = and_parts (bytes_eq z x) (is_under path a) h in
    let q = and_parts (bytes_eq z y) (is_under path b) k in
    let zx : z ≡ x = (bytes_decides z x).0 p.0 in
    let zy : z ≡ y = (bytes_decides z y).0 q.0 in
    elim (comparable path a b p.1 q.1) as (λ _. (is_under (x ∷ a) (y ∷ b) ≡ true) ⊎ (is_under (y ∷ b) (x ∷ a) ≡ true)) [
      | inl under ↦ inl (and_from (bytes_eq x y) (is_under a b) ((bytes_decides x y).1 (sym zx ∙ zy)) under)
      | inr under ↦ inr (and_from (bytes_eq y x) (is_under b a) ((bytes_decides y x).1 (sym zy ∙ zx)) under)
    ]

-- so a path below such a directory is under no mount point
above_none : (path dir mount : List (List ℕ)) → is_under path dir ≡ true → (is_under dir mount || is_under mount dir) ≡ false → is_under path mount ≡ false
above_none path dir mount below apart =
    let p = or_parts (is_under dir mount) (is_under mount dir) apart in
    elim (cases_Bool (is_under path mount)) as (λ _. is_under path mount ≡ false) [
      | inl under ↦ elim (comparable path dir mount below under) as (λ _. is_under path mount ≡ false) [
        | inl up ↦ absurd (true≢false (sym up ∙ p.0))
        | inr down ↦ absurd (true≢false (sym down ∙ p.1))
      ]
      | inr none ↦ none
    ]

none_pass : {X : Type 0} (p : X → Bool) (xs : List X) → list_any p xs ≡ false → position_or_len p xs ≡ length xs
none_pass p [] none = refl
none_pass p (x ∷ xs) none =
    let q = or_parts (p x) (list_any p xs) none in
    ap (λ b. cond (not b) (1 + position_or_len p xs) 0) q.0 ∙ ap (λ n. 1 + n) (none_pass p xs q.1) ∙ omega arith

no_place : {X : Type 0} (p : X → Bool) (xs : List X) → list_any p xs ≡ false → position p xs ≡ None
no_place p xs none =
    let all = none_pass p xs none in
    ap (λ b. cond b (Some (position_or_len p xs)) None) (le-ltb (position_or_len p xs) (length xs) (omega arith))

module _ (path dir : List (List ℕ)) (below : is_under path dir ≡ true) where
  not_above : (whole table : List Mount) → list_any (λ mount. is_under dir mount.path || is_under mount.path dir) table ≡ false → list_any (is_file_system whole path) table ≡ false
  not_above whole [] none = refl
  not_above whole (mount ∷ table) none =
      let p = or_parts (is_under dir mount.path || is_under mount.path dir) (list_any (λ (m : Mount). is_under dir m.path || is_under m.path dir) table) none in
      ap (λ b. b || list_any (is_file_system whole path) table) (and_left (is_under path mount.path) _ (above_none path dir mount.path below p.0)) ∙ not_above whole table p.1

  no_fs : (table : List Mount) → is_outside table dir ≡ true → fs_of table path ≡ None
  no_fs table outside = no_place (is_file_system table path) table (not_above table table (no (list_any (λ (m : Mount). is_under dir m.path || is_under m.path dir) table) outside))
    where
      no : (b : Bool) → not b ≡ true → b ≡ false
      no true e = sym e
      no false e = refl

pub denied : OutsideIsDenied
unfolding verdict_of
denied content dir path address outside below = ap (verdict_in content address path) (no_fs path dir below content.table outside)
