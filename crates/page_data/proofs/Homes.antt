-- Each listed mount point is in its own file system.
use Rattle.std.proofs.Common.{◌≡◌, ℕ, ◌<◌, ◌≤◌, ◌||◌, ◌∙◌, Bool, true, false, cond, List, [], ◌∷◌, None, Some, ap, arith, get_or, inl, inr, length, refl, sym}
use Rattle.std.specs.Prelude.{nat_le, nat_lt, not}
use Rattle.std.specs.List.{list_all, position_or_len}
use Rattle.std.specs.Ordering.{is_lt}
use Rattle.std.specs.Str.{bytes_eq}
use Rattle.std.proofs.lemmas.Bool.{and_from, and_parts, false_from_ne_true, le-leb, leb-true, lt-ltb, not_from_false, or_cases, true≢false}
use Rattle.std.proofs.lemmas.Cmp.{nat_list_cmp_total, tied_itself}
use Rattle.std.proofs.lemmas.List.Sums.{AllPass-from_list_all, prefix_len_is}
use Rattle.std.proofs.lemmas.Slice.Eq.{bytes_eq-Decides}
use Rattle.desk_text.specs.Path.{is_under, path_text}
use Rattle.desk_tables.specs.FileSystems.{AreAscending, fs_of, is_before, is_file_system}
use Rattle.desk_tables.specs.declared.filesystems.Mount.{Mount}

under_itself : (path : List (List ℕ)) → is_under path path ≡ true
under_itself [] = refl
under_itself (name ∷ path) = and_from (bytes_eq name name) (is_under path path) ((bytes_eq-Decides name name).1 refl) (under_itself path)

under_short : (path above : List (List ℕ)) → is_under path above ≡ true → length above ≤ length path
under_short path [] under = omega arith
under_short [] (name ∷ above) under = absurd (true≢false (sym under))
under_short (own ∷ path) (name ∷ above) under = (let rest = under_short path above (and_parts _ _ under).1 in omega arith)

as_long : (path above : List (List ℕ)) → is_under path above ≡ true → length path ≤ length above → above ≡ path
as_long [] [] under long = refl
as_long (own ∷ path) [] under long = absurd (omega arith)
as_long [] (name ∷ above) under long = absurd (true≢false (sym under))
as_long (own ∷ path) (name ∷ above) under long =
    let parts = and_parts (bytes_eq own name) (is_under path above) under in
    let same : own ≡ name = (bytes_eq-Decides own name).0 parts.0 in
    ap (λ n. n ∷ above) (sym same) ∙ ap (λ rest. own ∷ rest) (as_long path above parts.1 (omega arith))

not_before_itself : (path : List (List ℕ)) → is_before path path ≡ true → ⊥
not_before_itself path before = true≢false (sym before ∙ ap is_lt (tied_itself nat_list_cmp_total (path_text path)))

module _ (table : List Mount) (ascending : AreAscending table) (i : ℕ) (mount : Mount) (within : i < length table) (is : get_or table i mount ≡ mount) where
  abbrev short : Mount → Bool
  short other = not (is_under mount.path other.path) || nat_le (length other.path) (length mount.path)

  all_short : (some : List Mount) → list_all short some ≡ true
  all_short [] = refl
  all_short (other ∷ some) = and_from (short other) (list_all short some) (by (is_under mount.path other.path) refl) (all_short some)
    where
      by : (b : Bool) → is_under mount.path other.path ≡ b → (not b || nat_le (length other.path) (length mount.path)) ≡ true
      by true e = le-leb (length other.path) (length mount.path) (under_short mount.path other.path e)
      by false e = refl

  own : is_file_system table mount.path mount ≡ true
  own = and_from (is_under mount.path mount.path) (list_all short table) (under_itself mount.path) (all_short table)

  earlier : (k : ℕ) → k < i → is_file_system table mount.path (get_or table k mount) ≡ true → ⊥
  earlier k less passes =
      let other = get_or table k mount in
      let parts = and_parts (is_under mount.path other.path) (list_all (λ one. not (is_under mount.path one.path) || nat_le (length one.path) (length other.path)) table) passes in
      let at_own = AllPass-from_list_all (λ (one : Mount). not (is_under mount.path one.path) || nat_le (length one.path) (length other.path)) table parts.1 i mount within in
      let here : (not (is_under mount.path mount.path) || nat_le (length mount.path) (length other.path)) ≡ true = sym (ap (λ (one : Mount). not (is_under mount.path one.path) || nat_le (length one.path) (length other.path)) is) ∙ at_own in
      let long : length mount.path ≤ length other.path = elim (or_cases (not (is_under mount.path mount.path)) (nat_le (length mount.path) (length other.path)) here) as (λ _. length mount.path ≤ length other.path) [
        | inl wrong ↦ absurd (true≢false (sym wrong ∙ ap not (under_itself mount.path)))
        | inr le ↦ leb-true (length mount.path) (length other.path) le
      ] in
      let same : other.path ≡ mount.path = as_long mount.path other.path parts.0 long in
      let before : is_before other.path (get_or table i mount).path ≡ true = ascending k i mount less within in
      not_before_itself mount.path (sym (ap (λ path. is_before path (get_or table i mount).path) same ∙ ap (λ (one : Mount). is_before mount.path one.path) is) ∙ before)

  pub own_home : fs_of table mount.path ≡ Some i
  own_home =
      let at : position_or_len (is_file_system table mount.path) table ≡ i = prefix_len_is (λ one. not (is_file_system table mount.path one)) table i mount (omega arith)
      (λ k less. not_from_false (is_file_system table mount.path (get_or table k mount)) (false_from_ne_true _ (earlier k less)))
      (λ _. ap (λ (one : Mount). not (is_file_system table mount.path one)) is ∙ ap not own) in
      ap (λ n. cond (nat_lt n (length table)) (Some n) None) at ∙ ap (λ b. cond b (Some i) None) (lt-ltb i (length table) within)
