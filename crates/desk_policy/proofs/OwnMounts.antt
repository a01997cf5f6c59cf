-- The file system of a path has a mount point that is in that file system itself.
use Rattle.std.proofs.Common.{◌≡◌, ℕ, zero, suc, ◌+◌, ◌<◌, ◌≤◌, ◌||◌, Bool, true, not, cond, List, [], ◌∷◌, length, get_or, Some, None, sym, ◌∙◌, ap, subst, refl, inl, inr, arith, nat_le}
use Rattle.std.specs.Prelude.{nat_lt}
use Rattle.std.specs.List.{list_all, list_any, position_or_len}
use Rattle.std.proofs.lemmas.List.Folds.{list_any_at}
use Rattle.std.proofs.lemmas.List.Quantifiers.{position-Some}
use Rattle.std.specs.Str.{bytes_eq}
use Rattle.std.specs.Cmp.{both_ways}
use Rattle.std.proofs.lemmas.Bool.{and_from, and_parts, cases_Bool, eq-eqb, le-leb, leb-true, or_left, or_right}
use Rattle.std.proofs.lemmas.Slice.Eq.{bytes_eq-Decides}
use Rattle.desk_text.specs.Path.{is_under}
use Rattle.desk_tables.specs.FileSystems.{fs_of, is_file_system}
use Rattle.desk_tables.specs.declared.filesystems.Mount.{Mount}
use Rattle.desk_policy.specs.Verdict.{is_in}

abbrev Path : Type 0
Path = List (List ℕ)

same_part : (x y : List ℕ) → bytes_eq x y ≡ true → x ≡ y
same_part x y e = (bytes_eq-Decides x y).0 e

under_itself : (p : Path) → is_under p p ≡ true
under_itself [] = refl
under_itself (x ∷ p) = and_from (bytes_eq x x) (is_under p p) ((bytes_eq-Decides x x).1 refl) (under_itself p)

under_trans : (p a b : Path) → is_under p a ≡ true → is_under a b ≡ true → is_under p b ≡ true
under_trans p a [] e f = refl
under_trans p [] (z ∷ b) e f = absurd (cc)
under_trans [] (y ∷ a) (z ∷ b) e f = absurd (cc)
under_trans (x ∷ p) (y ∷ a) (z ∷ b) e f =
    let pa = and_parts (bytes_eq x y) (is_under p a) e in
    let ab = and_parts (bytes_eq y z) (is_under a b) f in
    and_from (bytes_eq x z) (is_under p b) ((bytes_eq-Decides x z).1 (same_part x y pa.0 ∙ same_part y z ab.0)) (under_trans p a b pa.1 ab.1)

-- what a path is under, by its length
under_alike : (p a b : Path) → is_under p a ≡ true → is_under p b ≡ true → length a ≡ length b → a ≡ b
under_alike p [] [] e f same = refl
under_alike p [] (z ∷ b) e f same = absurd (omega arith)
under_alike p (y ∷ a) [] e f same = absurd (omega arith)
under_alike [] (y ∷ a) (z ∷ b) e f same = absurd (cc)
under_alike (x ∷ p) (y ∷ a) (z ∷ b) e f same =
    let pa = and_parts (bytes_eq x y) (is_under p a) e in
    let pb = and_parts (bytes_eq x z) (is_under p b) f in
    let first : y ≡ z = sym (same_part x y pa.0) ∙ same_part x z pb.0 in
    let rest : a ≡ b = under_alike p a b pa.1 pb.1 (omega arith) in
    cc

-- what a mount point is asked of the others above a path: that they are no longer
abbrev no_longer : Path → Mount → Mount → Bool
no_longer p m q = not (is_under p q.path) || nat_le (length q.path) (length m.path)

all_at : (q : Mount → Bool) (ms : List Mount) (k : ℕ) (d : Mount) → list_all q ms ≡ true → k < length ms → q (get_or ms k d) ≡ true
all_at q [] k d e l = absurd (omega arith)
all_at q (m ∷ ms) zero d e l = (and_parts (q m) (list_all q ms) e).0
all_at q (m ∷ ms) (suc k) d e l = all_at q ms k d (and_parts (q m) (list_all q ms) e).1 (omega arith)

all_from : (q : Mount → Bool) (ms : List Mount) (d : Mount) → ((k : ℕ) → k < length ms → q (get_or ms k d) ≡ true) → list_all q ms ≡ true
all_from q [] d h = refl
all_from q (m ∷ ms) d h = and_from (q m) (list_all q ms) (h 0 (omega arith)) (all_from q ms d (λ k l. h (suc k) (omega arith)))

not_longer : (p : Path) (m q : Mount) → no_longer p m q ≡ true → is_under p q.path ≡ true → length q.path ≤ length m.path
not_longer p m q e u = leb-true (length q.path) (length m.path) (sym (ap (λ b. not b || nat_le (length q.path) (length m.path)) u) ∙ e)

if_under : (p : Path) (m q : Mount) → (is_under p q.path ≡ true → length q.path ≤ length m.path) → no_longer p m q ≡ true
if_under p m q h = elim (cases_Bool (is_under p q.path)) [
  | inl u ↦ or_right (not (is_under p q.path)) (nat_le (length q.path) (length m.path)) (le-leb (length q.path) (length m.path) (h u))
  | inr n ↦ or_left (not (is_under p q.path)) (nat_le (length q.path) (length m.path)) (ap not n)
]

same_position : (p q : Mount → Bool) (ms : List Mount) (d : Mount) → ((k : ℕ) → k < length ms → p (get_or ms k d) ≡ q (get_or ms k d)) → position_or_len p ms ≡ position_or_len q ms
same_position p q [] d h = refl
same_position p q (m ∷ ms) d h =
    ap (λ b. cond (not b) (1 + position_or_len p ms) 0) (h 0 (omega arith))
    ∙ ap (λ n. cond (not (q m)) (1 + n) 0) (same_position p q ms d (λ k l. h (suc k) (omega arith)))

module _ (table : List Mount) (path : Path) (fs : ℕ) (d : Mount) (home : fs_of table path ≡ Some fs) where
  inside : fs < length table
  inside = (position-Some (is_file_system table path) table fs d home).0

  own : is_file_system table path (get_or table fs d) ≡ true
  own = (position-Some (is_file_system table path) table fs d home).1

  own_under : is_under path (get_or table fs d).path ≡ true
  own_under = (and_parts (is_under path (get_or table fs d).path) (list_all (no_longer path (get_or table fs d)) table) own).0

  longest : (k : ℕ) → k < length table → is_under path (get_or table k d).path ≡ true → length (get_or table k d).path ≤ length (get_or table fs d).path
  longest k l u =
      not_longer path (get_or table fs d) (get_or table k d)
      (all_at (no_longer path (get_or table fs d)) table k d (and_parts (is_under path (get_or table fs d).path) (list_all (no_longer path (get_or table fs d)) table) own).1 l) u

  above : (k : ℕ) → is_under (get_or table fs d).path (get_or table k d).path ≡ true → is_under path (get_or table k d).path ≡ true
  above k u = under_trans path (get_or table fs d).path (get_or table k d).path own_under u

  -- the mount points above the path that are longest are those above its mount point that are longest
  for_path : (k : ℕ) → k < length table → is_file_system table (get_or table fs d).path (get_or table k d) ≡ true → is_file_system table path (get_or table k d) ≡ true
  for_path k l e =
      let parts = and_parts (is_under (get_or table fs d).path (get_or table k d).path) (list_all (no_longer (get_or table fs d).path (get_or table k d)) table) e in
      let least : length (get_or table fs d).path ≤ length (get_or table k d).path =
      not_longer (get_or table fs d).path (get_or table k d) (get_or table fs d) (all_at (no_longer (get_or table fs d).path (get_or table k d)) table fs d parts.1 inside) (under_itself (get_or table fs d).path) in
      and_from (is_under path (get_or table k d).path) (list_all (no_longer path (get_or table k d)) table) (above k parts.0)
      (all_from (no_longer path (get_or table k d)) table d (λ j m. if_under path (get_or table k d) (get_or table j d) (λ u. let long = longest j m u in omega arith)))

  for_mount : (k : ℕ) → k < length table → is_file_system table path (get_or table k d) ≡ true → is_file_system table (get_or table fs d).path (get_or table k d) ≡ true
  for_mount k l e =
      let parts = and_parts (is_under path (get_or table k d).path) (list_all (no_longer path (get_or table k d)) table) e in
      let least : length (get_or table fs d).path ≤ length (get_or table k d).path = not_longer path (get_or table k d) (get_or table fs d) (all_at (no_longer path (get_or table k d)) table fs d parts.1 inside) own_under in
      let most = longest k l parts.0 in
      let same : (get_or table fs d).path ≡ (get_or table k d).path = under_alike path (get_or table fs d).path (get_or table k d).path own_under parts.0 (omega arith) in
      and_from (is_under (get_or table fs d).path (get_or table k d).path) (list_all (no_longer (get_or table fs d).path (get_or table k d)) table)
      (subst (λ q. is_under (get_or table fs d).path q ≡ true) same (under_itself (get_or table fs d).path))
      (all_from (no_longer (get_or table fs d).path (get_or table k d)) table d (λ j m. if_under (get_or table fs d).path (get_or table k d) (get_or table j d) (λ u. let long = longest j m (above j u) in omega arith)))

  own_fs : fs_of table (get_or table fs d).path ≡ Some fs
  own_fs =
      let same : position_or_len (is_file_system table (get_or table fs d).path) table ≡ position_or_len (is_file_system table path) table =
      same_position (is_file_system table (get_or table fs d).path) (is_file_system table path) table d
      (λ k l. both_ways (is_file_system table (get_or table fs d).path (get_or table k d)) (is_file_system table path (get_or table k d)) (for_path k l) (for_mount k l)) in
      ap (λ n. cond (nat_lt n (length table)) (Some n) None) same ∙ home

  -- a mount point is in the file system
  pub has_mount : list_any (λ mount. is_in (fs_of table mount.path) fs) table ≡ true
  has_mount = list_any_at (λ mount. is_in (fs_of table mount.path) fs) table fs d inside (ap (λ o. is_in o fs) own_fs ∙ eq-eqb fs fs refl)
