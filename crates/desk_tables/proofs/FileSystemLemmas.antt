-- Of two mount points above one path, the later in the table is the longer; so the last one above it is its file system.
use Rattle.std.proofs.Common.{ℕ, ◌≡◌, ◌<◌, ◌≤◌, Bool, true, false, not, ◌&&◌, ◌||◌, List, [], ◌∷◌, ◌++◌, Some, None, cond, length, get_or, position, refl, ap, sym, ◌∙◌, arith, inl, inr, suc, nat_cmp, nat_le}
use Rattle.std.specs.Prelude.{All, MatchOption, Option, nat_lt}
use Rattle.std.specs.List.{list_all, position_or_len}
use Rattle.std.specs.declared.cmp.Ordering.{Ordering}
use Rattle.std.specs.declared.cmp.Ordering.TheVariants.{Less, Equal, Greater}
use Rattle.std.specs.List.Sorted.{IsPartitionedBy}
use Rattle.std.specs.Ordering.{is_gt, is_le, is_lt, ordering_reverse, ordering_then}
use Rattle.std.specs.Cmp.Lexicographic.{slice_cmp}
use Rattle.std.specs.Str.{bytes_eq}
use Rattle.std.proofs.lemmas.Bool.{cases_lt, cases_Bool, lt-ltb, le-leb, true≢false}
use Rattle.std.proofs.lemmas.Bool.Decides.{nat_tests}
use Rattle.std.proofs.lemmas.Cmp.{tied_itself, nat_cmp_total, nat_list_cmp_total, upto}
use Rattle.std.proofs.lemmas.List.{append-nil}
use Rattle.std.proofs.lemmas.List.Folds.{list_all_at}
use Rattle.std.proofs.lemmas.List.Sums.{position_or_len_is}
use Rattle.std.proofs.lemmas.Slice.Eq.{bytes_eq-Decides}
use Rattle.desk_text.specs.Path.{is_under, path_text}
use Rattle.desk_tables.specs.declared.filesystems.Mount.{Mount}
use Rattle.desk_tables.specs.PrivateFileSystems.{IsLastAbove}
use Rattle.desk_tables.specs.FileSystems.{is_before, AreAscending, is_file_system, fs_of}

-- each component behind a slash
slashed : List (List ℕ) → List ℕ
slashed [] = []
slashed (part ∷ path) = 47 ∷ (part ++ slashed path)

slashes : (part : List ℕ) (path : List (List ℕ)) → path_text (part ∷ path) ≡ slashed (part ∷ path)
unfolding slashed
slashes part [] = ap (λ t. 47 ∷ t) (sym (append-nil part))
slashes part (next ∷ path) = ap (λ t. 47 ∷ (part ++ t)) (slashes next path)

-- texts with the same front compare as their rests do
cmp_same_front : (x u v : List ℕ) → slice_cmp nat_cmp (x ++ u) (x ++ v) ≡ slice_cmp nat_cmp u v
cmp_same_front [] u v = refl
cmp_same_front (b ∷ x) u v = ap (λ o. ordering_then o (slice_cmp nat_cmp (x ++ u) (x ++ v))) (tied_itself nat_cmp_total b) ∙ cmp_same_front x u v

both : (a b : Bool) → (a && b) ≡ true → (a ≡ true) × (b ≡ true)
both true b h = (refl, h)
both false b h = absurd (cc)

same_part : (p x y : List ℕ) → bytes_eq p x ≡ true → bytes_eq p y ≡ true → x ≡ y
same_part p x y a b = sym ((bytes_eq-Decides p x).0 a) ∙ (bytes_eq-Decides p y).0 b

nothing_above_nothing : (u : List ℕ) → is_lt (slice_cmp nat_cmp u []) ≡ false
nothing_above_nothing [] = refl
nothing_above_nothing (b ∷ u) = refl

slashed_not_before : (p a b : List (List ℕ)) → is_under p a ≡ true → is_under p b ≡ true → length b ≤ length a → is_lt (slice_cmp nat_cmp (slashed a) (slashed b)) ≡ false
unfolding slashed
slashed_not_before p [] [] ua ub le = refl
slashed_not_before p (x ∷ a) [] ua ub le = refl
slashed_not_before p [] (y ∷ b) ua ub le = absurd (omega arith)
slashed_not_before [] (x ∷ a) (y ∷ b) ua ub le = absurd (cc)
slashed_not_before (q ∷ p) (x ∷ a) (y ∷ b) ua ub le =
    let fa : (bytes_eq q x ≡ true) × (is_under p a ≡ true) = both _ _ ua in
    let fb : (bytes_eq q y ≡ true) × (is_under p b ≡ true) = both _ _ ub in
    let same : x ≡ y = same_part q x y fa.0 fb.0 in
    ap (λ z. is_lt (slice_cmp nat_cmp (z ++ slashed a) (y ++ slashed b))) same
    ∙ ap is_lt (cmp_same_front y (slashed a) (slashed b))
    ∙ slashed_not_before p a b fa.1 fb.1 (omega arith)

not_before : (p a b : List (List ℕ)) → is_under p a ≡ true → is_under p b ≡ true → length b ≤ length a → is_before a b ≡ false
not_before p [] [] ua ub le = refl
not_before p (x ∷ a) [] ua ub le = nothing_above_nothing _
not_before p [] (y ∷ b) ua ub le = absurd (omega arith)
not_before p (x ∷ a) (y ∷ b) ua ub le =
    ap (λ t. is_lt (slice_cmp nat_cmp t (path_text (y ∷ b)))) (slashes x a)
    ∙ ap (λ t. is_lt (slice_cmp nat_cmp (slashed (x ∷ a)) t)) (slashes y b)
    ∙ slashed_not_before p (x ∷ a) (y ∷ b) ua ub le

-- of two mount points above one path, the later in byte order is the longer
longer : (p a b : List (List ℕ)) → is_under p a ≡ true → is_under p b ≡ true → is_before a b ≡ true → length a < length b
longer p a b ua ub before =
    elim (cases_lt (length a) (length b)) [
      | inl less ↦ less
      | inr le ↦ let not_so : is_before a b ≡ false = not_before p a b ua ub le in absurd (cc)
    ]

all_at : {X : Type 0} (t : X → Bool) (xs : List X) (d : X) → ((k : ℕ) → k < length xs → t (get_or xs k d) ≡ true) → list_all t xs ≡ true
all_at t [] d h = refl
all_at t (x ∷ xs) d h =
    let first : t x ≡ true = h 0 (omega arith) in
    let others : list_all t xs ≡ true = all_at t xs d (λ k l. h (suc k) (omega arith)) in
    ap (λ b. b && list_all t xs) first ∙ others

or_true : (b : Bool) → (b || true) ≡ true
or_true true = refl
or_true false = refl

not_le : (m n : ℕ) → m < n → nat_le n m ≡ false
not_le m n less = grind (arith, nat_tests)

position_at : {X : Type 0} (t : X → Bool) (xs : List X) (i : ℕ) (d : X) → i < length xs → ((k : ℕ) → k < i → t (get_or xs k d) ≡ false) → t (get_or xs i d) ≡ true → position t xs ≡ Some i
position_at t xs i d below fails here =
    let at : position_or_len t xs ≡ i = position_or_len_is t xs i d (omega arith) fails (λ _. here) in
    ap (λ n. cond (nat_lt n (length xs)) (Some n) None) at ∙ ap (λ b. cond b (Some i) None) (lt-ltb i (length xs) below)

not_less : (n : ℕ) → nat_lt n n ≡ false
not_less n = grind (arith, nat_tests)

position_none : {X : Type 0} (t : X → Bool) (xs : List X) (d : X) → ((k : ℕ) → k < length xs → t (get_or xs k d) ≡ false) → position t xs ≡ None
position_none t xs d fails =
    let at : position_or_len t xs ≡ length xs = position_or_len_is t xs (length xs) d (omega arith) fails (λ h. absurd (omega arith)) in
    ap (λ n. cond (nat_lt n (length xs)) (Some n) None) at ∙ ap (λ b. cond b (Some (length xs)) None) (not_less (length xs))

-- whether a listed mount point does not stand against m
abbrev no_longer : List (List ℕ) → Mount → Mount → Bool
no_longer p m q = not (is_under p q.path) || nat_le (length q.path) (length m.path)

shorter_passes : (p : List (List ℕ)) (m q : Mount) → length q.path ≤ length m.path → no_longer p m q ≡ true
shorter_passes p m q le = ap (λ b. not (is_under p q.path) || b) (le-leb (length q.path) (length m.path) le) ∙ or_true (not (is_under p q.path))

apart_passes : (p : List (List ℕ)) (m q : Mount) → is_under p q.path ≡ false → no_longer p m q ≡ true
apart_passes p m q e = ap (λ b. not b || nat_le (length q.path) (length m.path)) e

longer_fails : (p : List (List ℕ)) (m q : Mount) → is_under p q.path ≡ true → length m.path < length q.path → no_longer p m q ≡ false
longer_fails p m q u less = ap (λ b. not b || nat_le (length q.path) (length m.path)) u ∙ not_le (length m.path) (length q.path) less

module _ (table : List Mount) (p : List (List ℕ)) (d : Mount) (up : AreAscending table) where
  -- the places before, at and after the last mount point above the path
  before_passes : (i k : ℕ) → i < length table → is_under p (get_or table i d).path ≡ true → k < i → no_longer p (get_or table i d) (get_or table k d) ≡ true
  before_passes i k below here less =
      elim (cases_Bool (is_under p (get_or table k d).path)) [
        | inl above ↦ let shorter : length (get_or table k d).path < length (get_or table i d).path = longer p (get_or table k d).path (get_or table i d).path above here (up k i d less below) in
            shorter_passes p (get_or table i d) (get_or table k d) (omega arith)
        | inr apart ↦ apart_passes p (get_or table i d) (get_or table k d) apart
      ]

  each_passes : (i k : ℕ) → i < length table → is_under p (get_or table i d).path ≡ true → ((k : ℕ) → i < k → k < length table → is_under p (get_or table k d).path ≡ false) → k < length table → no_longer p (get_or table i d) (get_or table k d) ≡ true
  each_passes i k below here after l =
      elim (cases_lt k i) [
        | inl less ↦ before_passes i k below here less
        | inr le ↦ elim (cases_lt i k) [
          | inl more ↦ apart_passes p (get_or table i d) (get_or table k d) (after k more l)
          | inr ge ↦ let same : k ≡ i = omega arith in
              shorter_passes p (get_or table i d) (get_or table k d) (omega (arith, ap (λ n. length (get_or table n d).path) same))
        ]
      ]

  -- one above the path that is not the last is shorter than the last
  before_fails : (i k : ℕ) → i < length table → is_under p (get_or table i d).path ≡ true → k < i → is_file_system table p (get_or table k d) ≡ false
  before_fails i k below here less =
      elim (cases_Bool (is_under p (get_or table k d).path)) [
        | inl above ↦ let shorter : length (get_or table k d).path < length (get_or table i d).path = longer p (get_or table k d).path (get_or table i d).path above here (up k i d less below) in
            ap (λ b. b && list_all (no_longer p (get_or table k d)) table) above
            ∙ list_all_at (no_longer p (get_or table k d)) table i d below (longer_fails p (get_or table k d) (get_or table i d) here shorter)
        | inr apart ↦ ap (λ b. b && list_all (no_longer p (get_or table k d)) table) apart
      ]

  -- the last listed mount point above a path is its file system
  fs_of-last : (i : ℕ) → i < length table → is_under p (get_or table i d).path ≡ true → ((k : ℕ) → i < k → k < length table → is_under p (get_or table k d).path ≡ false) → fs_of table p ≡ Some i
  fs_of-last i below here after =
      let stands : list_all (no_longer p (get_or table i d)) table ≡ true = all_at (no_longer p (get_or table i d)) table d (λ k l. each_passes i k below here after l) in
      position_at (is_file_system table p) table i d below (λ k less. before_fails i k below here less)
      (ap (λ b. b && list_all (no_longer p (get_or table i d)) table) here ∙ stands)

  -- a path that no listed mount point is above has none
  fs_of-none : ((k : ℕ) → k < length table → is_under p (get_or table k d).path ≡ false) → fs_of table p ≡ None
  fs_of-none none = position_none (is_file_system table p) table d (λ k l. ap (λ b. b && list_all (no_longer p (get_or table k d)) table) (none k l))

  -- what the scan for the last mount point finds
  pub fs_of-found : (found : Option ℕ) → MatchOption found (All (λ mount. is_under p mount.path ≡ false) table) (IsLastAbove table p) → found ≡ fs_of table p
  fs_of-found None h = sym (fs_of-none (λ k l. h k d l))
  fs_of-found (Some i) h = sym (fs_of-last i h.inside (h.above d) (λ k less l. h.last k d less l))

-- what is above a path is not behind it in byte order
lt_not_gt : (o : Ordering) → is_lt o ≡ true → is_gt o ≡ false
lt_not_gt Less h = refl
lt_not_gt Equal h = refl
lt_not_gt Greater h = sym h

le_not_gt : (o : Ordering) → is_le o ≡ true → is_gt o ≡ false
le_not_gt Less h = refl
le_not_gt Equal h = refl
le_not_gt Greater h = sym h

not_gt_le : (o : Ordering) → is_gt o ≡ false → is_le o ≡ true
not_gt_le Less h = refl
not_gt_le Equal h = refl
not_gt_le Greater h = sym h

back_le : (o : Ordering) → is_lt o ≡ false → is_le (ordering_reverse o) ≡ true
back_le Less h = sym h
back_le Equal h = refl
back_le Greater h = refl

under_self : (p : List (List ℕ)) → is_under p p ≡ true
under_self [] = refl
under_self (x ∷ p) = ap (λ b. b && is_under p p) ((bytes_eq-Decides x x).1 refl) ∙ under_self p

under_shorter : (p m : List (List ℕ)) → is_under p m ≡ true → length m ≤ length p
under_shorter p [] h = omega arith
under_shorter [] (y ∷ m) h = absurd (cc)
under_shorter (q ∷ p) (y ∷ m) h =
    let rest : (bytes_eq q y ≡ true) × (is_under p m ≡ true) = both _ _ h in
    let le = under_shorter p m rest.1 in
    omega arith

abbrev pub up_to : List (List ℕ) → Mount → Bool
up_to p mount = is_le (slice_cmp nat_cmp (path_text mount.path) (path_text p))

above_up_to : (p : List (List ℕ)) (mount : Mount) → is_under p mount.path ≡ true → up_to p mount ≡ true
above_up_to p mount above =
    let not_so : is_before p mount.path ≡ false = not_before p p mount.path (under_self p) above (under_shorter p mount.path above) in
    ap is_le (nat_list_cmp_total.antisymm (path_text mount.path) (path_text p)) ∙ back_le _ not_so

module _ (table : List Mount) (p : List (List ℕ)) (up : AreAscending table) where
  pub up_to-partitioned : IsPartitionedBy (up_to p) table
  up_to-partitioned i j d le below here =
      elim (cases_lt i j) [
        | inl less ↦ not_gt_le _ (upto nat_list_cmp_total (path_text (get_or table i d).path) (path_text (get_or table j d).path) (path_text p) (lt_not_gt _ (up i j d less below)) (le_not_gt _ here))
        | inr ge ↦ let same : j ≡ i = omega arith in ap (λ n. up_to p (get_or table n d)) (sym same) ∙ here
      ]

  pub behind_apart : (k : ℕ) (d : Mount) → up_to p (get_or table k d) ≡ false → is_under p (get_or table k d).path ≡ false
  behind_apart k d behind =
      elim (cases_Bool (is_under p (get_or table k d).path)) [
        | inl above ↦ absurd (true≢false (sym (above_up_to p (get_or table k d) above) ∙ behind))
        | inr apart ↦ apart
      ]
