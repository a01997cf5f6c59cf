-- The order of files and numbers, in which revisions and approvals are, and how often one is in a list.
use Rattle.std.proofs.Common.{◌≡◌, ◌∙◌, sym, ap, subst, refl, ℕ, suc, ◌<◌, ◌≤◌, ◌++◌, ◌==◌, ◌&&◌, Bool, true, false, List, [], ◌∷◌, length, get_or, reverse, arith}
use Rattle.std.specs.List.{AllByRecursion, sum_by}
use Rattle.std.specs.Cmp.{IsStrictWeakOrder, IsTotalOrder, nat_cmp_total, on_total, ranks, then_total, tied_then}
use Rattle.std.specs.Cmp.Lexicographic.{nat_list_cmp_total, slice_cmp}
use Rattle.std.specs.declared.cmp.Ordering.{Ordering}
use Rattle.std.specs.Ordering.{MatchOrdering, is_eq, is_lt, nat_cmp, ordering_reverse, ordering_then}
use Rattle.std.specs.declared.cmp.Ordering.TheVariants.{Less, Equal, Greater}
use Rattle.std.specs.Str.{bytes_eq}
use Rattle.std.proofs.lemmas.Bool.{eq-eqb, eqb-true}
use Rattle.std.proofs.lemmas.List.{reverse-append}
use Rattle.std.proofs.lemmas.List.Elements.{recursion_from_All}
use Rattle.std.proofs.lemmas.List.Sorted.{IsPermutation-reverse, IsStrictWeakOrder-flip, ranks_by}
use Rattle.std.proofs.lemmas.Map.Text.{is_eq-slice_cmp}
use Rattle.std.proofs.lemmas.Slice.Eq.{bytes_eq-Decides}
use Rattle.sqlite_trees.proofs.ListLemmas.{all-append, all-permutation}
use Rattle.desk_core.specs.Head.{Revision}
use Rattle.desk_store.specs.StoredRows.{Key, approval_key, is_below, revision_key}
use Rattle.desk_store.specs.declared.stored_rows.Approval.{Approval}
use Rattle.desk_store.proofs.Counts.{one_if}
use Rattle.desk_store.proofs.Members.{both_true}

-- ---- the order

abbrev compare : Key → Key → Ordering
compare one other = ordering_then (slice_cmp nat_cmp one.0 other.0) (nat_cmp one.1 other.1)

total : IsTotalOrder compare
total = then_total {R = λ one other. slice_cmp nat_cmp one.0 other.0} {S = λ one other. nat_cmp one.1 other.1} (on_total (λ (key : Key). key.0) nat_list_cmp_total) (on_total (λ (key : Key). key.1) nat_cmp_total)

pub of_revisions : IsStrictWeakOrder (λ (one other : Revision). is_below (revision_key one) (revision_key other))
of_revisions = ranks_by total revision_key

pub of_approvals : IsStrictWeakOrder (λ (one other : Approval). is_below (approval_key other) (approval_key one))
of_approvals = IsStrictWeakOrder-flip (λ (one other : Approval). is_below (approval_key one) (approval_key other)) (ranks_by total approval_key)

pub key_same : (x y : Key) → x.0 ≡ y.0 → x.1 ≡ y.1 → x ≡ y
key_same x y file rev =
    let make : List ℕ → ℕ → Key = λ f n. (f, n) in
    ap (λ f. make f x.1) file ∙ ap (make y.0) rev

not_below : (o : Ordering) → is_lt o ≡ false → is_lt (ordering_reverse o) ≡ false → is_eq o ≡ true
not_below Less one other = absurd (cc)
not_below Equal one other = refl
not_below Greater one other = absurd (cc)

level : (m n : ℕ) (o : Ordering) → MatchOrdering o (m < n) (m ≡ n) (n < m) → is_eq o ≡ true → m ≡ n
level m n Less h e = absurd (cc)
level m n Equal h e = h
level m n Greater h e = absurd (cc)

-- where neither is below the other they are one
pub neither_below : (x y : Key) → is_below x y ≡ false → is_below y x ≡ false → x ≡ y
neither_below x y one other =
    let tie = not_below (compare x y) one (ap is_lt (sym (total.antisymm y x)) ∙ other) in
    let both = both_true (is_eq (slice_cmp nat_cmp x.0 y.0)) (is_eq (nat_cmp x.1 y.1)) (tied_then (slice_cmp nat_cmp x.0 y.0) (nat_cmp x.1 y.1) ∙ tie) in
    key_same x y ((bytes_eq-Decides x.0 y.0).0 (sym (is_eq-slice_cmp x.0 y.0) ∙ both.0)) (level x.1 y.1 (nat_cmp x.1 y.1) (ranks x.1 y.1) both.1)

-- ---- lists in order

module _ {X : Type 0} (key : X → Key) where
  -- each is not below those before it
  abbrev pub Rises : List X → Type 0
  Rises [] = Unit {0}
  Rises (x ∷ xs) = AllByRecursion (λ y. is_below (key y) (key x) ≡ false) xs × Rises xs

  pub rises_from : (xs : List X) → ((i j : ℕ) (d : X) → i ≤ j → j < length xs → is_below (key (get_or xs j d)) (key (get_or xs i d)) ≡ false) → Rises xs
  rises_from [] far = tt
  rises_from (x ∷ xs) far = (
    recursion_from_All (λ y. is_below (key y) (key x) ≡ false) xs (λ k d below. far 0 (suc k) d (omega arith) (omega arith)),
    rises_from xs (λ i j d le below. far (suc i) (suc j) d (omega arith) (omega arith)),
  )

  rises_push : (ys : List X) (x : X) → Rises ys → AllByRecursion (λ y. is_below (key x) (key y) ≡ false) ys → Rises (ys ++ x ∷ [])
  rises_push [] x up all = (tt, tt)
  rises_push (y ∷ ys) x up all = (all-append (λ z. is_below (key z) (key y) ≡ false) ys (x ∷ []) up.0 (all.0, tt), rises_push ys x up.1 all.1)

  -- the other way round, where none is below those behind it
  pub reverse_rises : (xs : List X) → ((i j : ℕ) (d : X) → i ≤ j → j < length xs → is_below (key (get_or xs i d)) (key (get_or xs j d)) ≡ false) → Rises (reverse xs)
  reverse_rises [] far = tt
  reverse_rises (x ∷ xs) far =
      let behind = recursion_from_All (λ y. is_below (key x) (key y) ≡ false) xs (λ k d below. far 0 (suc k) d (omega arith) (omega arith)) in
      let before = all-permutation (λ y. is_below (key x) (key y) ≡ false) xs (reverse xs) (IsPermutation-reverse xs) behind in
      let rest = reverse_rises xs (λ i j d le below. far (suc i) (suc j) d (omega arith) (omega arith)) in
      subst Rises (sym (reverse-append (x ∷ []) xs)) (rises_push (reverse xs) x rest before)

-- ---- how often a file and number is in a list

abbrev pub at : Key → Key → Bool
at key other = other.1 == key.1 && bytes_eq other.0 key.0

pub at_is : (key other : Key) → at key other ≡ true → other ≡ key
at_is key other h =
    let both = both_true (other.1 == key.1) (bytes_eq other.0 key.0) h in
    key_same other key ((bytes_eq-Decides other.0 key.0).0 both.1) (eqb-true other.1 key.1 both.0)

pub at_itself : (key : Key) → at key key ≡ true
at_itself key = ap (λ b. b && bytes_eq key.0 key.0) (eq-eqb key.1 key.1 refl) ∙ (bytes_eq-Decides key.0 key.0).1 refl

abbrev pub count : {X : Type 0} → (X → Key) → Key → List X → ℕ
count key k xs = sum_by (λ x. one_if (at k (key x))) xs
