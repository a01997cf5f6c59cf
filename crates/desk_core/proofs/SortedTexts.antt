-- Texts that are sorted, each kept once, for `listing`, and for the hosts of page_lists.
use Rattle.std.proofs.Common.{◌≡◌, ◌∙◌, ℕ, zero, suc, ◌<◌, true, List, [], ◌∷◌, ap, arith, get_or, length, map, nat_cmp, nat_eq, refl, subst, sym}
use Rattle.std.specs.List.{All, AllPairs, Any, Contains, dedup}
use Rattle.std.specs.List.Retain.{DiffersFromLast, IsFiltered}
use Rattle.std.specs.List.Sorted.{IsPermutation, IsSorted, IsStrictlySortedBy}
use Rattle.std.specs.Ordering.{is_lt, on}
use Rattle.std.specs.declared.cmp.Ordering.TheVariants.{Less}
use Rattle.std.specs.Cmp.Lexicographic.{slice_cmp, pointwise, on_texts, on_texts_equal, texts_ties}
use Rattle.std.proofs.lemmas.List.{get_or-map, length-map}
use Rattle.std.proofs.lemmas.List.Elements.{All-from_recursion, All-map}
use Rattle.std.proofs.lemmas.List.Filters.{dedup_is}
use Rattle.std.proofs.lemmas.List.Kept.{AllPairs-cons, Any-dedup, Contains-from_dedup, IsStrictlySortedBy-dedup}
use Rattle.std.proofs.lemmas.List.Sorted.{Contains-permutation, IsPermutation-sym}
use Rattle.std.proofs.lemmas.Slice.Eq.{bytes_eq-Decides}

abbrev Bytes : Type 0
Bytes = List ℕ

module _ {R : Type 0} (now : R → Bytes) where
  abbrev IsAbove : Bytes → Bytes → Type 0
  IsAbove text later = is_lt (slice_cmp nat_cmp text later) ≡ true

  ascend : (rs : List R) → IsStrictlySortedBy (on now (slice_cmp nat_cmp)) rs → AllPairs IsAbove (map now rs)
  unfolding IsStrictlySortedBy
  ascend [] up = λ i j d before inside. absurd (omega arith)
  ascend (r ∷ rs) up =
      let later_ones : All (λ later. IsAbove (now r) (now later)) rs = λ k d inside. ap is_lt (All-from_recursion (λ later. on now (slice_cmp nat_cmp) r later ≡ Less) rs up.0 k d inside) in
      AllPairs-cons IsAbove (now r) (map now rs) (All-map (IsAbove (now r)) now rs later_ones) (ascend rs up.1)

  -- a text of a list, and the element that has it
  found_at : (rs : List R) (text : Bytes) (k : ℕ) → k < length rs → get_or (map now rs) k text ≡ text → (r : R) × Contains rs r × (now r ≡ text)
  found_at [] text k below is = absurd (omega arith)
  found_at (r ∷ rs) text zero below is = (r, (0, below, refl), is)
  found_at (r ∷ rs) text (suc k) below is =
      let found = found_at rs text k (omega arith) is in
      let inside : suc found.1.0 < length (r ∷ rs) = omega (arith, found.1.1) in
      (found.0, (suc found.1.0, inside, found.1.2), found.2)

  found : (rs : List R) (text : Bytes) → Contains (map now rs) text → (r : R) × Contains rs r × (now r ≡ text)
  found rs text c = found_at rs text c.0 (omega (arith, c.1, length-map rs now)) c.2

  there : (rs : List R) (r : R) → Contains rs r → Contains (map now rs) (now r)
  there rs r c = (c.0, omega (arith, c.1, length-map rs now), get_or-map now rs c.0 r (now r) c.1 ∙ ap now c.2)

  module _ (given sorted kept : List R) (moved : IsPermutation given sorted) (up : IsSorted (on now (slice_cmp nat_cmp)) sorted)
      (filtered : IsFiltered (DiffersFromLast (on now (pointwise nat_eq))) [] sorted kept) where
    once : kept ≡ dedup (on now (pointwise nat_eq)) sorted
    once = dedup_is (on now (pointwise nat_eq)) sorted kept filtered

    pub ascending : AllPairs IsAbove (map now kept)
    ascending = ascend kept (subst (IsStrictlySortedBy (on now (slice_cmp nat_cmp))) (sym once) (IsStrictlySortedBy-dedup (on_texts now) (λ x y. texts_ties (now x) (now y)) sorted up))

    -- each given text is kept, and no other
    pub all_kept : (text : Bytes) → Contains (map now given) text → Contains (map now kept) text
    all_kept text c =
        let one = found given text c in
        let like : Any (λ other. on now (pointwise nat_eq) one.0 other ≡ true) kept =
        subst (λ rs. Any (λ other. on now (pointwise nat_eq) one.0 other ≡ true) rs) (sym once) (Any-dedup (on_texts_equal now) sorted one.0 (Contains-permutation given sorted one.0 moved one.1)) in
        let same : now one.0 ≡ now like.1 = (bytes_eq-Decides (now one.0) (now like.1)).0 like.4 in
        subst (Contains (map now kept)) (sym same ∙ one.2) (there kept like.1 (like.0, like.2, like.3))

    pub only_given : (text : Bytes) → Contains (map now kept) text → Contains (map now given) text
    only_given text c =
        let one = found kept text c in
        let among : Contains sorted one.0 = Contains-from_dedup (on now (pointwise nat_eq)) sorted one.0 (subst (λ rs. Contains rs one.0) once one.1) in
        subst (Contains (map now given)) one.2 (there given one.0 (Contains-permutation sorted given one.0 (IsPermutation-sym given sorted moved) among))
