-- Sorted paths, each kept once, are the given ones in order.
use Rattle.std.proofs.Common.{◌≡◌, ℕ, Bool, true, List, [], ◌∷◌, sym, ap, subst, nat_cmp, arith, Bor}
use Rattle.std.specs.Cmp.{IsEquivalence}
use Rattle.std.specs.Cmp.Lexicographic.{on_texts, slice_cmp, texts_ties}
use Rattle.std.specs.List.{All, AllPairs, Any, Contains, dedup}
use Rattle.std.specs.List.Sorted.{IsPermutation, IsSorted, IsStrictlySortedBy}
use Rattle.std.specs.Ordering.{is_lt}
use Rattle.std.specs.declared.cmp.Ordering.{Ordering}
use Rattle.std.specs.declared.cmp.Ordering.TheVariants.{Less}
use Rattle.std.proofs.lemmas.Cmp.{lists_equiv, nat_list_eq_equiv}
use Rattle.std.proofs.lemmas.List.Elements.{All-contains_itself, All-from_recursion, All-map}
use Rattle.std.proofs.lemmas.List.Kept.{AllPairs-cons, Any-dedup, Contains-from_dedup, IsStrictlySortedBy-dedup}
use Rattle.std.proofs.lemmas.List.Sorted.{Contains-permutation, IsPermutation-sym}
use Rattle.desk_text.specs.Path.{are_printed_alike, path_text, same_path}
use Rattle.desk_tables.specs.FileSystems.{is_before}
use Rattle.desk_impact.specs.Places.{AreInOrder, paths_in}
use Rattle.desk_impact.proofs.Same.{Path, contains_map, same_is}

abbrev pub Lent : Type 0
Lent = Bor (List (List ℕ))

-- the order of lent paths
abbrev pub order : Lent → Lent → Ordering
order path other = slice_cmp nat_cmp (path_text path.now) (path_text other.now)

abbrev pub printed_same : Lent → Lent → Bool
printed_same path other = are_printed_alike path.now other.now

abbrev pub own_same : Lent → Lent → Bool
own_same path other = same_path path.now other.now

own_equivalence : IsEquivalence own_same
own_equivalence =
    let e : IsEquivalence same_path = lists_equiv nat_list_eq_equiv in
    record { refl = λ x. e.refl x.now; symm = λ x y. e.symm x.now y.now; congr = λ x y z. e.congr x.now y.now z.now }

ascend : (paths : List Lent) → IsStrictlySortedBy order paths → AllPairs (λ path later. is_before path later ≡ true) (paths_in paths)
unfolding IsStrictlySortedBy
ascend [] up = λ i j d before inside. absurd (omega arith)
ascend (path ∷ paths) up =
    let later_ones : All (λ (later : Lent). is_before path.now later.now ≡ true) paths = λ k d inside. ap is_lt (All-from_recursion (λ later. order path later ≡ Less) paths up.0 k d inside) in
    AllPairs-cons (λ (p : Path) (later : Path). is_before p later ≡ true) path.now (paths_in paths)
    (All-map (λ (later : Path). is_before path.now later ≡ true) (λ (p : Lent). p.now) paths later_ones)
    (ascend paths up.1)

module _ (given sorted kept : List Lent) (moved : IsPermutation given sorted) (up : IsSorted order sorted) (once : kept ≡ dedup printed_same sorted) (once' : kept ≡ dedup own_same sorted) where
  listed : (path : Lent) → Contains given path → Contains (paths_in kept) path.now
  listed path inside =
      let found : Any (λ other. own_same path other ≡ true) (dedup own_same sorted) = Any-dedup own_equivalence sorted path (Contains-permutation given sorted path moved inside) in
      let at : Contains (dedup own_same sorted) found.1 = (found.0, found.2, found.3) in
      subst (Contains (paths_in kept)) (sym (same_is path.now found.1.now found.4))
      (contains_map (λ (p : Lent). p.now) kept found.1 (subst (λ ps. Contains ps found.1) (sym once') at))

  only_given : (path : Lent) → Contains kept path → Contains (paths_in given) path.now
  only_given path inside =
      let among : Contains sorted path = Contains-from_dedup printed_same sorted path (subst (λ ps. Contains ps path) once inside) in
      contains_map (λ (p : Lent). p.now) given path (Contains-permutation sorted given path (IsPermutation-sym given sorted moved) among)

  pub in_order : AreInOrder (paths_in given) (paths_in kept)
  in_order = record {
    ascend = ascend kept (subst (IsStrictlySortedBy order) (sym once) (IsStrictlySortedBy-dedup (on_texts (λ (path : Lent). path_text path.now)) (λ x y. texts_ties (path_text x.now) (path_text y.now)) sorted up));
    all = All-map (Contains (paths_in kept)) (λ (p : Lent). p.now) given (λ k d inside. listed _ (All-contains_itself given k d inside));
    only = All-map (Contains (paths_in given)) (λ (p : Lent). p.now) kept (λ k d inside. only_given _ (All-contains_itself kept k d inside));
  }
