-- Values in byte order of their keys, those of one key in an order of their own: what a stable sort keeps, and what stands
-- where a search for a key ends.
use Rattle.std.proofs.Common.{◌≡◌, ◌<◌, ◌≤◌, ℕ, Bool, true, false, not, ◌&&◌, List, [], ◌∷◌, cond, length, get_or, filter, suc, take, zero, nat_cmp, ap, sym, ◌∙◌, refl, inl, inr, arith}
use Rattle.std.specs.Prelude.{◌⊎◌}
use Rattle.std.specs.Cmp.Lexicographic.{slice_cmp}
use Rattle.std.specs.List.Sorted.{IsPartitionPoint, IsPartitionedBy, IsSortedBy, IsStableBy, ties}
use Rattle.std.specs.Ordering.{is_eq, is_lt, ordering_reverse}
use Rattle.std.specs.Str.{bytes_eq}
use Rattle.std.specs.declared.cmp.Ordering.{Ordering}
use Rattle.std.specs.declared.cmp.Ordering.TheVariants.{Less, Equal, Greater}
use Rattle.std.proofs.lemmas.Bool.{cases_Bool, cond-false, true≢false}
use Rattle.std.proofs.lemmas.Cmp.{nat_list_cmp_total}
use Rattle.std.proofs.lemmas.List.{get_or_default}
use Rattle.std.proofs.lemmas.List.Sorted.{ranks_by, sorted_far}
use Rattle.std.proofs.lemmas.Map.Text.{is_eq-slice_cmp}
use Rattle.std.proofs.lemmas.Slice.Eq.{bytes_eq-Decides}

level : (o : Ordering) → (not (is_lt o) && not (is_lt (ordering_reverse o))) ≡ is_eq o
level Less = refl
level Equal = refl
level Greater = refl

neither : (o : Ordering) → is_lt o ≡ false → is_lt (ordering_reverse o) ≡ false → is_eq o ≡ true
neither Less a b = absurd (true≢false a)
neither Equal a b = refl
neither Greater a b = absurd (true≢false b)

apart : (o : Ordering) → is_lt o ≡ true → is_eq (ordering_reverse o) ≡ false
apart Less h = refl
apart Equal h = absurd (true≢false (sym h))
apart Greater h = refl

module _ {X : Type 0} (t : X → Bool) where
  none_kept : (xs : List X) → ((k : ℕ) (d : X) → k < length xs → t (get_or xs k d) ≡ false) → filter t xs ≡ []
  none_kept [] h = refl
  none_kept (x ∷ xs) h = cond-false (t x) (x ∷ filter t xs) (filter t xs) (h 0 x (omega arith)) ∙ none_kept xs (λ k d less. h (suc k) d (omega arith))

  none_in_front : (i : ℕ) (xs : List X) → ((k : ℕ) (d : X) → k < i → k < length xs → t (get_or xs k d) ≡ false) → filter t (take i xs) ≡ []
  none_in_front zero [] h = refl
  none_in_front zero (x ∷ xs) h = refl
  none_in_front (suc i) [] h = refl
  none_in_front (suc i) (x ∷ xs) h =
      cond-false (t x) (x ∷ filter t (take i xs)) (filter t (take i xs)) (h 0 x (omega arith) (omega arith))
      ∙ none_in_front i xs (λ k d less within. h (suc k) d (omega arith) (omega arith))

  all_in_front : (i : ℕ) (xs : List X) → ((k : ℕ) (d : X) → i ≤ k → k < length xs → t (get_or xs k d) ≡ false) → filter t xs ≡ filter t (take i xs)
  all_in_front zero [] h = refl
  all_in_front zero (x ∷ xs) h = none_kept (x ∷ xs) (λ k d less. h k d (omega arith) less)
  all_in_front (suc i) [] h = refl
  all_in_front (suc i) (x ∷ xs) h = ap (λ l. cond (t x) (x ∷ l) l) (all_in_front i xs (λ k d le less. h (suc k) d (omega arith) (omega arith)))

-- a value that passes, or the test passes none
first_of : {X : Type 0} (t : X → Bool) (xs : List X) → ((x : X) × (t x ≡ true)) ⊎ (filter t xs ≡ [])
first_of t [] = inr refl
first_of t (x ∷ xs) =
    elim (cases_Bool (t x)) [
      | inl e ↦ inl (x, e)
      | inr e ↦ elim (first_of t xs) [
        | inl found ↦ inl found
        | inr none ↦ inr (cond-false (t x) (x ∷ filter t xs) (filter t xs) e ∙ none)
      ]
    ]

module _ {X : Type 0} (key : X → List ℕ) where
  abbrev pub is_below : X → X → Bool
  is_below x y = is_lt (slice_cmp nat_cmp (key x) (key y))

  abbrev pub has : List ℕ → X → Bool
  has name x = bytes_eq name (key x)

  abbrev pub is_before : List ℕ → X → Bool
  is_before name x = is_lt (slice_cmp nat_cmp (key x) name)

  tied : (x y : X) → ties is_below x y ≡ has (key x) y
  tied x y =
      ap (λ o. not (is_below x y) && not (is_lt o)) (nat_list_cmp_total.antisymm (key y) (key x))
      ∙ level (slice_cmp nat_cmp (key x) (key y)) ∙ is_eq-slice_cmp (key x) (key y)

  module _ (xs ys : List X) (stable : IsStableBy is_below xs ys) where
    kept_of : (name : List ℕ) (x : X) → has name x ≡ true → filter (has name) ys ≡ filter (has name) xs
    kept_of name x is =
        let e : name ≡ key x = (bytes_eq-Decides name (key x)).0 is in
        let same : (y : X) → ties is_below x y ≡ has name y = λ y. tied x y ∙ ap (λ n. bytes_eq n (key y)) (sym e) in
        let tests : ties is_below x ≡ has name = λ i y. same y i in
        sym (ap (λ t. filter t ys) tests) ∙ stable x ∙ ap (λ t. filter t xs) tests

    -- a stable sort keeps the values of each key in their order
    pub kept : (name : List ℕ) → filter (has name) ys ≡ filter (has name) xs
    kept name =
        elim (first_of (has name) xs) [
          | inl found ↦ kept_of name found.0 found.1
          | inr none ↦ elim (first_of (has name) ys) [
            | inl found ↦ kept_of name found.0 found.1
            | inr nothing ↦ nothing ∙ sym none
          ]
        ]

  module _ (xs : List X) (up : IsSortedBy is_below xs) (name : List ℕ) where
    pub before-partitioned : IsPartitionedBy (is_before name) xs
    before-partitioned i j d le lt e =
        elim (cases_Bool (is_before name (get_or xs i d))) [
          | inl is ↦ is
          | inr lacks ↦
              let far = sorted_far is_below (ranks_by nat_list_cmp_total key) xs up i j d le lt in
              absurd (true≢false (sym e ∙ (ranks_by nat_list_cmp_total (λ (k : List ℕ). k)).chain (key (get_or xs j d)) (key (get_or xs i d)) name far lacks))
        ]

    before_lacks : (x : X) → is_before name x ≡ true → has name x ≡ false
    before_lacks x b =
        sym (is_eq-slice_cmp name (key x)) ∙ ap is_eq (nat_list_cmp_total.antisymm name (key x)) ∙ apart (slice_cmp nat_cmp (key x) name) b

    behind_lacks : (i k : ℕ) (d : X) → i ≤ k → k < length xs → is_before name (get_or xs i d) ≡ false → has name (get_or xs i d) ≡ false → has name (get_or xs k d) ≡ false
    behind_lacks i k d le lt behind lacks =
        elim (cases_Bool (has name (get_or xs k d))) [
          | inl is ↦
              let e : name ≡ key (get_or xs k d) = (bytes_eq-Decides name (key (get_or xs k d))).0 is in
              let far = sorted_far is_below (ranks_by nat_list_cmp_total key) xs up i k d le lt in
              let there = slice_cmp nat_cmp name (key (get_or xs i d)) in
              let level : is_eq there ≡ true = neither there (ap (λ n. is_lt (slice_cmp nat_cmp n (key (get_or xs i d)))) e ∙ far) (ap is_lt (sym (nat_list_cmp_total.antisymm (key (get_or xs i d)) name)) ∙ behind) in
              absurd (true≢false (sym level ∙ is_eq-slice_cmp name (key (get_or xs i d)) ∙ lacks))
          | inr not_so ↦ not_so
        ]

    module _ (i : ℕ) (point : IsPartitionPoint (λ x. is_before name x ≡ true) (λ x. is_before name x ≡ false) xs i) where
      -- nothing before the end of the search has the key
      pub none_before : filter (has name) (take i xs) ≡ []
      none_before = none_in_front (has name) i xs (λ k d less within. before_lacks (get_or xs k d) (point.0 k d (omega arith) less))

      -- all that have the key stand before a value behind it that does not
      pub all_before : (j : ℕ) (x : X) → i ≤ j → j < length xs → x ≡ get_or xs j x → has name x ≡ false → filter (has name) xs ≡ filter (has name) (take j xs)
      all_before j x le below is lacks =
          all_in_front (has name) j xs (λ k d past within. behind_lacks_from j k d x past within le is lacks)
        where
          behind_lacks_from : (j k : ℕ) (d x : X) → j ≤ k → k < length xs → i ≤ j → x ≡ get_or xs j x → has name x ≡ false → has name (get_or xs k d) ≡ false
          behind_lacks_from j k d x past within le is lacks =
              let same : get_or xs j d ≡ x = get_or_default xs j d x (omega arith) ∙ sym is in
              behind_lacks j k d past within (point.1 j d le (omega arith)) (ap (has name) same ∙ lacks)
