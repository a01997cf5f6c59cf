-- A stable sort has one result, by value: lists that have the same values are sorted into lists that have the same values.
use Rattle.std.proofs.Common.{◌≡◌, ℕ, suc, ◌<◌, ◌≤◌, ◌&&◌, ◌∙◌, Bool, true, false, cond, List, [], ◌∷◌, ap, arith, drop, get_or, inl, inr, length, map, not, refl, subst, sym}
use Rattle.std.specs.Prelude.{All, Contains, filter}
use Rattle.std.specs.Cmp.{IsStrictWeakOrder}
use Rattle.std.specs.List.Sorted.{IsSortedBy, IsStableBy, ties}
use Rattle.std.proofs.lemmas.Bool.{cases_Bool, true≢false}
use Rattle.std.proofs.lemmas.List.{get_or-map, length-map}
use Rattle.std.proofs.lemmas.List.Elements.{All-contains_itself, All-filter, All-head}
use Rattle.std.proofs.lemmas.List.Sorted.{sorted_far}
use Rattle.desk_impact.proofs.Telling.{map-filter}

module _ {V : Type 0} (test : V → Bool) where
  first_kept : (v : V) (vs : List V) → test v ≡ true → filter test (v ∷ vs) ≡ v ∷ filter test vs
  first_kept v vs is = ap (λ b. cond b (v ∷ filter test vs) (filter test vs)) is

  first_left : (v : V) (vs : List V) → test v ≡ false → filter test (v ∷ vs) ≡ filter test vs
  first_left v vs is = ap (λ b. cond b (v ∷ filter test vs) (filter test vs)) is

  among_kept : (v : V) (rest vs : List V) → filter test vs ≡ v ∷ rest → Contains vs v
  among_kept v rest vs is = All-head (Contains vs) v rest (subst (All (Contains vs)) is (All-filter test (Contains vs) vs (All-contains_itself vs)))

both_not : (b c : Bool) → b ≡ false → c ≡ false → (not b && not c) ≡ true
both_not b c is_b is_c = ap (λ d. not d && not c) is_b ∙ ap (λ d. not d) is_c

either_way : (b c : Bool) → (not b && not c) ≡ (not c && not b)
either_way true true = refl
either_way true false = refl
either_way false true = refl
either_way false false = refl

module _ {X V : Type 0} (f : X → V) (lt : V → V → Bool) (weak : IsStrictWeakOrder lt) where
  abbrev below : X → X → Bool
  below x y = lt (f x) (f y)

  -- none is less than one before it
  abbrev AreOrdered : List X → Type 0
  AreOrdered xs = (i j : ℕ) (d : X) → i ≤ j → j < length xs → below (get_or xs j d) (get_or xs i d) ≡ false

  -- those that tie have the same values, in the same order
  abbrev TieAlike : List X → List X → Type 0
  TieAlike ys zs = (x : X) → filter (ties lt (f x)) (map f ys) ≡ filter (ties lt (f x)) (map f zs)

  not_itself : (v : V) → lt v v ≡ false
  not_itself v =
      elim (cases_Bool (lt v v)) as (λ _. lt v v ≡ false) [
        | inl is ↦ weak.one_way v v is
        | inr not ↦ not
      ]

  ties_itself : (v : V) → ties lt v v ≡ true
  ties_itself v = both_not (lt v v) (lt v v) (not_itself v) (not_itself v)

  rest_ordered : (x : X) (xs : List X) → AreOrdered (x ∷ xs) → AreOrdered xs
  rest_ordered x xs order = λ i j d le within. order (suc i) (suc j) d (omega arith) (omega arith)

  first_least : (x : X) (xs : List X) (v : V) → AreOrdered (x ∷ xs) → Contains (map f xs) v → lt v (f x) ≡ false
  first_least x xs v order has =
      let long = length-map xs f in
      let lt_has = has.1 in
      let within : has.0 < length xs = omega arith in
      subst (λ w. lt w (f x) ≡ false) (sym (get_or-map f xs has.0 x v within) ∙ has.2) (order 0 (suc has.0) x (omega arith) (omega arith))

  first_same : (y : X) (ys : List X) (z : X) (zs : List X) → AreOrdered (y ∷ ys) → AreOrdered (z ∷ zs) → TieAlike (y ∷ ys) (z ∷ zs) → f y ≡ f z
  first_same y ys z zs order order' alike =
      let v = f y in
      let w = f z in
      elim (cases_Bool (ties lt v w)) as (λ _. f y ≡ f z) [
        | inl tied ↦
            let e : v ∷ filter (ties lt v) (map f ys) ≡ w ∷ filter (ties lt v) (map f zs) = sym (first_kept (ties lt v) v (map f ys) (ties_itself v)) ∙ alike y ∙ first_kept (ties lt v) w (map f zs) tied in
            ap (λ vs. get_or vs 0 v) e
        | inr apart ↦
            let e : filter (ties lt v) (map f zs) ≡ v ∷ filter (ties lt v) (map f ys) = sym (first_left (ties lt v) w (map f zs) apart) ∙ sym (alike y) ∙ first_kept (ties lt v) v (map f ys) (ties_itself v) in
            let e' : filter (ties lt w) (map f ys) ≡ w ∷ filter (ties lt w) (map f zs) =
            sym (first_left (ties lt w) v (map f ys) (either_way (lt w v) (lt v w) ∙ apart)) ∙ alike z ∙ first_kept (ties lt w) w (map f zs) (ties_itself w) in
            let later = first_least z zs v order' (among_kept (ties lt v) v (filter (ties lt v) (map f ys)) (map f zs) e) in
            let later' = first_least y ys w order (among_kept (ties lt w) w (filter (ties lt w) (map f zs)) (map f ys) e') in
            absurd (true≢false (sym (both_not (lt v w) (lt w v) later later') ∙ apart))
      ]

  rest_alike : (y : X) (ys : List X) (z : X) (zs : List X) → f y ≡ f z → TieAlike (y ∷ ys) (z ∷ zs) → TieAlike ys zs
  rest_alike y ys z zs same alike x =
      let test = ties lt (f x) in
      elim (cases_Bool (test (f z))) as (λ _. filter test (map f ys) ≡ filter test (map f zs)) [
        | inl tied ↦
            let e : f y ∷ filter test (map f ys) ≡ f z ∷ filter test (map f zs) = sym (first_kept test (f y) (map f ys) (ap test same ∙ tied)) ∙ alike x ∙ first_kept test (f z) (map f zs) tied in
            ap (λ vs. drop 1 vs) e
        | inr apart ↦ sym (first_left test (f y) (map f ys) (ap test same ∙ apart)) ∙ alike x ∙ first_left test (f z) (map f zs) apart
      ]

  one_order : (ys zs : List X) → AreOrdered ys → AreOrdered zs → TieAlike ys zs → map f ys ≡ map f zs
  one_order [] [] order order' alike = refl
  one_order [] (z ∷ zs) order order' alike =
      absurd (let long = ap length (alike z ∙ first_kept (ties lt (f z)) (f z) (map f zs) (ties_itself (f z))) in omega arith)
  one_order (y ∷ ys) [] order order' alike =
      absurd (let long = ap length (sym (alike y) ∙ first_kept (ties lt (f y)) (f y) (map f ys) (ties_itself (f y))) in omega arith)
  one_order (y ∷ ys) (z ∷ zs) order order' alike =
      let same = first_same y ys z zs order order' alike in
      ap (λ v. v ∷ map f ys) same
      ∙ ap (λ vs. f z ∷ vs) (one_order ys zs (rest_ordered y ys order) (rest_ordered z zs order') (rest_alike y ys z zs same alike))

  weakly_below : IsStrictWeakOrder below
  weakly_below = record { one_way = λ x y. weak.one_way (f x) (f y); chain = λ x y z. weak.chain (f x) (f y) (f z) }

  ties_kept : (xs ys : List X) → IsStableBy below xs ys → TieAlike ys xs
  ties_kept xs ys stable x = sym (map-filter f (ties lt (f x)) ys) ∙ ap (map f) (stable x) ∙ map-filter f (ties lt (f x)) xs

  pub sorted_in_one_way : (xs others ys zs : List X) → map f xs ≡ map f others → IsSortedBy below ys → IsSortedBy below zs → IsStableBy below xs ys → IsStableBy below others zs
      → map f ys ≡ map f zs
  sorted_in_one_way xs others ys zs same order order' stable stable' =
      one_order ys zs (sorted_far below weakly_below ys order) (sorted_far below weakly_below zs order')
      (λ x. ties_kept xs ys stable x ∙ ap (filter (ties lt (f x))) same ∙ sym (ties_kept others zs stable' x))
