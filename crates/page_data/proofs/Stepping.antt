-- The rows of sorted ranges so far, with one range more.
use Rattle.std.proofs.Common.{◌≡◌, ℕ, ◌+◌, ◌<◌, ◌≤◌, ◌∙◌, List, [], ◌∷◌, ap, arith, get_or, length, map, subst, sym, take}
use Rattle.std.specs.Prelude.{Contains}
use Rattle.std.specs.List.Sorted.{IsNonDecreasingBy}
use Rattle.std.proofs.lemmas.List.{get_or-take, get_or_default, length-take, map-append}
use Rattle.desk_who.specs.Runs.{AreDiscrete, Run}
use Rattle.page_data.specs.PrivateRows.{AddsRange}
use Rattle.page_data.specs.Rows.{ByOrder, RowValue, order_of}
use Rattle.page_data.proofs.AllRows.{FromMap, from_map, to_map}
use Rattle.page_data.proofs.Gathered.{take_next}
use Rattle.page_data.proofs.Rowed.{Rowed, Verdict, one_range}

module _ (compare : AreDiscrete Verdict) {X : Type 0} (f : X → Run Verdict) (ranges items : List X) (by_order : ByOrder (map f ranges)) (only : (x : X) → Contains items x → Contains ranges x)
    (rises : IsNonDecreasingBy (λ x. order_of (f x).value) items) (i : ℕ) (x : X) (below : i < length items) (is : x ≡ get_or items i x) where
  -- what stands before it
  before : (other : Run Verdict) → Contains (map f (take i items)) other → FromMap f (take i items) other
  before other has = from_map f (take i items) other has

  at_place : (y : X) → (has : Contains (take i items) y) → (has.0 < i) × (get_or items has.0 y ≡ y)
  at_place y has =
      let lt = has.1 in
      let few = length-take i items in
      let less : has.0 < i = omega arith in
      (less, sym (get_or-take i items has.0 y less) ∙ has.2)

  in_items : (y : X) → Contains (take i items) y → Contains items y
  in_items y has = (let place = at_place y has in (has.0, (let lt = place.0 in omega arith), place.1))

  not_behind : (other : Run Verdict) → Contains (map f (take i items)) other → order_of other.value ≤ order_of (f x).value
  not_behind other has =
      let kept = before other has in
      let place = at_place kept.x kept.has in
      let up = rises kept.has.0 i kept.x (let lt = place.0 in omega arith) below in
      omega (arith, ap (λ y. order_of (f y).value) place.1, ap (λ (r : Run Verdict). order_of r.value) kept.is, ap (λ y. order_of (f y).value) (is ∙ get_or_default items i x kept.x below))

  same_if : (other : Run Verdict) → Contains (map f (take i items)) other → order_of other.value ≡ order_of (f x).value → other.value ≡ (f x).value
  same_if other has same =
      let kept = before other has in
      by_order other (f x) (subst (Contains (map f ranges)) kept.is (to_map f ranges kept.x (only kept.x (in_items kept.x kept.has))))
      (to_map f ranges x (only x (i, below, sym is))) same

  pub one_more : (rows new : List RowValue) → Rowed compare (map f (take i items)) rows → AddsRange rows new (f x) → Rowed compare (map f (take (i + 1) items)) new
  one_more rows new so_far adds =
      subst (λ done. Rowed compare done new) (sym (ap (map f) (take_next items i x below is) ∙ map-append f (take i items) (x ∷ [])))
      (one_range compare (map f (take i items)) (f x) not_behind same_if rows new so_far adds)
