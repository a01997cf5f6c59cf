-- What has a line, looked up by it.
use Rattle.std.proofs.Common.{◌≡◌, ◌≢◌, ℕ, suc, ◌<◌, ◌≤◌, ◌∙◌, Bool, true, false, cond, List, [], ◌∷◌, None, Some, ap, arith, find, get_or, inl, inr, length, refl, subst, sym}
use Rattle.std.specs.Prelude.{◌==◌, Contains, nat_lt}
use Rattle.std.specs.List.{AllPairs}
use Rattle.std.specs.List.Sorted.{IsPartitionPoint, IsPartitionedBy}
use Rattle.std.proofs.lemmas.Bool.{cases_lt, cases_order, eq-eqb, lt-ltb, ltb-false, ltb-true, ne_eqb}
use Rattle.std.proofs.lemmas.List.{get_or_default}
use Rattle.page_data.proofs.Containing.{here_or_there}

module _ {X : Type 0} (line_of : X → ℕ) where
  abbrev Ascend : List X → Type 0
  Ascend xs = AllPairs (λ x later. line_of x < line_of later) xs

  -- what is after the first
  later_line : (first x : X) (xs : List X) → Ascend (first ∷ xs) → Contains xs x → line_of first < line_of x
  later_line first x xs ascending has =
      let up = ascending 0 (suc has.0) x (omega arith) (let lt = has.1 in omega arith) in omega (arith, ap line_of has.2)

  -- it is found by its line
  pub found_by_number : (xs : List X) → Ascend xs → (x : X) → Contains xs x → find (λ other. line_of other == line_of x) xs ≡ Some x
  found_by_number [] ascending x has = absurd (let lt = has.1 in omega arith)
  found_by_number (first ∷ xs) ascending x has =
      elim (here_or_there first x xs has) as (λ _. find (λ (other : X). line_of other == line_of x) (first ∷ xs) ≡ Some x) [
        | inl is ↦ ap (λ b. cond b (Some first) (find (λ (other : X). line_of other == line_of x) xs)) (eq-eqb (line_of first) (line_of x) (ap line_of is)) ∙ ap Some is
        | inr later ↦
            ap (λ b. cond b (Some first) (find (λ (other : X). line_of other == line_of x) xs))
            (ne_eqb (line_of first) (line_of x) (λ same. let up = later_line first x xs ascending later in omega arith))
            ∙ found_by_number xs (λ i j d less within'. ascending (suc i) (suc j) d (omega arith) (omega arith)) x later
      ]

  none_found : (xs : List X) (line : ℕ) → ((i : ℕ) (d : X) → i < length xs → line_of (get_or xs i d) ≢ line) → find (λ x. line_of x == line) xs ≡ None
  none_found [] line none = refl
  none_found (x ∷ xs) line none =
      ap (λ b. cond b (Some x) (find (λ (other : X). line_of other == line) xs)) (ne_eqb (line_of x) line (none 0 x (omega arith)))
      ∙ none_found xs line (λ i d within. none (suc i) d (omega arith))

  abbrev pub is_before : ℕ → X → Bool
  is_before line x = nat_lt (line_of x) line

  not_after : (xs : List X) → Ascend xs → (i j : ℕ) (d : X) → i ≤ j → j < length xs → line_of (get_or xs i d) ≤ line_of (get_or xs j d)
  not_after xs ascending i j d le within =
      elim (cases_order i j) as (λ _. line_of (get_or xs i d) ≤ line_of (get_or xs j d)) [
        | inl same ↦ omega (arith, ap (λ n. line_of (get_or xs n d)) same)
        | inr apart ↦ elim apart as (λ _. line_of (get_or xs i d) ≤ line_of (get_or xs j d)) [
          | inl less ↦ (let up = ascending i j d less within in omega arith)
          | inr more ↦ absurd (omega arith)
        ]
      ]

  pub parted : (xs : List X) → Ascend xs → (line : ℕ) → IsPartitionedBy (is_before line) xs
  parted xs ascending line i j d le within passes =
      let up = not_after xs ascending i j d le within in
      let l = ltb-true (line_of (get_or xs j d)) line passes in
      lt-ltb (line_of (get_or xs i d)) line (omega arith)

  module _ (xs : List X) (ascending : Ascend xs) (line place : ℕ) (point : IsPartitionPoint (λ x. is_before line x ≡ true) (λ x. is_before line x ≡ false) xs place) where
    pub found_there : (x : X) → place < length xs → x ≡ get_or xs place x → line_of x ≡ line → find (λ other. line_of other == line) xs ≡ Some x
    found_there x within is number = subst (λ n. find (λ (other : X). line_of other == n) xs ≡ Some x) number (found_by_number xs ascending x (place, within, sym is))

    pub not_there : (x : X) → place < length xs → x ≡ get_or xs place x → line_of x ≢ line → find (λ other. line_of other == line) xs ≡ None
    not_there x within is number = none_found xs line each
      where
        at : line_of (get_or xs place x) ≡ line_of x
        at = ap line_of (sym is)

        each : (i : ℕ) (d : X) → i < length xs → line_of (get_or xs i d) ≢ line
        each i d within' same =
            elim (cases_lt i place) [
              | inl less ↦ (let l = ltb-true (line_of (get_or xs i d)) line (point.0 i d (omega arith) less) in absurd (omega arith))
              | inr le ↦
                  let high = ltb-false (line_of (get_or xs place x)) line (point.1 place x (omega arith) within) in
                  let up = not_after xs ascending place i x le within' in
                  let read = ap line_of (get_or_default xs i x d within') in
                  absurd (number (omega (arith, at)))
            ]

    pub none_there : length xs ≤ place → find (λ other. line_of other == line) xs ≡ None
    none_there over = none_found xs line (λ i d within same. let l = ltb-true (line_of (get_or xs i d)) line (point.0 i d (omega arith) (omega arith)) in omega arith)
