-- The lines that match with less than a weight: of each weight just those that have it, and none is heavier than one before it.
use Rattle.std.proofs.Common.{◌≡◌, ℕ, zero, suc, ◌<◌, ◌≤◌, ◌++◌, ◌∙◌, true, List, [], ◌∷◌, Option, Some, None, ap, arith, inl, inr, refl, sym}
use Rattle.std.specs.Prelude.{IsSome, filter, not}
use Rattle.std.specs.List.{AllByRecursion, list_all}
use Rattle.std.proofs.lemmas.Bool.{and_parts, cases_lt, eqb-true, ltb-true, ne_eqb, not_from_false, true≢false}
use Rattle.std.proofs.lemmas.List.{append-nil}
use Rattle.std.proofs.lemmas.List.Elements.{filter-append}
use Rattle.desk_policy.specs.Weights.{weight_of}
use Rattle.desk_policy.specs.declared.row.Row.{Row}
use Rattle.desk_why.specs.Matches.{is_weight, lighter, weighs}
use Rattle.desk_why.specs.Laws.{IsNotHeavier, NoneIsHeavier}
use Rattle.desk_why.proofs.Lists.{all_weaker, filter_all, filter_none, filter_passes}
use Rattle.desk_why.proofs.Heaviest.{is_below, is_less, less_not, lighter_less}

-- ---- of each weight

below_not : (bound weight : ℕ) (o : Option ℕ) → bound ≤ weight → is_below bound o ≡ true → not (is_weight weight o) ≡ true
below_not bound weight None le e = refl
below_not bound weight (Some other) le e = not_from_false _ (ne_eqb other weight (λ is. let h = ltb-true other bound e in omega arith))

less_below : (bound : ℕ) (o : Option ℕ) → is_less bound o ≡ true → is_below bound o ≡ true
less_below bound None e = refl
less_below bound (Some other) e = e

apart : (weight other : ℕ) (o : Option ℕ) → (weight ≡ other → ⊥) → is_weight other o ≡ true → not (is_weight weight o) ≡ true
apart weight other None ne e = refl
apart weight other (Some is) ne e = not_from_false _ (ne_eqb is weight (λ same. let h = eqb-true is other e in ne (sym same ∙ h)))

-- below a bound there is each weight
each_below : (rows : List Row) (address bound weight : ℕ) → weight < bound → filter (weighs address weight) (lighter rows address bound) ≡ filter (weighs address weight) rows
unfolding lighter
each_below rows address zero weight lt = absurd (omega arith)
each_below rows address (suc bound) weight lt =
    let parts : filter (weighs address weight) (filter (weighs address bound) rows) ++ filter (weighs address weight) (lighter rows address bound) ≡ filter (weighs address weight) rows =
    elim (cases_lt weight bound) [
      | inl less ↦
          ap (λ (ys : List Row). ys ++ filter (weighs address weight) (lighter rows address bound))
          (filter_none (weighs address weight) (filter (weighs address bound) rows)
          (all_weaker (weighs address bound) (λ row. not (weighs address weight row)) (λ row e. apart weight bound (weight_of row address) (λ same. omega arith) e) (filter (weighs address bound) rows)
          (filter_passes (weighs address bound) rows)))
          ∙ each_below rows address bound weight less
      | inr le ↦
          let same : weight ≡ bound = omega arith in
          ap (λ (w : ℕ). filter (weighs address w) (filter (weighs address bound) rows) ++ filter (weighs address w) (lighter rows address bound)) same
          ∙ ap (λ (ys : List Row). ys ++ filter (weighs address bound) (lighter rows address bound)) (filter_all (weighs address bound) (filter (weighs address bound) rows) (filter_passes (weighs address bound) rows))
          ∙ ap (λ (ys : List Row). filter (weighs address bound) rows ++ ys)
          (filter_none (weighs address bound) (lighter rows address bound)
          (all_weaker (λ row. is_less bound (weight_of row address)) (λ row. not (weighs address bound row)) (λ row e. less_not bound (weight_of row address) e) (lighter rows address bound) (lighter_less rows address bound)))
          ∙ append-nil (filter (weighs address bound) rows)
          ∙ ap (λ (w : ℕ). filter (weighs address w) rows) (sym same)
    ] in
    filter-append (weighs address weight) (filter (weighs address bound) rows) (lighter rows address bound) ∙ parts

-- and above it there is none
pub each_weight : (rows : List Row) (address bound weight : ℕ) → list_all (λ row. is_below bound (weight_of row address)) rows ≡ true
    → filter (weighs address weight) (lighter rows address bound) ≡ filter (weighs address weight) rows
each_weight rows address bound weight below =
    elim (cases_lt weight bound) [
      | inl lt ↦ each_below rows address bound weight lt
      | inr le ↦
          filter_none (weighs address weight) (lighter rows address bound)
          (all_weaker (λ row. is_less bound (weight_of row address)) (λ row. not (weighs address weight row)) (λ row e. below_not bound weight (weight_of row address) le (less_below bound (weight_of row address) e))
          (lighter rows address bound) (lighter_less rows address bound))
          ∙ sym (filter_none (weighs address weight) rows
          (all_weaker (λ row. is_below bound (weight_of row address)) (λ row. not (weighs address weight row)) (λ row e. below_not bound weight (weight_of row address) le e) rows below))
    ]

-- ---- none is heavier than one before it

not_heavier : (weight : ℕ) (o other : Option ℕ) → is_weight weight o ≡ true → is_less (suc weight) other ≡ true → IsNotHeavier o other
not_heavier weight None other e f = absurd (true≢false (sym e))
not_heavier weight (Some is) None e f = absurd (true≢false (sym f))
not_heavier weight (Some is) (Some other) e f = let a = eqb-true is weight e in let b = ltb-true other (suc weight) f in omega arith

all_lighter : (address weight : ℕ) (row : Row) → weighs address weight row ≡ true → (rows : List Row) → list_all (λ later. is_less (suc weight) (weight_of later address)) rows ≡ true
    → AllByRecursion (λ (later : Row). IsNotHeavier (weight_of row address) (weight_of later address)) rows
all_lighter address weight row e [] all = tt
all_lighter address weight row e (later ∷ rows) all =
    let s = and_parts _ _ all in
    (not_heavier weight (weight_of row address) (weight_of later address) e s.0, all_lighter address weight row e rows s.1)

-- lines of one weight before lighter ones
before_lighter : (address weight : ℕ) (heavy rest : List Row) → list_all (weighs address weight) heavy ≡ true → list_all (λ row. is_less (suc weight) (weight_of row address)) (heavy ++ rest) ≡ true
    → NoneIsHeavier address rest → NoneIsHeavier address (heavy ++ rest)
before_lighter address weight [] rest all less order = order
before_lighter address weight (row ∷ heavy) rest all less order =
    let s = and_parts _ _ all in
    let t = and_parts _ _ less in
    (all_lighter address weight row s.0 (heavy ++ rest) t.1, before_lighter address weight heavy rest s.1 t.1 order)

pub none_is_heavier : (rows : List Row) (address bound : ℕ) → NoneIsHeavier address (lighter rows address bound)
unfolding lighter
none_is_heavier rows address zero = tt
none_is_heavier rows address (suc weight) =
    before_lighter address weight (filter (weighs address weight) rows) (lighter rows address weight) (filter_passes (weighs address weight) rows) (lighter_less rows address (suc weight))
    (none_is_heavier rows address weight)

-- ---- each matches

some_less : (weight : ℕ) (o : Option ℕ) → is_less weight o ≡ true → IsSome o
some_less weight None e = absurd (true≢false (sym e))
some_less weight (Some other) e = refl

each_some : (address weight : ℕ) (rows : List Row) → list_all (λ row. is_less weight (weight_of row address)) rows ≡ true → AllByRecursion (λ (row : Row). IsSome (weight_of row address)) rows
each_some address weight [] all = tt
each_some address weight (row ∷ rows) all =
    let s = and_parts _ _ all in
    (some_less weight (weight_of row address) s.0, each_some address weight rows s.1)

pub all_match : (rows : List Row) (address bound : ℕ) → AllByRecursion (λ (row : Row). IsSome (weight_of row address)) (lighter rows address bound)
all_match rows address bound = each_some address bound (lighter rows address bound) (lighter_less rows address bound)
