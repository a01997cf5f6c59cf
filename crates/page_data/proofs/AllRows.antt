-- The rows of ranges that were sorted by the places of their verdicts in a table, and stably: all rows of the ranges as they came.
use Rattle.std.proofs.Common.{◌≡◌, ℕ, ◌<◌, ◌≤◌, ◌&&◌, ◌∙◌, Bool, true, false, cond, eqb, List, [], ◌∷◌, ap, arith, get_or, inl, inr, map, refl, subst, sym}
use Rattle.std.specs.Prelude.{Contains, filter, not}
use Rattle.std.specs.List.{AllByRecursion, AllPairs}
use Rattle.std.specs.List.Sorted.{IsStableByKey, ties}
use Rattle.std.specs.Ordering.{is_lt, nat_cmp}
use Rattle.std.specs.declared.cmp.Ordering.TheVariants.{Less, Equal, Greater}
use Rattle.std.proofs.lemmas.Bool.{and_parts, and_from, cases_Bool, cases_order, le-ltb, lt-ltb, true≢false}
use Rattle.std.proofs.lemmas.List.Elements.{All-contains, All-from_recursion, Contains-get_or}
use Rattle.std.proofs.lemmas.List.Kept.{AllPairs-cons}
use Rattle.std.proofs.lemmas.List.{get_or-map, length-map}
use Rattle.desk_who.specs.Runs.{AreDiscrete, Run}
use Rattle.page_data.specs.Rows.{AreRowsOf, ByOrder, IsOfRange, IsRowOf, RowValue, order_of}
use Rattle.page_data.proofs.Containing.{here, here_or_there, there}
use Rattle.page_data.proofs.Rowed.{HasRange, Rise, Rowed, Verdict, is_same, row_at, same_decides}

-- ---- numbers that tie are the same
lt_not : (a b : ℕ) → b ≤ a → is_lt (nat_cmp a b) ≡ false
lt_not a b le = ap (λ t. is_lt (cond t Less (cond (eqb a b) Equal Greater))) (le-ltb a b le) ∙ by (eqb a b)
  where
    by : (t : Bool) → is_lt (cond t Equal Greater) ≡ false
    by true = refl
    by false = refl

lt_is : (a b : ℕ) → a < b → is_lt (nat_cmp a b) ≡ true
lt_is a b less = ap (λ t. is_lt (cond t Less (cond (eqb a b) Equal Greater))) (lt-ltb a b less)

pub tie_same : (a b : ℕ) → (not (is_lt (nat_cmp a b)) && not (is_lt (nat_cmp b a))) ≡ true → a ≡ b
tie_same a b tie =
    let parts = and_parts _ _ tie in
    elim (cases_order a b) as (λ _. a ≡ b) [
      | inl same ↦ same
      | inr apart ↦ elim apart as (λ _. a ≡ b) [
        | inl less ↦ absurd (true≢false (sym parts.0 ∙ ap not (lt_is a b less)))
        | inr more ↦ absurd (true≢false (sym parts.1 ∙ ap not (lt_is b a more)))
      ]
    ]

pub same_tie : (a b : ℕ) → a ≡ b → (not (is_lt (nat_cmp a b)) && not (is_lt (nat_cmp b a))) ≡ true
same_tie a b same = and_from _ _ (ap not (lt_not a b (omega arith))) (ap not (lt_not b a (omega arith)))

-- ---- filters
filter_agree_on : {X : Type 0} (p q : X → Bool) (xs : List X) → ((x : X) → Contains xs x → p x ≡ q x) → filter p xs ≡ filter q xs
filter_agree_on p q [] agree = refl
filter_agree_on {X} p q (x ∷ xs) agree =
    ap (λ b. cond b (x ∷ filter p xs) (filter p xs)) (agree x (here x x xs refl))
    ∙ ap (λ ys. cond (q x) (x ∷ ys) ys) (filter_agree_on p q xs (λ y has. agree y (there x y xs has)))

pub filter_map : {X Y : Type 0} (f : X → Y) (p : Y → Bool) (xs : List X) → filter p (map f xs) ≡ map f (filter (λ x. p (f x)) xs)
filter_map f p [] = refl
filter_map f p (x ∷ xs) = by (p (f x)) (filter_map f p xs)
  where
    by : (b : Bool) → filter p (map f xs) ≡ map f (filter (λ y. p (f y)) xs) → cond b (f x ∷ filter p (map f xs)) (filter p (map f xs)) ≡ map f (cond b (x ∷ filter (λ y. p (f y)) xs) (filter (λ y. p (f y)) xs))
    by true rest = ap (λ ys. f x ∷ ys) rest
    by false rest = rest

-- a value of what is mapped
pub record FromMap {X Y : Type 0} (f : X → Y) (xs : List X) (y : Y) : Type 0 where
  pub x : X
  pub has : Contains xs x
  pub is : f x ≡ y

pub from_map : {X Y : Type 0} (f : X → Y) (xs : List X) (y : Y) → Contains (map f xs) y → FromMap f xs y
from_map f [] y has = absurd (let lt = has.1 in omega arith)
from_map f (x ∷ xs) y has =
    elim (here_or_there (f x) y (map f xs) has) as (λ _. FromMap f (x ∷ xs) y) [
      | inl is ↦ record { x = x; has = here x x xs refl; is = is }
      | inr later ↦ (let rest = from_map f xs y later in record { x = rest.x; has = there x rest.x xs rest.has; is = rest.is })
    ]

pub to_map : {X Y : Type 0} (f : X → Y) (xs : List X) (x : X) → Contains xs x → Contains (map f xs) (f x)
to_map f xs x has =
    let few = length-map xs f in
    let lt = has.1 in
    (has.0, omega arith, get_or-map f xs has.0 x (f x) has.1 ∙ ap f has.2)

module _ (compare : AreDiscrete Verdict) {X : Type 0} (f : X → Run Verdict) (ranges sorted : List X) (by_order : ByOrder (map f ranges))
    (stable : IsStableByKey (λ x. order_of (f x).value) nat_cmp ranges sorted) (only : (x : X) → Contains sorted x → Contains ranges x) (all : (x : X) → Contains ranges x → Contains sorted x)
    (rows : List RowValue) (rowed : Rowed compare (map f sorted) rows) where
  abbrev key : X → ℕ
  key x = order_of (f x).value

  abbrev tie : X → X → Bool
  tie x y = ties (λ a b. is_lt (nat_cmp (key a) (key b))) x y

  -- of one verdict is to tie with a range that has it
  agree : (x : X) → Contains ranges x → (y : X) → Contains ranges y → is_same compare (f x).value (f y).value ≡ tie x y
  agree x has y has' = by (tie x y) refl
    where
      by : (b : Bool) → tie x y ≡ b → is_same compare (f x).value (f y).value ≡ b
      by true e =
          (same_decides compare (f x).value (f y).value).1 (by_order (f y) (f x) (to_map f ranges y has') (to_map f ranges x has) (sym (tie_same (key x) (key y) e)))
      by false e =
          elim (cases_Bool (is_same compare (f x).value (f y).value)) as (λ _. is_same compare (f x).value (f y).value ≡ false) [
            | inl is ↦ absurd (true≢false (sym (same_tie (key x) (key y) (ap order_of (sym ((same_decides compare (f x).value (f y).value).0 is)))) ∙ e))
            | inr out ↦ out
          ]

  -- the ranges of a verdict stand in their order
  same_ranges : (x : X) → Contains sorted x → filter (λ r. is_same compare (f x).value r.value) (map f sorted) ≡ filter (λ r. is_same compare (f x).value r.value) (map f ranges)
  same_ranges x has =
      filter_map f (λ r. is_same compare (f x).value r.value) sorted
      ∙ ap (map f) (filter_agree_on (λ y. is_same compare (f x).value (f y).value) (tie x) sorted (λ y has'. agree x (only x has) y (only y has'))
      ∙ stable x
      ∙ sym (filter_agree_on (λ y. is_same compare (f x).value (f y).value) (tie x) ranges (λ y has'. agree x (only x has) y has')))
      ∙ sym (filter_map f (λ r. is_same compare (f x).value r.value) ranges)

  row_of_all : (verdict : Verdict) → HasRange compare (map f sorted) verdict → IsRowOf (map f ranges) (row_at compare (map f sorted) verdict)
  unfolding row_at
  row_of_all verdict some =
      let kept = from_map f sorted some.range some.has in
      let is : (f kept.x).value ≡ verdict = ap (λ (r : Run Verdict). r.value) kept.is ∙ some.is in
      record {
        test = λ range. is_same compare verdict range.value;
        decides = λ range. same_decides compare verdict range.value;
        are = subst (λ v. filter (λ (r : Run Verdict). is_same compare v r.value) (map f sorted) ≡ filter (λ (r : Run Verdict). is_same compare v r.value) (map f ranges)) is (same_ranges kept.x kept.has);
      }

  each : (verdicts : List Verdict) → AllByRecursion (λ verdict. HasRange compare (map f sorted) verdict) verdicts → AllByRecursion (IsRowOf (map f ranges)) (map (row_at compare (map f sorted)) verdicts)
  each [] some = tt
  each (verdict ∷ verdicts) some = (row_of_all verdict some.0, each verdicts some.1)

  later : (verdict : Verdict) (verdicts : List Verdict) → AllByRecursion (λ other. order_of verdict < order_of other) verdicts
      → AllByRecursion (λ (row : RowValue). order_of verdict < order_of row.verdict) (map (row_at compare (map f sorted)) verdicts)
  unfolding row_at
  later verdict [] rise = tt
  later verdict (other ∷ verdicts) rise = (rise.0, later verdict verdicts rise.1)

  order : (verdicts : List Verdict) → Rise verdicts → AllPairs (λ (row after : RowValue). order_of row.verdict < order_of after.verdict) (map (row_at compare (map f sorted)) verdicts)
  unfolding row_at
  order [] rise = λ i j d less within. absurd (omega arith)
  order (verdict ∷ verdicts) rise =
      AllPairs-cons (λ (row after : RowValue). order_of row.verdict < order_of after.verdict) (row_at compare (map f sorted) verdict) (map (row_at compare (map f sorted)) verdicts)
      (All-from_recursion (λ (row : RowValue). order_of verdict < order_of row.verdict) (map (row_at compare (map f sorted)) verdicts) (later verdict verdicts rise.0)) (order verdicts rise.1)

  verdicts_are : (verdicts : List Verdict) → map (λ (row : RowValue). row.verdict) (map (row_at compare (map f sorted)) verdicts) ≡ verdicts
  unfolding row_at
  verdicts_are [] = refl
  verdicts_are (verdict ∷ verdicts) = ap (λ vs. verdict ∷ vs) (verdicts_are verdicts)

  has_row : (range : Run Verdict) → Contains (map f ranges) range → Contains (map (λ (row : RowValue). row.verdict) (map (row_at compare (map f sorted)) rowed.verdicts)) range.value
  has_row range has =
      let kept = from_map f ranges range has in
      let there = subst (Contains (map f sorted)) kept.is (to_map f sorted kept.x (all kept.x kept.has)) in
      subst (λ vs. Contains vs range.value) (sym (verdicts_are rowed.verdicts))
      (All-contains (λ (one : Run Verdict). Contains rowed.verdicts one.value) (map f sorted) range (All-from_recursion (λ (one : Run Verdict). Contains rowed.verdicts one.value) (map f sorted) rowed.all) there)

  -- no row is without a range
  of_range : (verdicts : List Verdict) → AllByRecursion (λ verdict. HasRange compare (map f sorted) verdict) verdicts → AllByRecursion (IsOfRange (map f ranges)) (map (row_at compare (map f sorted)) verdicts)
  unfolding row_at
  of_range [] some = tt
  of_range (verdict ∷ verdicts) some =
      let kept = from_map f sorted some.0.range some.0.has in
      let is : (f kept.x).value ≡ verdict = ap (λ (r : Run Verdict). r.value) kept.is ∙ some.0.is in (
        subst (Contains (map (λ (range : Run Verdict). range.value) (map f ranges))) is (to_map (λ (range : Run Verdict). range.value) (map f ranges) (f kept.x) (to_map f ranges kept.x (only kept.x kept.has))),
        of_range verdicts some.1,
      )

  pub all_rows : AreRowsOf (map f ranges) rows
  all_rows =
      subst (AreRowsOf (map f ranges)) (sym rowed.are)
      (record {
        each = All-from_recursion (IsRowOf (map f ranges)) (map (row_at compare (map f sorted)) rowed.verdicts) (each rowed.verdicts rowed.from);
        all = λ k d within. has_row (get_or (map f ranges) k d) (Contains-get_or (map f ranges) k d within);
        some = All-from_recursion (IsOfRange (map f ranges)) (map (row_at compare (map f sorted)) rowed.verdicts) (of_range rowed.verdicts rowed.from);
        order = order rowed.verdicts rowed.rise;
      })
