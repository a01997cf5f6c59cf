-- Ranges in the order of their verdicts, put into rows one by one.
use Rattle.std.proofs.Common.{◌≡◌, ◌≢◌, ◌⊎◌, ℕ, ◌+◌, ◌<◌, ◌≤◌, ◌++◌, ◌∙◌, Bool, true, false, cond, List, [], ◌∷◌, ap, arith, get_or, inl, inr, length, map, refl, set, subst, sym}
use Rattle.std.specs.Prelude.{Contains, Result, filter}
use Rattle.std.specs.Bool.{Decides}
use Rattle.std.specs.List.{AllByRecursion}
use Rattle.std.proofs.lemmas.Bool.{cases_eq, true≢false}
use Rattle.std.proofs.lemmas.List.{append-nil, get_or-map, get_or_at, length-append, length-map, map-append, map-set, set_at}
use Rattle.std.proofs.lemmas.List.Elements.{All-contains, All-from_recursion, Contains-append_left, Contains-push, filter-append}
use Rattle.desk_policy.specs.Verdict.{Grant}
use Rattle.desk_policy.specs.declared.verdict.Denial.{Denial}
use Rattle.desk_who.specs.Runs.{AreDiscrete, Run}
use Rattle.page_data.specs.PrivateRows.{AddsRange, AddsRow, AddsToLast, EndsAlike, row_of, with_range}
use Rattle.page_data.specs.Rows.{RowValue, order_of, row_value}
use Rattle.page_data.specs.declared.rows.TableRow.{TableRow}

abbrev pub Verdict : Type 0
Verdict = Result Grant Denial

-- verdicts in their order in a table
abbrev pub Rise : List Verdict → Type 0
Rise [] = Unit {0}
Rise (verdict ∷ verdicts) = AllByRecursion (λ later. order_of verdict < order_of later) verdicts × Rise verdicts

abbrev Below : Verdict → List Verdict → Type 0
Below last verdicts = AllByRecursion (λ verdict. order_of verdict < order_of last) verdicts

all_push : {X : Type 0} (P : X → Type 0) (xs : List X) (x : X) → AllByRecursion P xs → P x → AllByRecursion P (xs ++ x ∷ [])
all_push P [] x all here = (here, tt)
all_push P (y ∷ xs) x all here = (all.0, all_push P xs x all.1 here)

all_last : {X : Type 0} (P : X → Type 0) (xs : List X) (x : X) → AllByRecursion P (xs ++ x ∷ []) → AllByRecursion P xs × P x
all_last P [] x all = (tt, all.0)
all_last P (y ∷ xs) x all = (let rest = all_last P xs x all.1 in ((all.0, rest.0), rest.1))

rise_push : (verdicts : List Verdict) (last : Verdict) → Rise verdicts → Below last verdicts → Rise (verdicts ++ last ∷ [])
rise_push [] last rise below = (tt, tt)
rise_push (verdict ∷ verdicts) last rise below = (all_push (λ later. order_of verdict < order_of later) verdicts last rise.0 below.0, rise_push verdicts last rise.1 below.1)

rise_below : (verdicts : List Verdict) (last : Verdict) → Rise (verdicts ++ last ∷ []) → Below last verdicts
rise_below [] last rise = tt
rise_below (verdict ∷ verdicts) last rise = ((all_last (λ later. order_of verdict < order_of later) verdicts last rise.0).1, rise_below verdicts last rise.1)

-- a list is empty, or has a last value
pub data HasLast {X : Type 0} (xs : List X) : Type 0 where
  Nothing : xs ≡ [] → HasLast xs
  Last : (before : List X) (last : X) → xs ≡ before ++ last ∷ [] → HasLast xs

has_last : {X : Type 0} (xs : List X) → HasLast xs
has_last [] = Nothing refl
has_last (x ∷ xs) = by (has_last xs)
  where
    by : HasLast xs → HasLast (x ∷ xs)
    by (Nothing none) = Last [] x (ap (λ ys. x ∷ ys) none)
    by (Last before last is) = Last (x ∷ before) last (ap (λ ys. x ∷ ys) is)

push_parts : {X : Type 0} (xs ys : List X) (x y : X) → xs ++ x ∷ [] ≡ ys ++ y ∷ [] → (xs ≡ ys) × (x ≡ y)
push_parts [] [] x y e = (refl, cc)
push_parts [] (other ∷ ys) x y e = absurd (let few = ap length e in omega (arith, length-append ys (y ∷ [])))
push_parts (other ∷ xs) [] x y e = absurd (let few = ap length e in omega (arith, length-append xs (x ∷ [])))
push_parts (one ∷ xs) (other ∷ ys) x y e =
    let heads : one ≡ other = cc in
    let tails : xs ++ x ∷ [] ≡ ys ++ y ∷ [] = cc in
    let parts = push_parts xs ys x y tails in
    (ap (λ z. z ∷ xs) heads ∙ ap (λ zs. other ∷ zs) parts.0, parts.1)

module _ (compare : AreDiscrete Verdict) where
  -- a test for one verdict
  pub is_same : Verdict → Verdict → Bool
  is_same verdict other = elim (compare other verdict) [ inl same ↦ true | inr apart ↦ false ]

  pub same_decides : (verdict other : Verdict) → Decides (is_same verdict other) (other ≡ verdict)
  unfolding is_same
  same_decides verdict other = by (compare other verdict)
    where
      by : (one : (other ≡ verdict) ⊎ (other ≢ verdict)) → Decides (elim one [ inl same ↦ true | inr apart ↦ false ]) (other ≡ verdict)
      by (inl same) = (λ is. same, λ is. refl)
      by (inr apart) = (λ is. absurd (true≢false (sym is)), λ is. absurd (apart is))

  is_true : (verdict other : Verdict) → other ≡ verdict → is_same verdict other ≡ true
  is_true verdict other same = (same_decides verdict other).1 same

  is_false : (verdict other : Verdict) → other ≢ verdict → is_same verdict other ≡ false
  is_false verdict other apart = by (is_same verdict other) refl
    where
      by : (b : Bool) → is_same verdict other ≡ b → b ≡ false
      by true e = absurd (apart ((same_decides verdict other).0 e))
      by false e = refl

  -- the row of a verdict among ranges
  unfoldable pub row_at : List (Run Verdict) → Verdict → RowValue
  row_at ranges verdict = record { verdict = verdict; ranges = filter (λ range. is_same verdict range.value) ranges }

  -- one of the ranges has the verdict
  pub record HasRange (ranges : List (Run Verdict)) (verdict : Verdict) : Type 0 where
    pub range : Run Verdict
    pub has : Contains ranges range
    pub is : range.value ≡ verdict

  pub record Rowed (ranges : List (Run Verdict)) (rows : List RowValue) : Type 0 where
    pub verdicts : List Verdict
    pub are : rows ≡ map (row_at ranges) verdicts
    pub rise : Rise verdicts
    pub all : AllByRecursion (λ range. Contains verdicts range.value) ranges
    pub from : AllByRecursion (λ verdict. HasRange ranges verdict) verdicts

  filter_one : (verdict : Verdict) (ranges : List (Run Verdict)) (range : Run Verdict) → range.value ≡ verdict
      → filter (λ r. is_same verdict r.value) (ranges ++ range ∷ []) ≡ filter (λ r. is_same verdict r.value) ranges ++ range ∷ []
  filter_one verdict ranges range same =
      filter-append (λ (r : Run Verdict). is_same verdict r.value) ranges (range ∷ [])
      ∙ ap (λ b. filter (λ (r : Run Verdict). is_same verdict r.value) ranges ++ cond b (range ∷ []) []) (is_true verdict range.value same)

  filter_none : (verdict : Verdict) (ranges : List (Run Verdict)) (range : Run Verdict) → range.value ≢ verdict
      → filter (λ r. is_same verdict r.value) (ranges ++ range ∷ []) ≡ filter (λ r. is_same verdict r.value) ranges
  filter_none verdict ranges range apart =
      filter-append (λ (r : Run Verdict). is_same verdict r.value) ranges (range ∷ [])
      ∙ ap (λ b. filter (λ (r : Run Verdict). is_same verdict r.value) ranges ++ cond b (range ∷ []) []) (is_false verdict range.value apart)
      ∙ append-nil (filter (λ (r : Run Verdict). is_same verdict r.value) ranges)

  -- a row that the range is not of stays
  stays : (ranges : List (Run Verdict)) (range : Run Verdict) (verdict : Verdict) → range.value ≢ verdict → row_at (ranges ++ range ∷ []) verdict ≡ row_at ranges verdict
  unfolding row_at
  stays ranges range verdict apart = ap (λ (some : List (Run Verdict)). record { verdict = verdict; ranges = some }) (filter_none verdict ranges range apart)

  all_stay : (ranges : List (Run Verdict)) (range : Run Verdict) (verdicts : List Verdict) → AllByRecursion (λ verdict. range.value ≢ verdict) verdicts
      → map (row_at (ranges ++ range ∷ [])) verdicts ≡ map (row_at ranges) verdicts
  all_stay ranges range [] apart = refl
  all_stay ranges range (verdict ∷ verdicts) apart =
      ap (λ row. row ∷ map (row_at (ranges ++ range ∷ [])) verdicts) (stays ranges range verdict apart.0) ∙ ap (λ rows. row_at ranges verdict ∷ rows) (all_stay ranges range verdicts apart.1)

  -- the row of the range gains it
  gains : (ranges : List (Run Verdict)) (range : Run Verdict) (verdict : Verdict) → range.value ≡ verdict → row_at (ranges ++ range ∷ []) verdict ≡ with_range (row_at ranges verdict) range
  unfolding row_at
  gains ranges range verdict same = ap (λ (some : List (Run Verdict)). record { verdict = verdict; ranges = some }) (filter_one verdict ranges range same)

  none_of : (ranges : List (Run Verdict)) (verdict : Verdict) → AllByRecursion (λ range. range.value ≢ verdict) ranges → filter (λ r. is_same verdict r.value) ranges ≡ []
  none_of [] verdict apart = refl
  none_of (range ∷ ranges) verdict apart =
      ap (λ b. cond b (range ∷ filter (λ (r : Run Verdict). is_same verdict r.value) ranges) (filter (λ (r : Run Verdict). is_same verdict r.value) ranges)) (is_false verdict range.value apart.0)
      ∙ none_of ranges verdict apart.1

  begins : (ranges : List (Run Verdict)) (range : Run Verdict) → AllByRecursion (λ other. other.value ≢ range.value) ranges → row_at (ranges ++ range ∷ []) range.value ≡ row_of range
  unfolding row_at
  begins ranges range apart =
      ap (λ (some : List (Run Verdict)). record { verdict = range.value; ranges = some })
      (filter_one range.value ranges range refl ∙ ap (λ some. some ++ range ∷ []) (none_of ranges range.value apart))

  -- ---- one range more
  module _ (ranges : List (Run Verdict)) (range : Run Verdict) (sorted : (other : Run Verdict) → Contains ranges other → order_of other.value ≤ order_of range.value)
      (by_order : (other : Run Verdict) → Contains ranges other → order_of other.value ≡ order_of range.value → other.value ≡ range.value) where
    more_has : (verdict : Verdict) → HasRange ranges verdict → HasRange (ranges ++ range ∷ []) verdict
    more_has verdict some = record { range = some.range; has = Contains-append_left ranges (range ∷ []) some.range some.has; is = some.is }

    all_more : (verdicts : List Verdict) → AllByRecursion (λ verdict. HasRange ranges verdict) verdicts → AllByRecursion (λ verdict. HasRange (ranges ++ range ∷ []) verdict) verdicts
    all_more [] some = tt
    all_more (verdict ∷ verdicts) some = (more_has verdict some.0, all_more verdicts some.1)

    wider : (verdicts : List Verdict) (x : Verdict) (some : List (Run Verdict)) → AllByRecursion (λ one. Contains verdicts one.value) some → AllByRecursion (λ one. Contains (verdicts ++ x ∷ []) one.value) some
    wider verdicts x [] all = tt
    wider verdicts x (one ∷ some) all = (Contains-append_left verdicts (x ∷ []) one.value all.0, wider verdicts x some all.1)

    apart_below : (verdicts : List Verdict) (last : Verdict) → Below last verdicts → range.value ≡ last → AllByRecursion (λ verdict. range.value ≢ verdict) verdicts
    apart_below [] last below same = tt
    apart_below (verdict ∷ verdicts) last below same = (λ is. let less = below.0 in omega (arith, ap order_of is, ap order_of same), apart_below verdicts last below.1 same)

    -- it stands in the last row
    in_last : (rows new : List RowValue) → Rowed ranges rows → AddsToLast rows new range → Rowed (ranges ++ range ∷ []) new
    unfolding row_at
    in_last rows new so_far adds = by (has_last so_far.verdicts)
      where
        by : HasLast so_far.verdicts → Rowed (ranges ++ range ∷ []) new
        by (Nothing none) =
            absurd (let e = sym adds.ends.are ∙ so_far.are ∙ ap (map (row_at ranges)) none in let few = ap length e in omega (arith, length-append adds.ends.before (adds.ends.last ∷ [])))
        by (Last before last is) =
            let parts = push_parts adds.ends.before (map (row_at ranges) before) adds.ends.last (row_at ranges last)
            (sym adds.ends.are ∙ so_far.are ∙ ap (map (row_at ranges)) is ∙ map-append (row_at ranges) before (last ∷ [])) in
            let same : range.value ≡ last = sym adds.ends.same ∙ ap (λ (r : RowValue). r.verdict) parts.1 in
            let below = rise_below before last (subst Rise is so_far.rise) in
            record {
              verdicts = so_far.verdicts;
              are = adds.are ∙ ap (λ rs. rs ++ with_range adds.ends.last range ∷ []) parts.0 ∙ ap (λ r. map (row_at ranges) before ++ with_range r range ∷ []) parts.1
                  ∙ sym (ap (map (row_at (ranges ++ range ∷ []))) is ∙ map-append (row_at (ranges ++ range ∷ [])) before (last ∷ [])
                  ∙ ap (λ rs. rs ++ row_at (ranges ++ range ∷ []) last ∷ []) (all_stay ranges range before (apart_below before last below same))
                  ∙ ap (λ r. map (row_at ranges) before ++ r ∷ []) (gains ranges range last same));
              rise = so_far.rise;
              all = all_push (λ one. Contains so_far.verdicts one.value) ranges range so_far.all
                  (subst (Contains so_far.verdicts) (sym same) (subst (λ vs. Contains vs last) (sym is) (Contains-push before last)));
              from = all_more so_far.verdicts so_far.from;
            }

    -- verdicts of former ranges stand before its own, unless one is the same
    not_behind : (verdict : Verdict) → HasRange ranges verdict → order_of verdict ≤ order_of range.value
    not_behind verdict some = (let le = sorted some.range some.has in omega (arith, ap order_of some.is))

    last_below : (last : Verdict) → HasRange ranges last → (last ≡ range.value → ⊥) → order_of last < order_of range.value
    last_below last some apart =
        let le = not_behind last some in
        elim (cases_eq (order_of last) (order_of range.value)) as (λ _. order_of last < order_of range.value) [
          | inl same ↦ absurd (apart (sym some.is ∙ by_order some.range some.has (ap order_of some.is ∙ same)))
          | inr ne ↦ omega arith
        ]

    all_below : (verdicts : List Verdict) (last : Verdict) → Below last verdicts → order_of last < order_of range.value → Below range.value verdicts
    all_below [] last below less = tt
    all_below (verdict ∷ verdicts) last below less = (let l = below.0 in omega arith, all_below verdicts last below.1 less)

    ranges_apart : (some : List (Run Verdict)) → AllByRecursion (λ one. order_of one.value < order_of range.value) some → AllByRecursion (λ other. other.value ≢ range.value) some
    ranges_apart [] less = tt
    ranges_apart (one ∷ some) less = (λ is. let l = less.0 in omega (arith, ap order_of is), ranges_apart some less.1)

    verdicts_apart : (verdicts : List Verdict) → Below range.value verdicts → AllByRecursion (λ verdict. range.value ≢ verdict) verdicts
    verdicts_apart [] below = tt
    verdicts_apart (verdict ∷ verdicts) below = (λ is. let l = below.0 in omega (arith, ap order_of is), verdicts_apart verdicts below.1)

    -- what a verdict among some is below
    ranges_below : (verdicts : List Verdict) → Below range.value verdicts → (some : List (Run Verdict)) → AllByRecursion (λ one. Contains verdicts one.value) some
        → AllByRecursion (λ one. order_of one.value < order_of range.value) some
    ranges_below verdicts below [] all = tt
    ranges_below verdicts below (one ∷ some) all = (
      All-contains (λ verdict. order_of verdict < order_of range.value) verdicts one.value (All-from_recursion (λ verdict. order_of verdict < order_of range.value) verdicts below) all.0,
      ranges_below verdicts below some all.1,
    )

    -- it stands in a row of its own
    alone : (rows new : List RowValue) → (so_far : Rowed ranges rows) → AddsRow rows new range → Below range.value so_far.verdicts → Rowed (ranges ++ range ∷ []) new
    alone rows new so_far adds below = record {
      verdicts = so_far.verdicts ++ range.value ∷ [];
      are = adds.are ∙ ap (λ rs. rs ++ row_of range ∷ []) so_far.are
          ∙ sym (map-append (row_at (ranges ++ range ∷ [])) so_far.verdicts (range.value ∷ [])
          ∙ ap (λ rs. rs ++ row_at (ranges ++ range ∷ []) range.value ∷ []) (all_stay ranges range so_far.verdicts (verdicts_apart so_far.verdicts below))
          ∙ ap (λ r. map (row_at ranges) so_far.verdicts ++ r ∷ []) (begins ranges range (ranges_apart ranges (ranges_below so_far.verdicts below ranges so_far.all))));
      rise = rise_push so_far.verdicts range.value so_far.rise below;
      all = all_push (λ one. Contains (so_far.verdicts ++ range.value ∷ []) one.value) ranges range (wider so_far.verdicts range.value ranges so_far.all) (Contains-push so_far.verdicts range.value);
      from = all_push (λ verdict. HasRange (ranges ++ range ∷ []) verdict) so_far.verdicts range.value (all_more so_far.verdicts so_far.from)
          (record { range = range; has = Contains-push ranges range; is = refl });
    }

    in_new : (rows new : List RowValue) → Rowed ranges rows → AddsRow rows new range → Rowed (ranges ++ range ∷ []) new
    unfolding row_at
    in_new rows new so_far adds = by (has_last so_far.verdicts)
      where
        by : HasLast so_far.verdicts → Rowed (ranges ++ range ∷ []) new
        by (Nothing none) = alone rows new so_far adds (subst (Below range.value) (sym none) tt)
        by (Last before last is) =
            let own = (all_last (λ verdict. HasRange ranges verdict) before last (subst (AllByRecursion (λ verdict. HasRange ranges verdict)) is so_far.from)).1 in
            let ends : last ≡ range.value → ⊥ = λ same. adds.apart (record {
              before = map (row_at ranges) before;
              last = row_at ranges last;
              are = so_far.are ∙ ap (map (row_at ranges)) is ∙ map-append (row_at ranges) before (last ∷ []);
              same = same;
            }) in
            let less = last_below last own ends in
            let below = rise_below before last (subst Rise is so_far.rise) in
            alone rows new so_far adds (subst (Below range.value) (sym is) (all_push (λ verdict. order_of verdict < order_of range.value) before last (all_below before last below less) less))

    pub one_range : (rows new : List RowValue) → Rowed ranges rows → AddsRange rows new range → Rowed (ranges ++ range ∷ []) new
    one_range rows new so_far (inl adds) = in_last rows new so_far adds
    one_range rows new so_far (inr adds) = in_new rows new so_far adds

-- a range is added to the last of the rows as they are kept
pub adds_last : (rows : List TableRow) (place : ℕ) (row new : TableRow) (range : Run Verdict) → place + 1 ≡ length rows → row ≡ get_or rows place row → row_value new ≡ with_range (row_value row) range
    → EndsAlike (map row_value rows) range → AddsToLast (map row_value rows) (map row_value (set rows place new)) range
adds_last rows place row new range last is more ends =
    let few : length (map row_value rows) ≡ length rows = length-map rows row_value in
    let long : length ends.before ≡ place = omega (arith, ap length ends.are, length-append ends.before (ends.last ∷ []), few) in
    let same : row_value row ≡ ends.last =
    ap row_value is ∙ sym (get_or-map row_value rows place row ends.last (omega arith)) ∙ ap (λ rs. get_or rs place ends.last) ends.are ∙ get_or_at ends.before ends.last [] ends.last place long in
    record {
      ends = ends;
      are = map-set row_value rows place new ∙ ap (λ rs. set rs place (row_value new)) ends.are ∙ set_at ends.before ends.last [] (row_value new) place long
          ∙ ap (λ r. ends.before ++ r ∷ []) (more ∙ ap (λ r. with_range r range) same);
    }

pub some_rows : (rows : List TableRow) (range : Run Verdict) → EndsAlike (map row_value rows) range → 0 < length rows
some_rows rows range ends = omega (arith, ap length ends.are, length-append ends.before (ends.last ∷ []), length-map rows row_value)
