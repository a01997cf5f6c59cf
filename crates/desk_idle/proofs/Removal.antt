-- Without lines that decide nothing every verdict stays the same.
use Rattle.std.proofs.Common.{◌≡◌, ◌⊎◌, ℕ, ◌<◌, ◌≤◌, ◌^◌, ◌||◌, ◌∙◌, Bool, true, false, cond, eqb, List, [], ◌∷◌, Option, Some, None, ap, arith, get_or, inl, inr, length, refl, subst, sym}
use Rattle.std.specs.Prelude.{filter, find, is_none, not}
use Rattle.std.specs.List.{Contains, list_all, list_any}
use Rattle.std.proofs.lemmas.Bool.{and_from, and_parts, cases_Bool, cases_eq, cases_lt, cond-true, cond-false, eq-eqb, eqb-true, false_from_ne_true, le-leb, leb-true, ne_eqb, not-true, not_from_false, or_cases, or_left, or_right, true≢false}
use Rattle.std.proofs.lemmas.List.{get_or-set_other, get_or-set_same, get_or_past, set_past}
use Rattle.desk_tables.specs.FileSystems.{fs_of}
use Rattle.desk_policy.specs.Policy.{Content, rows_of}
use Rattle.desk_policy.specs.Verdict.{granted_by, lists, verdict_among, verdict_in, verdict_of}
use Rattle.desk_policy.specs.Weights.{is_at_most, is_greatest, selected, weight_of}
use Rattle.desk_policy.specs.declared.row.Row.{Row}
use Rattle.desk_idle.specs.Idle.{IsNamed, DecidesNothing}
use Rattle.desk_idle.specs.Laws.{IdleLinesChangeNothing, WriteDirectories, without}
use Rattle.desk_idle.proofs.Naming.{split_at_found}
use Rattle.desk_idle.proofs.Bringing.{decides_at, first_decides, selected_has}
use Rattle.desk_idle.proofs.Lists.{in_middle}

-- ---- lists

all_weaker : {X : Type 0} (p q : X → Bool) → ((x : X) → p x ≡ true → q x ≡ true) → (xs : List X) → list_all p xs ≡ true → list_all q xs ≡ true
all_weaker p q h [] e = refl
all_weaker p q h (x ∷ xs) e = let s = and_parts _ _ e in and_from _ _ (h x s.0) (all_weaker p q h xs s.1)

any_and_all : {X : Type 0} (p q : X → Bool) (xs : List X) → list_any p xs ≡ true → list_all q xs ≡ true → (x : X) × (p x ≡ true) × (q x ≡ true)
any_and_all p q [] e f = absurd (true≢false (sym e))
any_and_all p q (x ∷ xs) e f =
    let s = and_parts _ _ f in
    elim (or_cases _ _ e) [ inl h ↦ (x, h, s.0) | inr h ↦ any_and_all p q xs h s.1 ]

filter_agree_on : {X : Type 0} (r p q : X → Bool) → ((x : X) → r x ≡ true → p x ≡ q x) → (xs : List X) → list_all r xs ≡ true → filter p xs ≡ filter q xs
filter_agree_on r p q h [] e = refl
filter_agree_on r p q h (x ∷ xs) e =
    let s = and_parts _ _ e in
    ap (λ b. cond b (x ∷ filter p xs) (filter p xs)) (h x s.0) ∙ ap (λ ys. cond (q x) (x ∷ ys) ys) (filter_agree_on r p q h xs s.1)

filter_none : {X : Type 0} (p : X → Bool) (xs : List X) → list_all (λ x. not (p x)) xs ≡ true → filter p xs ≡ []
filter_none p [] e = refl
filter_none p (x ∷ xs) e =
    let s = and_parts _ _ e in
    ap (λ b. cond b (x ∷ filter p xs) (filter p xs)) (not-true _ s.0) ∙ filter_none p xs s.1

-- what all elements pass, those pass that a filter keeps
all_kept : {X : Type 0} (p q : X → Bool) (xs : List X) → list_all p xs ≡ true → list_all p (filter q xs) ≡ true
all_kept p q [] e = refl
all_kept p q (x ∷ xs) e =
    let s = and_parts _ _ e in
    elim (cases_Bool (q x)) [
      | inl here ↦ ap (λ b. list_all p (cond b (x ∷ filter q xs) (filter q xs))) here ∙ and_from _ _ s.0 (all_kept p q xs s.1)
      | inr later ↦ ap (λ b. list_all p (cond b (x ∷ filter q xs) (filter q xs))) later ∙ all_kept p q xs s.1
    ]

-- two filters in either order
filters_swap : {X : Type 0} (p q : X → Bool) (xs : List X) → filter p (filter q xs) ≡ filter q (filter p xs)
filters_swap p q [] = refl
filters_swap p q (x ∷ xs) =
    elim (cases_Bool (q x)) [
      | inl kept ↦ elim (cases_Bool (p x)) [
        | inl passes ↦
            ap (λ b. filter p (cond b (x ∷ filter q xs) (filter q xs))) kept ∙ ap (λ b. cond b (x ∷ filter p (filter q xs)) (filter p (filter q xs))) passes ∙ ap (λ ys. x ∷ ys) (filters_swap p q xs)
            ∙ sym (ap (λ b. cond b (x ∷ filter q (filter p xs)) (filter q (filter p xs))) kept) ∙ sym (ap (λ b. filter q (cond b (x ∷ filter p xs) (filter p xs))) passes)
        | inr fails ↦
            ap (λ b. filter p (cond b (x ∷ filter q xs) (filter q xs))) kept ∙ ap (λ b. cond b (x ∷ filter p (filter q xs)) (filter p (filter q xs))) fails ∙ filters_swap p q xs
            ∙ sym (ap (λ b. filter q (cond b (x ∷ filter p xs) (filter p xs))) fails)
      ]
      | inr left ↦ elim (cases_Bool (p x)) [
        | inl passes ↦
            ap (λ b. filter p (cond b (x ∷ filter q xs) (filter q xs))) left ∙ filters_swap p q xs
            ∙ sym (ap (λ b. cond b (x ∷ filter q (filter p xs)) (filter q (filter p xs))) left) ∙ sym (ap (λ b. filter q (cond b (x ∷ filter p xs) (filter p xs))) passes)
        | inr fails ↦
            ap (λ b. filter p (cond b (x ∷ filter q xs) (filter q xs))) left ∙ filters_swap p q xs ∙ sym (ap (λ b. filter q (cond b (x ∷ filter p xs) (filter p xs))) fails)
      ]
    ]

-- what a filter that keeps the first that passes finds
find_kept : {X : Type 0} (p q : X → Bool) (xs : List X) → ((y : X) → find p xs ≡ Some y → q y ≡ true) → find p (filter q xs) ≡ find p xs
find_kept p q [] keeps = refl
find_kept p q (x ∷ xs) keeps =
    elim (cases_Bool (p x)) [
      | inl passes ↦
          let kept = keeps x (cond-true (p x) (Some x) (find p xs) passes) in
          ap (λ b. find p (cond b (x ∷ filter q xs) (filter q xs))) kept ∙ cond-true (p x) (Some x) (find p (filter q xs)) passes ∙ sym (cond-true (p x) (Some x) (find p xs) passes)
      | inr fails ↦
          let rest = find_kept p q xs (λ y e. keeps y (cond-false (p x) (Some x) (find p xs) fails ∙ e)) in
          elim (cases_Bool (q x)) [
            | inl kept ↦ ap (λ b. find p (cond b (x ∷ filter q xs) (filter q xs))) kept ∙ cond-false (p x) (Some x) (find p (filter q xs)) fails ∙ rest ∙ sym (cond-false (p x) (Some x) (find p xs) fails)
            | inr left ↦ ap (λ b. find p (cond b (x ∷ filter q xs) (filter q xs))) left ∙ rest ∙ sym (cond-false (p x) (Some x) (find p xs) fails)
          ]
    ]

-- an element that a filter keeps is among those that it keeps
any_kept : {X : Type 0} (p q : X → Bool) (xs : List X) (x : X) (others : List X) → filter p xs ≡ x ∷ others → q x ≡ true → list_any p (filter q xs) ≡ true
any_kept p q [] x others e keeps = let wrong : [] ≡ x ∷ others = e in cc
any_kept p q (y ∷ xs) x others e keeps =
    elim (cases_Bool (p y)) [
      | inl passes ↦
          let same : y ∷ filter p xs ≡ x ∷ others = sym (ap (λ b. cond b (y ∷ filter p xs) (filter p xs)) passes) ∙ e in
          let is : y ≡ x = cc in
          ap (λ b. list_any p (cond b (y ∷ filter q xs) (filter q xs))) (ap q is ∙ keeps) ∙ or_left _ _ passes
      | inr fails ↦
          let rest = any_kept p q xs x others (sym (ap (λ b. cond b (y ∷ filter p xs) (filter p xs)) fails) ∙ e) keeps in
          elim (cases_Bool (q y)) [
            | inl kept ↦ ap (λ b. list_any p (cond b (y ∷ filter q xs) (filter q xs))) kept ∙ or_right _ _ rest
            | inr left ↦ ap (λ b. list_any p (cond b (y ∷ filter q xs) (filter q xs))) left ∙ rest
          ]
    ]

-- ---- the greatest weight

abbrev is_weight : ℕ → Option ℕ → Bool
is_weight weight None = false
is_weight weight (Some other) = eqb other weight

-- the line matches the address with this weight
abbrev pub weighs : ℕ → ℕ → Row → Bool
weighs address weight row = is_weight weight (weight_of row address)

-- a line has this weight, and none a greater one
pub record Greatest (rows : List Row) (address : ℕ) : Type 0 where
  pub weight : ℕ
  pub some : list_any (weighs address weight) rows ≡ true
  pub all : list_all (λ row. is_at_most (weight_of row address) weight) rows ≡ true

abbrev pub MatchNot : List Row → ℕ → Type 0
MatchNot rows address = list_all (λ row. is_none (weight_of row address)) rows ≡ true

at_most_more : (o : Option ℕ) (v w : ℕ) → v ≤ w → is_at_most o v ≡ true → is_at_most o w ≡ true
at_most_more None v w le e = refl
at_most_more (Some u) v w le e = le-leb u w (let h = leb-true u v e in omega arith)

none_at_most : (o : Option ℕ) (w : ℕ) → is_none o ≡ true → is_at_most o w ≡ true
none_at_most None w e = refl
none_at_most (Some u) w e = absurd (true≢false (sym e))

one_greater : (row : Row) (rows : List Row) (address : ℕ) (o : Option ℕ) → weight_of row address ≡ o → Greatest rows address ⊎ MatchNot rows address → Greatest (row ∷ rows) address ⊎ MatchNot (row ∷ rows) address
one_greater row rows address None is (inr none) = inr (and_from _ _ (ap is_none is) none)
one_greater row rows address None is (inl g) = inl (record { weight = g.weight; some = or_right _ _ g.some; all = and_from _ _ (ap (λ o. is_at_most o g.weight) is) g.all })
one_greater row rows address (Some w) is (inr none) = inl (record {
  weight = w;
  some = or_left _ _ (ap (λ o. is_weight w o) is ∙ eq-eqb w w refl);
  all = and_from _ _ (ap (λ o. is_at_most o w) is ∙ le-leb w w (omega arith))
      (all_weaker (λ other. is_none (weight_of other address)) (λ other. is_at_most (weight_of other address) w) (λ other e. none_at_most (weight_of other address) w e) rows none);
})
one_greater row rows address (Some w) is (inl g) =
    elim (cases_lt g.weight w) [
      | inl lt ↦ inl (record {
        weight = w;
        some = or_left _ _ (ap (λ o. is_weight w o) is ∙ eq-eqb w w refl);
        all = and_from _ _ (ap (λ o. is_at_most o w) is ∙ le-leb w w (omega arith))
            (all_weaker (λ other. is_at_most (weight_of other address) g.weight) (λ other. is_at_most (weight_of other address) w) (λ other e. at_most_more (weight_of other address) g.weight w (omega arith) e) rows g.all);
      })
      | inr le ↦ inl (record { weight = g.weight; some = or_right _ _ g.some; all = and_from _ _ (ap (λ o. is_at_most o g.weight) is ∙ le-leb w g.weight le) g.all })
    ]

pub greatest_or_not : (rows : List Row) (address : ℕ) → Greatest rows address ⊎ MatchNot rows address
greatest_or_not [] address = inr refl
greatest_or_not (row ∷ rows) address = one_greater row rows address (weight_of row address) refl (greatest_or_not rows address)

none_not_greatest : (rows : List Row) (address : ℕ) (o : Option ℕ) → is_none o ≡ true → not (is_greatest rows address o) ≡ true
none_not_greatest rows address None e = refl
none_not_greatest rows address (Some weight) e = absurd (true≢false (sym e))

pub selected-none : (rows : List Row) (address : ℕ) → MatchNot rows address → selected rows address ≡ []
unfolding selected
selected-none rows address none =
    filter_none _ rows (all_weaker (λ row. is_none (weight_of row address)) (λ row. not (is_greatest rows address (weight_of row address)))
    (λ row e. none_not_greatest rows address (weight_of row address) e) rows none)

heavier_apart : (o : Option ℕ) (v w : ℕ) → v < w → is_weight w o ≡ true → is_at_most o v ≡ true → ⊥
heavier_apart None v w lt e f = true≢false (sym e)
heavier_apart (Some u) v w lt e f = let a = eqb-true u w e in let b = leb-true u v f in absurd (omega arith)

greatest_agrees : (rows : List Row) (address weight : ℕ) → list_any (weighs address weight) rows ≡ true → list_all (λ row. is_at_most (weight_of row address) weight) rows ≡ true
    → (o : Option ℕ) → is_at_most o weight ≡ true → is_greatest rows address o ≡ is_weight weight o
greatest_agrees rows address weight some all None e = refl
greatest_agrees rows address weight some all (Some v) e =
    elim (cases_lt v weight) [
      | inl lt ↦ false_from_ne_true _ (λ least.
          let w = any_and_all (weighs address weight) (λ other. is_at_most (weight_of other address) v) rows some least in
          heavier_apart (weight_of w.0 address) v weight lt w.1 w.2) ∙ sym (ne_eqb v weight (λ is. omega arith))
      | inr le ↦
          let is : v ≡ weight = (let b = leb-true v weight e in omega arith) in
          ap (λ u. is_greatest rows address (Some u)) is ∙ all ∙ sym (eq-eqb v weight is)
    ]

pub selected-some : (rows : List Row) (address weight : ℕ) → list_any (weighs address weight) rows ≡ true → list_all (λ row. is_at_most (weight_of row address) weight) rows ≡ true
    → selected rows address ≡ filter (weighs address weight) rows
unfolding selected
selected-some rows address weight some all =
    filter_agree_on (λ row. is_at_most (weight_of row address) weight) _ _ (λ row e. greatest_agrees rows address weight some all (weight_of row address) e) rows all

-- ---- without some lines

-- if the first of the selected lines stays, those that stay are selected
module _ (q : Row → Bool) (rows : List Row) (address : ℕ) where
  kept_by : (first : Row) (others : List Row) → selected rows address ≡ first ∷ others → q first ≡ true → Greatest rows address ⊎ MatchNot rows address → selected (filter q rows) address ≡ filter q (selected rows address)
  kept_by first others are stays (inr none) =
      selected-none (filter q rows) address (all_kept (λ row. is_none (weight_of row address)) q rows none) ∙ sym (ap (filter q) (selected-none rows address none))
  kept_by first others are stays (inl g) =
      let is = selected-some rows address g.weight g.some g.all in
      selected-some (filter q rows) address g.weight (any_kept (weighs address g.weight) q rows first others (sym is ∙ are) stays) (all_kept (λ row. is_at_most (weight_of row address) g.weight) q rows g.all)
      ∙ filters_swap (weighs address g.weight) q rows ∙ ap (filter q) (sym is)

  kept_of_none : selected rows address ≡ [] → Greatest rows address ⊎ MatchNot rows address → selected (filter q rows) address ≡ []
  kept_of_none are (inr none) = selected-none (filter q rows) address (all_kept (λ row. is_none (weight_of row address)) q rows none)
  kept_of_none are (inl g) = absurd (none_some (weighs address g.weight) rows (sym (selected-some rows address g.weight g.some g.all) ∙ are) g.some)
    where
      none_some : (p : Row → Bool) (xs : List Row) → filter p xs ≡ [] → list_any p xs ≡ true → ⊥
      none_some p [] e f = true≢false (sym f)
      none_some p (x ∷ xs) e f =
          elim (cases_Bool (p x)) [
            | inl passes ↦ let wrong : x ∷ filter p xs ≡ [] = sym (ap (λ b. cond b (x ∷ filter p xs) (filter p xs)) passes) ∙ e in cc
            | inr fails ↦ none_some p xs (sym (ap (λ b. cond b (x ∷ filter p xs) (filter p xs)) fails) ∙ e) (sym (ap (λ b. b || list_any p xs) fails) ∙ f)
          ]

abbrev Idle : Content → ℕ → (ℕ → Bool) → Type 0
Idle content fs leaves = (row : Row) → Contains (rows_of content fs) row → leaves row.entry.line ≡ true → DecidesNothing content fs row.entry.line

abbrev stays_in : (ℕ → Bool) → Row → Bool
stays_in leaves row = not (leaves row.entry.line)

module _ (content : Content) (fs : ℕ) (leaves : ℕ → Bool) (is : WriteDirectories content fs) (idle : Idle content fs leaves) where
  -- a line that decides stays
  stays : (row : Row) → Contains (rows_of content fs) row → IsNamed content fs row.entry.line → stays_in leaves row ≡ true
  stays row has decides = not_from_false (leaves row.entry.line) (false_from_ne_true (leaves row.entry.line) (λ left. idle row has left decides))

  module _ (address : ℕ) (below : address < 2 ^ 32) (path : List (List ℕ)) (here : fs_of content.table path ≡ Some fs) where
    found_stays : (y : Row) → find (lists content fs path) (selected (rows_of content fs) address) ≡ Some y → stays_in leaves y ≡ true
    found_stays y e =
        let found = split_at_found (lists content fs path) (selected (rows_of content fs) address) y e in
        let has : Contains (rows_of content fs) y = selected_has (rows_of content fs) address y (subst (λ (ys : List Row). Contains ys y) (sym found.are) (in_middle found.earlier y found.later)) in
        stays y has (decides_at content fs is y has address below path here found.earlier found.later found.are found.before found.passes)

    by_chosen : (chosen : List Row) → selected (rows_of content fs) address ≡ chosen
        → verdict_among (record { 0 = fs }) (lists content fs path) (selected (filter (stays_in leaves) (rows_of content fs)) address) ≡ verdict_among (record { 0 = fs }) (lists content fs path) (selected (rows_of content fs) address)
    by_chosen [] are =
        ap (verdict_among (record { 0 = fs }) (lists content fs path)) (kept_of_none (stays_in leaves) (rows_of content fs) address are (greatest_or_not (rows_of content fs) address) ∙ sym are)
    by_chosen (first ∷ others) are =
        let rows = rows_of content fs in
        let q : Row → Bool = stays_in leaves in
        let listing : Row → Bool = lists content fs path in
        let has : Contains rows first = selected_has rows address first (subst (λ (ys : List Row). Contains ys first) (sym are) (in_middle [] first others)) in
        let first_stays : q first ≡ true = stays first has (first_decides content fs is first has address below others are) in
        let front : filter q (first ∷ others) ≡ first ∷ filter q others = cond-true (q first) (first ∷ filter q others) (filter q others) first_stays in
        let left : selected (filter q rows) address ≡ first ∷ filter q others = kept_by q rows address first others are first_stays (greatest_or_not rows address) ∙ ap (filter q) are ∙ front in
        let same : find listing (first ∷ filter q others) ≡ find listing (first ∷ others) =
        ap (find listing) (sym front) ∙ find_kept listing q (first ∷ others) (λ y e. found_stays y (ap (find listing) are ∙ e)) in
        ap (verdict_among (record { 0 = fs }) listing) left ∙ ap (granted_by (record { 0 = fs }) first) same ∙ ap (verdict_among (record { 0 = fs }) listing) (sym are)

    same_here : verdict_among (record { 0 = fs }) (lists content fs path) (selected (filter (stays_in leaves) (rows_of content fs)) address) ≡ verdict_among (record { 0 = fs }) (lists content fs path) (selected (rows_of content fs) address)
    same_here = by_chosen (selected (rows_of content fs) address) refl

  rows_here : rows_of (without content fs leaves) fs ≡ filter (stays_in leaves) (rows_of content fs)
  rows_here =
      let left = filter (stays_in leaves) (rows_of content fs) in
      elim (cases_lt fs (length content.rows)) [
        | inl within ↦ get_or-set_same content.rows fs left [] within
        | inr past ↦
            let none : rows_of content fs ≡ [] = get_or_past content.rows fs [] past in
            ap (λ (rows : List (List Row)). get_or rows fs []) (set_past content.rows fs left past) ∙ none ∙ sym (ap (filter (stays_in leaves)) none)
      ]

  rows_elsewhere : (other : ℕ) → (other ≡ fs → ⊥) → rows_of (without content fs leaves) other ≡ rows_of content other
  rows_elsewhere other apart = get_or-set_other content.rows fs other (filter (stays_in leaves) (rows_of content fs)) [] apart

  by_fs : (address : ℕ) (path : List (List ℕ)) → address < 2 ^ 32 → (o : Option ℕ) → fs_of content.table path ≡ o → verdict_in (without content fs leaves) address path o ≡ verdict_in content address path o
  by_fs address path below None here = refl
  by_fs address path below (Some other) here =
      elim (cases_eq other fs) [
        | inl same ↦
            ap (λ (n : ℕ). verdict_among (record { 0 = n }) (lists content n path) (selected (rows_of (without content fs leaves) n) address)) same
            ∙ ap (λ (rows : List Row). verdict_among (record { 0 = fs }) (lists content fs path) (selected rows address)) rows_here
            ∙ same_here address below path (here ∙ ap Some same)
            ∙ sym (ap (λ (n : ℕ). verdict_among (record { 0 = n }) (lists content n path) (selected (rows_of content n) address)) same)
        | inr apart ↦ ap (λ (rows : List Row). verdict_among (record { 0 = other }) (lists content other path) (selected rows address)) (rows_elsewhere other apart)
      ]

pub idle_lines_change_nothing : IdleLinesChangeNothing
unfolding verdict_of
idle_lines_change_nothing content fs leaves is idle address path below = by_fs content fs leaves is idle address path below (fs_of content.table path) refl
