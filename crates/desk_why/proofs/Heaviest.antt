-- The lines that match with less than a weight: those of the greatest weight come first, and are the selected ones.
use Rattle.std.proofs.Common.{◌≡◌, ◌⊎◌, ℕ, zero, suc, ◌+◌, ◌<◌, ◌++◌, ◌∙◌, Bool, true, false, eqb, ltb, List, [], ◌∷◌, Option, Some, None, ap, arith, inl, inr, refl, subst, sym}
use Rattle.std.specs.Prelude.{filter, is_none, not}
use Rattle.std.specs.List.{AllByRecursion, list_all, list_any}
use Rattle.std.proofs.lemmas.Bool.{and_from, cases_lt, cond_both, eq-eqb, eqb-true, false_from_ne_true, le-leb, leb-true, lt-ltb, ltb-true, ne_eqb, not-true, not_from_false, true≢false}
use Rattle.std.proofs.lemmas.List.Folds.{list_all-append}
use Rattle.desk_text.specs.AddrSet.{is_among}
use Rattle.desk_text.specs.Network.{covers}
use Rattle.desk_exports.specs.declared.entry.Clients.{Clients}
use Rattle.desk_exports.specs.declared.entry.Clients.TheVariants.{Hosts, Net, Net6, World}
use Rattle.desk_policy.specs.Keys.{HasBlock}
use Rattle.desk_policy.specs.Weights.{is_at_most, is_greatest, selected, weight_by, weight_of}
use Rattle.desk_policy.specs.declared.row.Row.{Row}
use Rattle.desk_why.specs.Matches.{is_weight, lighter, weighs}
use Rattle.desk_why.proofs.Lists.{all_both, all_weaker, any_and_all, empty_or_front, filter_agree_on, filter_none, filter_passes, none_passes, some_passes}

-- no match, or one of less than this weight
abbrev pub is_below : ℕ → Option ℕ → Bool
is_below bound None = true
is_below bound (Some weight) = ltb weight bound

below_by : (clients : Clients) (addresses : List ℕ) (address : ℕ) → HasBlock clients → is_below 35 (weight_by clients addresses address) ≡ true
below_by (Hosts names) addresses address block = cond_both (is_among address addresses) (Some 34) None (λ o. is_below 35 o ≡ true) (λ _. refl) (λ _. refl)
below_by (Net net noted) addresses address block =
    cond_both (covers net address) (Some (net.prefix + 1)) None (λ o. is_below 35 o ≡ true) (λ _. lt-ltb (net.prefix + 1) 35 (let h = block.prefix in omega arith)) (λ _. refl)
below_by (Net6 value) addresses address block = refl
below_by World addresses address block = refl

-- no line is heavier than one that names the client
pub all_below : (rows : List Row) (address : ℕ) → AllByRecursion (λ (row : Row). HasBlock row.entry.clients) rows → list_all (λ row. is_below 35 (weight_of row address)) rows ≡ true
all_below [] address blocks = refl
all_below (row ∷ rows) address blocks = and_from _ _ (below_by row.entry.clients row.addrs address blocks.0) (all_below rows address blocks.1)

-- ---- the greatest weight

none_below : (o : Option ℕ) → is_below 0 o ≡ true → is_none o ≡ true
none_below None e = refl
none_below (Some weight) e = let h = ltb-true weight 0 e in absurd (omega arith)

not_this : (weight : ℕ) (o : Option ℕ) → is_below (suc weight) o ≡ true → not (is_weight weight o) ≡ true → is_below weight o ≡ true
not_this weight None e f = refl
not_this weight (Some other) e f =
    let h = ltb-true other (suc weight) e in
    elim (cases_lt other weight) [
      | inl lt ↦ lt-ltb other weight lt
      | inr le ↦ absurd (true≢false (sym (eq-eqb other weight (omega arith)) ∙ not-true (eqb other weight) f))
    ]

pub at_most : (weight : ℕ) (o : Option ℕ) → is_below (suc weight) o ≡ true → is_at_most o weight ≡ true
at_most weight None e = refl
at_most weight (Some other) e = le-leb other weight (let h = ltb-true other (suc weight) e in omega arith)

-- the lines of the greatest weight come first, and then all lighter ones
pub record Top (rows : List Row) (address bound : ℕ) : Type 0 where
  pub weight : ℕ
  pub first : Row
  pub others : List Row
  pub heavy : filter (weighs address weight) rows ≡ first ∷ others
  pub greatest : list_all (λ row. is_at_most (weight_of row address) weight) rows ≡ true
  pub are : lighter rows address bound ≡ (first ∷ others) ++ lighter rows address weight

-- no line matches
pub record Nothing (rows : List Row) (address bound : ℕ) : Type 0 where
  pub none : list_all (λ row. is_none (weight_of row address)) rows ≡ true
  pub are : lighter rows address bound ≡ []

pub top_or_nothing : (rows : List Row) (address bound : ℕ) → list_all (λ row. is_below bound (weight_of row address)) rows ≡ true → Top rows address bound ⊎ Nothing rows address bound
unfolding lighter
top_or_nothing rows address zero below =
    inr (record { none = all_weaker (λ row. is_below 0 (weight_of row address)) (λ row. is_none (weight_of row address)) (λ row e. none_below (weight_of row address) e) rows below; are = refl })
top_or_nothing rows address (suc weight) below =
    elim (empty_or_front (filter (weighs address weight) rows)) [
      | inl empty ↦
          let less = all_both (λ row. is_below (suc weight) (weight_of row address)) (λ row. not (weighs address weight row)) (λ row. is_below weight (weight_of row address))
          (λ row e f. not_this weight (weight_of row address) e f) rows below (none_passes (weighs address weight) rows empty) in
          let same : lighter rows address (suc weight) ≡ lighter rows address weight = ap (λ (ys : List Row). ys ++ lighter rows address weight) empty in
          elim (top_or_nothing rows address weight less) [
            | inl top ↦ inl (record { weight = top.weight; first = top.first; others = top.others; heavy = top.heavy; greatest = top.greatest; are = same ∙ top.are })
            | inr nothing ↦ inr (record { none = nothing.none; are = same ∙ nothing.are })
          ]
      | inr front ↦ inl (record {
        weight = weight;
        first = front.first;
        others = front.others;
        heavy = front.are;
        greatest = all_weaker (λ row. is_below (suc weight) (weight_of row address)) (λ row. is_at_most (weight_of row address) weight) (λ row e. at_most weight (weight_of row address) e) rows below;
        are = ap (λ (ys : List Row). ys ++ lighter rows address weight) front.are;
      })
    ]

-- ---- the selected lines

none_not_greatest : (rows : List Row) (address : ℕ) (o : Option ℕ) → is_none o ≡ true → not (is_greatest rows address o) ≡ true
none_not_greatest rows address None e = refl
none_not_greatest rows address (Some weight) e = absurd (true≢false (sym e))

-- where no line matches, none is selected
pub selected-none : (rows : List Row) (address : ℕ) → list_all (λ row. is_none (weight_of row address)) rows ≡ true → selected rows address ≡ []
unfolding selected
selected-none rows address none =
    filter_none _ rows (all_weaker (λ row. is_none (weight_of row address)) (λ row. not (is_greatest rows address (weight_of row address)))
    (λ row e. none_not_greatest rows address (weight_of row address) e) rows none)

heavier_apart : (o : Option ℕ) (v w : ℕ) → v < w → is_weight w o ≡ true → is_at_most o v ≡ true → ⊥
heavier_apart None v w lt e f = true≢false (sym e)
heavier_apart (Some u) v w lt e f = let a = eqb-true u w e in let b = leb-true u v f in absurd (omega arith)

-- a line weighs the greatest weight exactly where no line weighs more
greatest_agrees : (rows : List Row) (address weight : ℕ) → list_any (weighs address weight) rows ≡ true → list_all (λ row. is_at_most (weight_of row address) weight) rows ≡ true
    → (o : Option ℕ) → is_at_most o weight ≡ true → is_greatest rows address o ≡ is_weight weight o
greatest_agrees rows address weight some all None e = refl
greatest_agrees rows address weight some all (Some v) e =
    elim (cases_lt v weight) [
      | inl lt ↦ false_from_ne_true _ (λ least.
          let w = any_and_all (weighs address weight) (λ other. is_at_most (weight_of other address) v) rows some least in
          heavier_apart (weight_of w.0 address) v weight lt w.1 w.2) ∙ sym (ne_eqb v weight (λ is. omega arith))
      | inr le ↦
          let is : v ≡ weight = (let b = leb-true v weight e in omega arith) in
          ap (λ u. is_greatest rows address (Some u)) is ∙ all ∙ sym (eq-eqb v weight is)
    ]

-- the selected lines are those of the greatest weight
pub selected-some : (rows : List Row) (address weight : ℕ) → list_any (weighs address weight) rows ≡ true → list_all (λ row. is_at_most (weight_of row address) weight) rows ≡ true
    → selected rows address ≡ filter (weighs address weight) rows
unfolding selected
selected-some rows address weight some all =
    filter_agree_on (λ row. is_at_most (weight_of row address) weight) _ _ (λ row e. greatest_agrees rows address weight some all (weight_of row address) e) rows all

pub selected_top : (rows : List Row) (address bound : ℕ) → (top : Top rows address bound) → selected rows address ≡ top.first ∷ top.others
selected_top rows address bound top =
    selected-some rows address top.weight (some_passes (weighs address top.weight) rows top.first top.others top.heavy) top.greatest ∙ top.heavy

-- ---- the weights of both parts

pub weighs_is : (weight : ℕ) (o : Option ℕ) → is_weight weight o ≡ true → o ≡ Some weight
weighs_is weight None e = absurd (true≢false (sym e))
weighs_is weight (Some other) e = ap Some (eqb-true other weight e)

-- the lines of the greatest weight have it
pub top_weighs : (rows : List Row) (address bound : ℕ) → (top : Top rows address bound) → list_all (weighs address top.weight) (top.first ∷ top.others) ≡ true
top_weighs rows address bound top = subst (λ (ys : List Row). list_all (weighs address top.weight) ys ≡ true) top.heavy (filter_passes (weighs address top.weight) rows)

-- a match of less than this weight
abbrev pub is_less : ℕ → Option ℕ → Bool
is_less bound None = false
is_less bound (Some weight) = ltb weight bound

this_less : (weight : ℕ) (o : Option ℕ) → is_weight weight o ≡ true → is_less (suc weight) o ≡ true
this_less weight None e = absurd (true≢false (sym e))
this_less weight (Some other) e = lt-ltb other (suc weight) (let h = eqb-true other weight e in omega arith)

less_more : (weight : ℕ) (o : Option ℕ) → is_less weight o ≡ true → is_less (suc weight) o ≡ true
less_more weight None e = absurd (true≢false (sym e))
less_more weight (Some other) e = lt-ltb other (suc weight) (let h = ltb-true other weight e in omega arith)

pub lighter_less : (rows : List Row) (address bound : ℕ) → list_all (λ row. is_less bound (weight_of row address)) (lighter rows address bound) ≡ true
unfolding lighter
lighter_less rows address zero = refl
lighter_less rows address (suc weight) =
    list_all-append (λ (row : Row). is_less (suc weight) (weight_of row address)) (filter (weighs address weight) rows) (lighter rows address weight)
    ∙ and_from _ _
    (all_weaker (weighs address weight) (λ row. is_less (suc weight) (weight_of row address)) (λ row e. this_less weight (weight_of row address) e) (filter (weighs address weight) rows)
    (filter_passes (weighs address weight) rows))
    (all_weaker (λ row. is_less weight (weight_of row address)) (λ row. is_less (suc weight) (weight_of row address)) (λ row e. less_more weight (weight_of row address) e) (lighter rows address weight)
    (lighter_less rows address weight))

pub less_not : (weight : ℕ) (o : Option ℕ) → is_less weight o ≡ true → not (is_weight weight o) ≡ true
less_not weight None e = absurd (true≢false (sym e))
less_not weight (Some other) e = not_from_false _ (ne_eqb other weight (λ is. let h = ltb-true other weight e in omega arith))

-- one weight more
pub one_more : (rows : List Row) (address bound weight : ℕ) → bound ≡ suc weight → lighter rows address bound ≡ filter (weighs address weight) rows ++ lighter rows address weight
unfolding lighter
one_more rows address bound weight same = ap (lighter rows address) same

-- and none
pub none_lighter : (rows : List Row) (address bound : ℕ) → bound ≡ 0 → lighter rows address bound ≡ []
unfolding lighter
none_lighter rows address bound none = ap (lighter rows address) none
