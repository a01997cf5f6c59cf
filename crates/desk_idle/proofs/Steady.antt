-- The lines that are selected for an address are those that are selected at the last start before it.
use Rattle.std.proofs.Common.{◌≡◌, ◌∙◌, ℕ, zero, suc, ◌+◌, ◌<◌, ◌≤◌, ◌^◌, ◌&&◌, Bool, true, false, cond, eqb, List, [], ◌∷◌, Option, Some, None, ap, arith, inl, inr, refl, subst, sym}
use Rattle.std.specs.Prelude.{filter}
use Rattle.std.specs.List.{AllByRecursion, list_all}
use Rattle.std.proofs.lemmas.Bool.{cases_Bool, or_right}
use Rattle.desk_text.specs.AddrSet.{is_among}
use Rattle.desk_policy.specs.Weights.{is_at_most, is_greatest, selected, weight_of}
use Rattle.desk_policy.specs.declared.row.Row.{Row}
use Rattle.desk_who.specs.Starts.{AreStarts, IsSteadyLine}

map_all : {X : Type 0} (P Q : X → Type 0) → ((x : X) → P x → Q x) → (xs : List X) → AllByRecursion P xs → AllByRecursion Q xs
map_all P Q h [] all = tt
map_all P Q h (x ∷ xs) all = (h x all.0, map_all P Q h xs all.1)

all_alike : (p q : Row → Bool) (rows : List Row) → AllByRecursion (λ (row : Row). p row ≡ q row) rows → list_all p rows ≡ list_all q rows
all_alike p q [] same = refl
all_alike p q (row ∷ rows) same = ap (λ b. b && list_all p rows) same.0 ∙ ap (λ b. q row && b) (all_alike p q rows same.1)

filters_alike : (p q : Row → Bool) (rows : List Row) → AllByRecursion (λ (row : Row). p row ≡ q row) rows → filter p rows ≡ filter q rows
filters_alike p q [] same = refl
filters_alike p q (row ∷ rows) same =
    ap (λ b. cond b (row ∷ filter p rows) (filter p rows)) same.0 ∙ ap (λ ys. cond (q row) (row ∷ ys) ys) (filters_alike p q rows same.1)

module _ (next address : ℕ) where
  abbrev IsSame : Row → Type 0
  IsSame row = weight_of row next ≡ weight_of row address

  greatest_alike : (rows : List Row) → AllByRecursion IsSame rows → (weight : Option ℕ) → is_greatest rows next weight ≡ is_greatest rows address weight
  greatest_alike rows same None = refl
  greatest_alike rows same (Some weight) =
      all_alike (λ other. is_at_most (weight_of other next) weight) (λ other. is_at_most (weight_of other address) weight) rows
      (map_all IsSame (λ other. is_at_most (weight_of other next) weight ≡ is_at_most (weight_of other address) weight) (λ other is. ap (λ o. is_at_most o weight) is) rows same)

  pub selected_alike : (rows : List Row) → AllByRecursion IsSame rows → selected rows next ≡ selected rows address
  unfolding selected
  selected_alike rows same =
      filters_alike (λ row. is_greatest rows next (weight_of row next)) (λ row. is_greatest rows address (weight_of row address)) rows
      (map_all IsSame (λ row. is_greatest rows next (weight_of row next) ≡ is_greatest rows address (weight_of row address))
      (λ row is. ap (is_greatest rows next) is ∙ greatest_alike rows same (weight_of row address)) rows same)

-- the last start before an address, or at it
pub record LastStart (rows : List Row) (starts : List ℕ) (address : ℕ) : Type 0 where
  pub at : ℕ
  pub among : is_among at (0 ∷ starts) ≡ true
  pub before : at ≤ address
  pub same : selected rows address ≡ selected rows at

module _ (rows : List Row) (starts : List ℕ) (are : AreStarts rows starts) where
  steady : (address next : ℕ) → next ≡ address + 1 → next < 2 ^ 32 → is_among next starts ≡ false → selected rows next ≡ selected rows address
  steady address next is below none =
      selected_alike next address rows
      (map_all (IsSteadyLine starts) (IsSame next address) (λ row steady. ap (weight_of row) is ∙ steady address (subst (λ n. n < 2 ^ 32) is below) (sym (ap (λ n. is_among n starts) is) ∙ none)) rows are.steady)

  pub last_start : (address : ℕ) → address < 2 ^ 32 → LastStart rows starts address
  last_start zero below = record { at = 0; among = refl; before = omega arith; same = refl }
  last_start (suc address) below =
      elim (cases_Bool (is_among (suc address) starts)) [
        | inl start ↦ record { at = suc address; among = or_right (eqb 0 (suc address)) (is_among (suc address) starts) start; before = omega arith; same = refl }
        | inr none ↦
            let last = last_start address (omega arith) in
            record { at = last.at; among = last.among; before = (let b = last.before in omega arith); same = steady address (suc address) (omega arith) below none ∙ last.same }
      ]
