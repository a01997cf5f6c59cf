-- Of the lines that name a client and list a path, the first of the heaviest.
use Rattle.std.proofs.Common.{◌≡◌, ◌∙◌, ℕ, ◌++◌, ◌&&◌, Bool, cond, List, [], ◌∷◌, Option, Some, None, ap, inl, inr, refl, subst, sym}
use Rattle.std.specs.Prelude.{filter, find}
use Rattle.std.specs.Option.{option_map}
use Rattle.std.proofs.lemmas.Bool.{cases_Bool, cond-false, cond-true}
use Rattle.std.proofs.lemmas.List.Elements.{filter-append}
use Rattle.desk_policy.specs.PrivateWeights.{IsGreatest, greater, has_weight, is_same_weight}
use Rattle.desk_policy.specs.Weights.{selected, weight_of}
use Rattle.desk_policy.specs.declared.row.Row.{Row}
use Rattle.desk_policy.proofs.GreatestWeight.{IsGreatest-push, find-filter, selected-none, selected-some}
use Rattle.desk_server_prints.specs.PrivateGrantingLine.{is_wider, wider_weight}
use Rattle.desk_server_prints.specs.GrantingLine.{first_number}

append_none : (rows : List Row) → rows ++ [] ≡ rows
append_none [] = refl
append_none (row ∷ rows) = ap (λ (rs : List Row). row ∷ rs) (append_none rows)

greater_none : (o : Option ℕ) → greater o None ≡ o
greater_none None = refl
greater_none (Some weight) = refl

module _ (address : ℕ) (path : List (List ℕ)) where
  abbrev wide : Row → Bool
  wide row = is_wider address path row

  pub one_more : (rows : List Row) (row : Row) (found : Option ℕ) → IsGreatest (filter wide rows) address found
      → IsGreatest (filter wide (rows ++ row ∷ [])) address (greater found (wider_weight address path row))
  one_more rows row found is =
      elim (cases_Bool (wide row)) [
        | inl kept ↦
            subst (λ (o : Option ℕ). IsGreatest (filter wide (rows ++ row ∷ [])) address (greater found o)) (sym (cond-true (wide row) (weight_of row address) None kept))
            (subst (λ (rs : List Row). IsGreatest rs address (greater found (weight_of row address)))
            (sym (filter-append wide rows (row ∷ []) ∙ ap (λ (rs : List Row). filter wide rows ++ rs) (cond-true (wide row) (row ∷ []) [] kept)))
            (IsGreatest-push (filter wide rows) address row found is))
        | inr left ↦
            subst (λ (o : Option ℕ). IsGreatest (filter wide (rows ++ row ∷ [])) address (greater found o)) (sym (cond-false (wide row) (weight_of row address) None left))
            (subst (λ (o : Option ℕ). IsGreatest (filter wide (rows ++ row ∷ [])) address o) (sym (greater_none found))
            (subst (λ (rs : List Row). IsGreatest rs address found)
            (sym (filter-append wide rows (row ∷ []) ∙ ap (λ (rs : List Row). filter wide rows ++ rs) (cond-false (wide row) (row ∷ []) [] left) ∙ append_none (filter wide rows)))
            is))
      ]

  -- the weight of a line that is wide
  weighs_so : (row : Row) (weight : ℕ) → (wide row && has_weight address weight row) ≡ is_same_weight (wider_weight address path row) weight
  weighs_so row weight =
      elim (cases_Bool (wide row)) [
        | inl kept ↦
            ap (λ (b : Bool). b && has_weight address weight row) kept ∙ sym (ap (λ (o : Option ℕ). is_same_weight o weight) (cond-true (wide row) (weight_of row address) None kept))
        | inr left ↦
            ap (λ (b : Bool). b && has_weight address weight row) left ∙ sym (ap (λ (o : Option ℕ). is_same_weight o weight) (cond-false (wide row) (weight_of row address) None left))
      ]

  find_same : (p q : Row → Bool) → ((row : Row) → p row ≡ q row) → (rows : List Row) → find p rows ≡ find q rows
  find_same p q same [] = refl
  find_same p q same (row ∷ rows) = ap (λ (b : Bool). cond b (Some row) (find p rows)) (same row) ∙ ap (λ (o : Option Row). cond (q row) (Some row) o) (find_same p q same rows)

  pub none_is : (rows : List Row) → IsGreatest (filter wide rows) address None → None ≡ first_number (selected (filter wide rows) address)
  none_is rows is = sym (ap first_number (selected-none (filter wide rows) address is))

  abbrev number_in : Option Row → Option ℕ
  number_in found = option_map (λ row. row.entry.line) found

  first_found : (p : Row → Bool) (rows : List Row) → first_number (filter p rows) ≡ number_in (find p rows)
  first_found p [] = refl
  first_found p (row ∷ rows) =
      elim (cases_Bool (p row)) [
        | inl kept ↦
            ap first_number (cond-true (p row) (row ∷ filter p rows) (filter p rows) kept) ∙ sym (ap number_in (cond-true (p row) (Some row) (find p rows) kept))
        | inr left ↦
            ap first_number (cond-false (p row) (row ∷ filter p rows) (filter p rows) left) ∙ first_found p rows ∙ sym (ap number_in (cond-false (p row) (Some row) (find p rows) left))
      ]

  pub first_is : (rows : List Row) (weight : ℕ) → IsGreatest (filter wide rows) address (Some weight)
      → number_in (find (λ row. is_same_weight (wider_weight address path row) weight) rows) ≡ first_number (selected (filter wide rows) address)
  first_is rows weight is =
      ap number_in (sym (find_same (λ (row : Row). wide row && has_weight address weight row) (λ (row : Row). is_same_weight (wider_weight address path row) weight) (λ row. weighs_so row weight) rows)
      ∙ sym (find-filter (has_weight address weight) wide rows))
      ∙ sym (first_found (has_weight address weight) (filter wide rows))
      ∙ sym (ap first_number (selected-some (filter wide rows) address weight is))
