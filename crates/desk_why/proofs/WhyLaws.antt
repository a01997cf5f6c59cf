-- The verdict is what the lines that match say.
use Rattle.std.proofs.Common.{◌≡◌, ◌⊎◌, ℕ, ◌&&◌, ◌++◌, ◌∙◌, Bool, true, List, ◌∷◌, Some, ap, inl, inr, sym}
use Rattle.std.specs.Prelude.{filter, find, not}
use Rattle.std.specs.List.{list_all}
use Rattle.std.specs.Option.{option_or}
use Rattle.std.proofs.lemmas.Bool.{and_left, and_parts, not-true, not_from_false}
use Rattle.std.proofs.lemmas.List.{append-nil}
use Rattle.std.proofs.lemmas.List.Elements.{filter-append, recursion_from_All}
use Rattle.std.proofs.lemmas.List.Folds.{find-append}
use Rattle.desk_tables.specs.declared.filesystems.FsId.{FsId}
use Rattle.desk_policy.specs.Keys.{HasBlock}
use Rattle.desk_policy.specs.Policy.{rows_of}
use Rattle.desk_policy.specs.Verdict.{granted_by, lists, verdict_among, verdict_in, verdict_of}
use Rattle.desk_policy.specs.Weights.{selected, weight_of}
use Rattle.desk_policy.specs.declared.row.Row.{Row}
use Rattle.desk_why.specs.Matches.{is_as_heavy, lighter, matching, weighs}
use Rattle.desk_why.specs.Laws.{HeaviestAreSelected, MatchingLinesAreByWeight, VerdictsAreWhatLinesSay, is_heaviest, said}
use Rattle.desk_why.proofs.Lists.{all_weaker, filter_all, filter_none, find_agree_on, find_none, or_nothing}
use Rattle.desk_why.proofs.Heaviest.{Nothing, Top, all_below, is_less, less_not, lighter_less, selected-none, selected_top, top_or_nothing, top_weighs, weighs_is}
use Rattle.desk_why.proofs.Order.{all_match, each_weight, none_is_heavier}

-- ---- those as heavy as the first

module _ (rows : List Row) (address : ℕ) (top : Top rows address 35) where
  first_is : weight_of top.first address ≡ Some top.weight
  first_is = weighs_is top.weight (weight_of top.first address) (and_parts _ _ (top_weighs rows address 35 top)).0

  -- as heavy as the first is to have the greatest weight
  heavy_is : (row : Row) → is_as_heavy (weight_of top.first address) (weight_of row address) ≡ weighs address top.weight row
  heavy_is row = ap (λ o. is_as_heavy o (weight_of row address)) first_is

  rest_not : list_all (λ row. not (is_as_heavy (weight_of top.first address) (weight_of row address))) (lighter rows address top.weight) ≡ true
  rest_not =
      all_weaker (λ row. is_less top.weight (weight_of row address)) (λ row. not (is_as_heavy (weight_of top.first address) (weight_of row address)))
      (λ row e. ap not (heavy_is row) ∙ less_not top.weight (weight_of row address) e) (lighter rows address top.weight) (lighter_less rows address top.weight)

  top_heavy : list_all (λ row. is_as_heavy (weight_of top.first address) (weight_of row address)) (top.first ∷ top.others) ≡ true
  top_heavy = all_weaker (weighs address top.weight) (λ row. is_as_heavy (weight_of top.first address) (weight_of row address)) (λ row e. heavy_is row ∙ e) (top.first ∷ top.others) (top_weighs rows address 35 top)

  pub heaviest_of_top : filter (λ row. is_as_heavy (weight_of top.first address) (weight_of row address)) ((top.first ∷ top.others) ++ lighter rows address top.weight) ≡ top.first ∷ top.others
  heaviest_of_top =
      let heavy : Row → Bool = λ row. is_as_heavy (weight_of top.first address) (weight_of row address) in
      filter-append heavy (top.first ∷ top.others) (lighter rows address top.weight)
      ∙ ap (λ (ys : List Row). ys ++ filter heavy (lighter rows address top.weight)) (filter_all heavy (top.first ∷ top.others) top_heavy)
      ∙ ap (λ (ys : List Row). (top.first ∷ top.others) ++ ys) (filter_none heavy (lighter rows address top.weight) rest_not)
      ∙ append-nil (top.first ∷ top.others)

  both_heavy : (listing : Row → Bool) (row : Row) → is_as_heavy (weight_of top.first address) (weight_of row address) ≡ true
      → (is_as_heavy (weight_of top.first address) (weight_of row address) && listing row) ≡ listing row
  both_heavy listing row e = ap (λ b. b && listing row) e

  pub found_in_top : (listing : Row → Bool)
      → find (λ row. is_as_heavy (weight_of top.first address) (weight_of row address) && listing row) ((top.first ∷ top.others) ++ lighter rows address top.weight) ≡ find listing (top.first ∷ top.others)
  found_in_top listing =
      let heavy : Row → Bool = λ row. is_as_heavy (weight_of top.first address) (weight_of row address) in
      let both : Row → Bool = λ row. heavy row && listing row in
      find-append both (top.first ∷ top.others) (lighter rows address top.weight)
      ∙ ap (λ o. option_or o (find both (lighter rows address top.weight))) (find_agree_on heavy both listing (both_heavy listing) (top.first ∷ top.others) top_heavy)
      ∙ ap (λ o. option_or (find listing (top.first ∷ top.others)) o)
      (find_none both (lighter rows address top.weight)
      (all_weaker (λ row. not (heavy row)) (λ row. not (both row)) (λ row e. not_from_false _ (and_left (heavy row) (listing row) (not-true (heavy row) e))) (lighter rows address top.weight) rest_not))
      ∙ or_nothing (find listing (top.first ∷ top.others))

-- ---- the laws

among_said : (rows : List Row) (address : ℕ) (fs : FsId) (listing : Row → Bool) → Top rows address 35 ⊎ Nothing rows address 35
    → verdict_among fs listing (selected rows address) ≡ said fs address listing (matching rows address)
among_said rows address fs listing (inl top) =
    ap (verdict_among fs listing) (selected_top rows address 35 top)
    ∙ ap (granted_by fs top.first) (sym (found_in_top rows address top listing))
    ∙ ap (said fs address listing) (sym top.are)
among_said rows address fs listing (inr nothing) =
    ap (verdict_among fs listing) (selected-none rows address nothing.none) ∙ ap (said fs address listing) (sym nothing.are)

pub verdicts_are_what_lines_say : VerdictsAreWhatLinesSay
unfolding verdict_of
verdicts_are_what_lines_say content fs address path here blocks =
    let rows = rows_of content fs in
    ap (verdict_in content address path) here
    ∙ among_said rows address (record { 0 = fs }) (lists content fs path) (top_or_nothing rows address 35 (all_below rows address (recursion_from_All (λ (row : Row). HasBlock row.entry.clients) rows blocks)))

heaviest_by : (rows : List Row) (address : ℕ) → Top rows address 35 ⊎ Nothing rows address 35 → filter (is_heaviest (matching rows address) address) (matching rows address) ≡ selected rows address
heaviest_by rows address (inl top) =
    ap (λ (ys : List Row). filter (is_heaviest ys address) ys) top.are ∙ heaviest_of_top rows address top ∙ sym (selected_top rows address 35 top)
heaviest_by rows address (inr nothing) =
    ap (λ (ys : List Row). filter (is_heaviest ys address) ys) nothing.are ∙ sym (selected-none rows address nothing.none)

pub heaviest_are_selected : HeaviestAreSelected
heaviest_are_selected rows address blocks =
    heaviest_by rows address (top_or_nothing rows address 35 (all_below rows address (recursion_from_All (λ (row : Row). HasBlock row.entry.clients) rows blocks)))

pub matching_lines_are_by_weight : MatchingLinesAreByWeight
matching_lines_are_by_weight rows address blocks = record {
  match = all_match rows address 35;
  each = λ weight. each_weight rows address 35 weight (all_below rows address (recursion_from_All (λ (row : Row). HasBlock row.entry.clients) rows blocks));
  order = none_is_heavier rows address 35;
}
