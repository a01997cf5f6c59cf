-- The cells of a network so far, with one more; and all of them.
use Rattle.std.proofs.Common.{◌≡◌, ℕ, ◌+◌, ◌<◌, ◌≤◌, ◌^◌, List, [], ◌∷◌, ◌++◌, arith, get_or, inl, inr, length, map, subst, sym}
use Rattle.std.proofs.lemmas.Bool.{cases_lt}
use Rattle.std.proofs.lemmas.List.{get_or_append_left, get_or_push}
use Rattle.desk_text.specs.Network.{Block, last_of}
use Rattle.desk_who.specs.Runs.{AreRuns}
use Rattle.page_data.specs.Classes.{class_run}
use Rattle.page_data.specs.declared.class.Class.{Class}
use Rattle.page_maps.specs.Cells.{AreCells, AreLeastAndMost, cell_first, cell_last}
use Rattle.page_maps.specs.PrivateCells.{AreMet, TellClasses}
use Rattle.page_maps.specs.declared.cells.Cell.{Cell}
use Rattle.page_maps.proofs.Gridding.{cell_within}
use Rattle.page_maps.proofs.Telling.{Kept, tells}

-- the runs tell the classes of each part of a range of which they tell them
pub narrower : (class_at : ℕ → Class) (low first last high : ℕ) (runs : List Kept) → low ≤ first → last ≤ high → TellClasses class_at low high runs → TellClasses class_at first last runs
narrower class_at low first last high runs le le' tell = record {
  firsts = tell.firsts;
  lasts = tell.lasts;
  values = tell.values;
  complete = λ address from to. tell.complete address (omega arith) (omega arith);
}

-- each cell so far has what its addresses may
abbrev pub SoFar : Block → List Kept → List Cell → ℕ → Type 0
SoFar network own cells count =
    (class_at : ℕ → Class) → TellClasses class_at network.first (last_of network) own → (number : ℕ) (default : Cell) → number < count
    → AreLeastAndMost class_at (cell_first network number) (cell_last network number) (get_or cells number default)

module _ (network : Block) (wide : network.prefix ≤ 24) (own : List Kept) where
  -- what is found for one cell, by its first and last address
  abbrev pub Found : ℕ → ℕ → Cell → Type 0
  Found first last cell = (class_at : ℕ → Class) → TellClasses class_at first last own → AreLeastAndMost class_at first last cell

  pub one_more_cell : (cells new : List Cell) (cell : Cell) (number first last : ℕ) → number < 256 → length cells ≡ number → new ≡ cells ++ cell ∷ [] → first ≡ cell_first network number
      → last ≡ cell_last network number → Found first last cell → SoFar network own cells number → SoFar network own new (number + 1)
  one_more_cell cells new cell number first last few count pushed first_is last_is found so_far class_at tell at default less =
      subst (λ all. AreLeastAndMost class_at (cell_first network at) (cell_last network at) (get_or all at default)) (sym pushed)
      (elim (cases_lt at number) as (λ _. AreLeastAndMost class_at (cell_first network at) (cell_last network at) (get_or (cells ++ cell ∷ []) at default)) [
        | inl before ↦ subst (AreLeastAndMost class_at (cell_first network at) (cell_last network at)) (sym (get_or_append_left cells (cell ∷ []) default at (omega arith))) (so_far class_at tell at default before)
        | inr le ↦
            let same : number ≡ at = omega arith in
            let within = cell_within network number wide few in
            let from : network.first ≤ cell_first network number = omega arith in
            let own_cell = found class_at (narrower class_at network.first first last (last_of network) own (omega arith) (omega arith) tell) in
            subst (λ n. AreLeastAndMost class_at (cell_first network n) (cell_last network n) (get_or (cells ++ cell ∷ []) n default)) same
            (subst (AreLeastAndMost class_at (cell_first network number) (cell_last network number)) (sym (get_or_push cells cell default number count))
            (subst (λ n. AreLeastAndMost class_at (cell_first network number) n cell) last_is (subst (λ n. AreLeastAndMost class_at n last cell) first_is own_cell)))
      ])

  pub are_cells : (runs : List Kept) (cells : List Cell) → length cells ≡ 256 → last_of network < 2 ^ 32 → ((class_at : ℕ → Class) → TellClasses class_at network.first (last_of network) runs → AreMet class_at network.first (last_of network) own)
      → SoFar network own cells 256 → (class_at : ℕ → Class) → AreRuns class_at (map class_run runs) → AreCells class_at network cells
  are_cells runs cells count fits met so_far class_at are = record {
    count = count;
    each = so_far class_at (met class_at (tells class_at runs are network.first (last_of network) fits)).tell;
  }
