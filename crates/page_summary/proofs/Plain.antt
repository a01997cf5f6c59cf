-- The cells of the summary have no picture.
use Rattle.std.proofs.Common.{ℕ, ◌==◌, List, [], ◌∷◌, drop, length, refl, take}
use Rattle.page_html.specs.Items.{AndMore, Break, Line, Own}
use Rattle.page_html.proofs.Plain.{ArePlain, ArePlainCells, both, either_plain, parts, plain_append, plain_cons}
use Rattle.page_findings.proofs.Plain.{finding_plain, level_plain, plain_joined}
use Rattle.page_lists.proofs.Plain.{some_plain}
use Rattle.page_summary.specs.Figures.{facts}
use Rattle.page_summary.specs.Findings as findings
use Rattle.page_summary.specs.Findings.{RowValue, place, places, shared, shared_by, what}
use Rattle.page_summary.specs.FlavoursRows.{FlavoursValue}
use Rattle.page_summary.specs.FlavoursTable as flavours
use Rattle.page_summary.specs.declared.figures.KeyFigures.{KeyFigures}

-- ---- key figures
pub figures_plain : (counted : KeyFigures) → ArePlainCells (facts counted)
figures_plain counted = record { are = refl }

-- ---- the lines that stand out
places_plain : (lines : List RowValue) → ArePlain (places lines)
places_plain lines =
    let more : ArePlain (Own (AndMore (length (drop 4 lines))) ∷ []) = record { are = refl } in
    plain_append (plain_joined place (Own Break) (record { is = refl }) (λ line. record { are = refl }) (take 4 lines)) more

shared_plain : (count : ℕ) → ArePlain (shared count)
shared_plain count = either_plain (count == 1) (parts [] refl) (parts (shared_by count) refl)

what_plain : (first : RowValue) (count : ℕ) → ArePlain (what first count)
what_plain first count =
    let line : ArePlain (Own Break ∷ Line first.text ∷ []) = record { are = refl } in
    plain_append (plain_append (finding_plain first.told.finding) (shared_plain count)) line

-- a cell of literal parts needs no word here: it is computed away
pub finding_cells_plain : (first : RowValue) (all : List RowValue) → ArePlainCells (findings.cells first all)
finding_cells_plain first all = record {
  are = both _ _ (plain_cons (level_plain first.told.finding.level) (parts [] refl)).are
      (both _ _ (places_plain all).are (both _ _ (what_plain first (length all)).are refl));
}

-- ---- flavours

pub flavours_plain : (row : FlavoursValue) → ArePlainCells (flavours.cells row)
flavours_plain row = record { are = both _ _ (some_plain 12 row.systems).are refl }
