use Rattle.std.proofs.Common.{◌≡◌, ◌++◌, ◌∙◌, cond, List, [], ◌∷◌, ap, map, sym}
use Rattle.std.specs.Prelude.{filter}
use Rattle.std.proofs.lemmas.List.{append_assoc, map-append}
use Rattle.page_data.specs.Rows.{RowValue, row_value}
use Rattle.page_data.specs.Tables.{grants_row}
use Rattle.page_data.proofs.Tabled.{one_row}
use Rattle.page_data.proofs.tables.granting.Goals as goal

-- the next row goes from what is left to what was read
one_more : {X : Type 0} (done left rest all : List X) (x : X) → left ≡ x ∷ rest → done ++ left ≡ all → (done ++ x ∷ []) ++ rest ≡ all
one_more done left rest all x e h = append_assoc done (x ∷ []) rest ∙ ap (λ xs. done ++ xs) (sym e) ∙ h

pub loop-row-preserved : goal.loop-row-preserved
loop-row-preserved c =
    let row = row_value c.in-Some.row in
    record {
      rows = one_more c.loop-row.yielded _ c.next.new.self.rest.items _ c.in-Some.row c.in-Some.ensures.steps.0 c.loop-row.invariant.rows;
      kept = c.in_ok-push_row.ensures ∙ ap (λ (rows : List RowValue). rows ++ cond (grants_row row) (row ∷ []) []) c.loop-row.invariant.kept ∙ sym (one_row (map row_value c.loop-row.yielded) row)
          ∙ ap (filter grants_row) (sym (map-append row_value c.loop-row.yielded (c.in-Some.row ∷ [])));
    }
