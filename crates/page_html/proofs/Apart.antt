-- Pages that differ in one text alone.
use Rattle.std.proofs.Common.{◌≡◌, ℕ, List, ◌∷◌, ◌++◌, ◌∙◌, sym}
use Rattle.std.proofs.lemmas.List.{append_cancel_left, append_cancel_right}
use Rattle.page_html.specs.TextLaws.{NoTextIsMarkup, TextsAreToldApart}
use Rattle.page_html.specs.Laws.{PagesAreMadeOfPieces}
use Rattle.page_html.specs.Pages.{Piece, Attribute, Shown, ShownLine, html, piece_html}
use Rattle.page_html.proofs.Made.{html_append, page_made}
use Rattle.page_html.proofs.Replaced.{page_replaced}

same_piece : (before behind : List (Piece (List ℕ))) (one other : Piece (List ℕ)) → html (before ++ one ∷ behind) ≡ html (before ++ other ∷ behind)
    → piece_html one ≡ piece_html other
unfolding html
same_piece before behind one other same =
    append_cancel_right (piece_html one) (piece_html other) (html behind)
    (append_cancel_left (html before) (piece_html one ++ html behind) (piece_html other ++ html behind)
    (sym (html_append before (one ∷ behind)) ∙ same ∙ html_append before (other ∷ behind)))

pub pages_are_made_of_pieces : NoTextIsMarkup → TextsAreToldApart → PagesAreMadeOfPieces
pages_are_made_of_pieces free told = record {
  made = page_made;
  own = λ f page. sym (page_replaced f page);
  free = free;
  apart = λ before behind text other utf8 utf8' same. told.texts text other utf8 utf8' (same_piece before behind (Shown text) (Shown other) same);
  lines_apart = λ before behind text other utf8 utf8' same. told.lines text other utf8 utf8' (same_piece before behind (ShownLine text) (ShownLine other) same);
  attributes_apart = λ before behind text other utf8 utf8' same.
      told.attributes text other utf8 utf8' (same_piece before behind (Attribute text) (Attribute other) same);
}
