-- What is lent, made again of its value.
use Rattle.std.proofs.Common.{◌≡◌, Bor, List, [], ◌∷◌, ap, map, refl}
use Rattle.page_html.specs.Ranges.{ends_of}
use Rattle.page_html.specs.declared.ranges.Span.{Span}
use Rattle.page_lists.specs.NameCells.{span_of}

-- a value, lent
abbrev pub lend : {T : Type 0} → T → Bor T
lend x = record { ref_ptr = (0, 0); now = x }

-- ranges, made again of their ends
pub spans_again : (spans : List Span) → spans ≡ map span_of (map ends_of spans)
spans_again [] = refl
spans_again (span ∷ spans) = ap (λ others. span ∷ others) (spans_again spans)
