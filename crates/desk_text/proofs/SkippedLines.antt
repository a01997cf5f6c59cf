-- The first character of a logical line that is no blank.
use Rattle.std.proofs.Common.{◌≡◌, ℕ, ◌+◌, ◌<◌, List, [], ◌∷◌, length, get_or, drop, map, find, not, Option, Some, None, refl, sym, ap, ◌∙◌}
use Rattle.std.specs.Option.{option_or}
use Rattle.std.proofs.lemmas.List.{at_drop_more, drop-map}
use Rattle.std.proofs.lemmas.List.Folds.{find-append}
use Rattle.desk_text.specs.declared.lines.Part.{Part}
use Rattle.desk_text.specs.Bytes.{is_blank}
use Rattle.desk_text.specs.Lines.{PhysicalLine, joined_text}
use Rattle.desk_text.specs.Views.{line_of_part}

abbrev first_of : List PhysicalLine → Option ℕ
first_of ps = find (λ b. not (is_blank b)) (joined_text ps)

or_none : (o : Option ℕ) → option_or o None ≡ o
or_none None = refl
or_none (Some x) = refl

first_of_parts : (p : PhysicalLine) (ps : List PhysicalLine) → first_of (p ∷ ps) ≡ option_or (find (λ b. not (is_blank b)) p.text) (first_of ps)
first_of_parts p [] = sym (or_none _)
first_of_parts p (q ∷ qs) = find-append (λ b. not (is_blank b)) p.text (32 ∷ joined_text (q ∷ qs))

module _ (items : List Part) (i : ℕ) (d : Part) (r : Option ℕ) (parts : List PhysicalLine)
    (same : map line_of_part items ≡ parts) (at : i < length items)
    (invariant : first_of (drop i parts) ≡ first_of parts)
    (is : r ≡ find (λ b. not (is_blank b)) (get_or items i d).text.now) where
  pub one_part : first_of parts ≡ option_or r (first_of (drop (i + 1) parts))
  one_part =
      sym invariant ∙ ap (λ ps. first_of (drop i ps)) (sym same) ∙ ap first_of (drop-map line_of_part i items)
      ∙ at_drop_more (λ ps. first_of (map line_of_part ps)) items i d at
      ∙ first_of_parts (line_of_part (get_or items i d)) (map line_of_part (drop (i + 1) items))
      ∙ ap (λ x. option_or x (first_of (map line_of_part (drop (i + 1) items)))) (sym is)
      ∙ ap (λ ps. option_or r (first_of ps)) (sym (drop-map line_of_part (i + 1) items)) ∙ ap (λ ps. option_or r (first_of (drop (i + 1) ps))) same
