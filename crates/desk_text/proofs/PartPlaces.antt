-- Where the parts of a line lie.
use Rattle.std.proofs.Common.{◌≡◌, ℕ, ◌+◌, ◌-◌, ◌<◌, ◌≤◌, ◌^◌, List, [], ◌∷◌, ◌++◌, length, get_or, take, map, sym, ap, subst, ◌∙◌, arith}
use Rattle.std.specs.List.{suffix_len}
use Rattle.desk_text.specs.Bytes.{is_blank}
use Rattle.std.proofs.lemmas.Bool.{cond_both}
use Rattle.std.proofs.lemmas.List.{get_or-map, map_push, length-map, length-take}
use Rattle.std.proofs.lemmas.List.Elements.{All-push}
use Rattle.desk_text.specs.declared.lines.Part.{Part}
use Rattle.desk_text.specs.Lines.{PhysicalLine, physical_line, ArePlaced, is_continued, without_continuation}
use Rattle.desk_text.specs.Views.{line_of_part}

abbrev IsPlaced : PhysicalLine → Type 0
IsPlaced part = part.start + length part.text < 2 ^ 32

length-without_continuation : (line : List ℕ) → length (without_continuation line) ≤ length line
length-without_continuation line =
    cond_both (is_continued line) (take (length line - suffix_len is_blank line - 1) line) line (λ t. length t ≤ length line)
    (λ _. omega (arith, length-take (length line - suffix_len is_blank line - 1) line)) (λ _. omega arith)

-- one more part
pub placed-push : (old new : List Part) (part : Part) → new ≡ old ++ part ∷ [] → IsPlaced (line_of_part part) → ArePlaced (map line_of_part old) → ArePlaced (map line_of_part new)
placed-push old new part e at h = subst (λ ps. ArePlaced ps) (sym (ap (map line_of_part) e ∙ map_push line_of_part old part)) (All-push IsPlaced (map line_of_part old) (line_of_part part) h at)

pub placed-made : (part : Part) (start : ℕ) (line : List ℕ) → line_of_part part ≡ physical_line start line → start + length line < 2 ^ 32 → part.start + length part.text.now < 2 ^ 32
placed-made part start line same at =
    let le = length-without_continuation line in
    let p : IsPlaced (physical_line start line) = omega arith in
    subst (λ q. IsPlaced q) (sym same) p

pub placed-at : (parts : List Part) (i : ℕ) (d : Part) → i < length parts → ArePlaced (map line_of_part parts) → (get_or parts i d).start + length (get_or parts i d).text.now < 2 ^ 32
placed-at parts i d lt h =
    let at = get_or-map line_of_part parts i d (line_of_part d) lt in
    let p : IsPlaced (get_or (map line_of_part parts) i (line_of_part d)) = h i (line_of_part d) (omega (arith, length-map parts line_of_part)) in
    subst (λ q. IsPlaced q) at p

pub fits-at : (items : List Part) (parts : List PhysicalLine) (i : ℕ) (d : Part) → map line_of_part items ≡ parts → i < length items → ArePlaced parts → (get_or items i d).start + length (get_or items i d).text.now < 2 ^ 64
fits-at items parts i d same lt h =
    let low = placed-at items i d lt (subst (λ ps. ArePlaced ps) (sym same) h) in
    omega arith
