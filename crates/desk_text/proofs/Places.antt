-- Places on the physical lines of a logical line.
use Rattle.std.proofs.Common.{◌≡◌, ℕ, ◌+◌, ◌-◌, ◌<◌, List, [], ◌∷◌, inl, inr, length, take, drop, map, get_or, Some, None, refl, zero, suc, sym, ap, subst, ◌∙◌, arith}
use Rattle.std.specs.List.{All, IsAmong, slice_get}
use Rattle.std.specs.Option.{option_map}
use Rattle.std.specs.Str.Lines.{lines}
use Rattle.std.proofs.lemmas.List.{get_or-take, get_or-drop, get_or-map, length-take, length-drop, length-map}
use Rattle.std.proofs.lemmas.Option.{get_or_from_slice_get, slice_get-get_or, slice_get_within}
use Rattle.std.proofs.lemmas.Bool.{cases_lt}
use Rattle.std.proofs.lemmas.Str.{IsCharBoundary-end, IsCharBoundary-start}
use Rattle.std.specs.Str.{IsUtf8}
use Rattle.desk_text.specs.Lines.{LogicalLine, PhysicalLine, logical_lines, physical_lines}
use Rattle.desk_text.specs.Place.{HasSlice, IsOfLine, IsPlaceOf, LiesIn, LiesWithin, line_at, place_on}
use Rattle.desk_text.specs.PrivatePlace.{IsOnPart}
use Rattle.desk_text.specs.Views.{line_of_part}
use Rattle.desk_text.specs.declared.lines.Part.{Part}
use Rattle.desk_text.specs.declared.place.Place.{Place}
use Rattle.desk_text.proofs.LineLaws.{lines_are_numbered, lines_counted, lines_filled, physical_lines_are_lines}

-- what holds of all, holds of one of them
holds_among : {X : Type 0} (P : X → Type 0) (xs : List X) (x : X) → All P xs → IsAmong xs x → P x
holds_among P xs x all at = subst P (sym at.1.1) (all at.0 x at.1.0)

pub is_filled : (text : List ℕ) (line : LogicalLine) → IsAmong (logical_lines text) line → 0 < length line.parts
is_filled text line among = holds_among (λ (l : LogicalLine). 0 < length l.parts) (logical_lines text) line (lines_filled text) among

-- an element of a part of a list stands in the list
at_part : {X : Type 0} (all part : List X) (from i : ℕ) (d : X) → take (length part) (drop from all) ≡ part → i < length part
    → (from + i < length all) × (get_or all (from + i) d ≡ get_or part i d)
at_part all part from i d is lt = (
  omega (arith, ap length is, length-take (length part) (drop from all), length-drop from all),
  sym (ap (λ xs. get_or xs i d) (sym is) ∙ get_or-take (length part) (drop from all) i d lt ∙ get_or-drop from all i d),
)

pub on_part_lies : (text : List ℕ) (line : LogicalLine) (place : Place) → IsAmong (logical_lines text) line → IsOnPart line place → LiesIn text place
on_part_lies text line place among on =
    let within : on.index < length line.parts = slice_get_within line.parts on.index on.part on.there in
    let some : 0 < line.number = holds_among (λ (l : LogicalLine). 0 < l.number) (logical_lines text) line (lines_counted text) among in
    let stands : take (length line.parts) (drop (line.number - 1) (physical_lines text)) ≡ line.parts =
    holds_among (λ (l : LogicalLine). take (length l.parts) (drop (l.number - 1) (physical_lines text)) ≡ l.parts) (logical_lines text) line (lines_are_numbered text) among in
    let at = at_part (physical_lines text) line.parts (line.number - 1) on.index on.part stands within in
    let whole : get_or (map (λ (p : PhysicalLine). p.whole) (physical_lines text)) (line.number - 1 + on.index) [] ≡ on.part.whole =
    get_or-map (λ (p : PhysicalLine). p.whole) (physical_lines text) (line.number - 1 + on.index) on.part [] at.0
    ∙ ap (λ (p : PhysicalLine). p.whole) (at.1 ∙ get_or_from_slice_get line.parts on.index on.part on.part on.there) in
    let number : line.number - 1 + on.index ≡ place.line - 1 = omega (arith, on.number) in
    let is : on.part.whole ≡ line_at text place.line = sym whole ∙ ap (λ ls. get_or ls (line.number - 1 + on.index) []) (physical_lines_are_lines text) ∙ ap (λ n. get_or (lines text) n []) number in
    record {
      counted = omega (arith, on.number);
      exists = omega (arith, on.number, at.0, sym (length-map (physical_lines text) (λ (p : PhysicalLine). p.whole)) ∙ ap length (physical_lines_are_lines text));
      within = subst (λ l. LiesWithin l place) is on.within;
    }

pub on_part_own : (line : LogicalLine) (place : Place) → IsOnPart line place → IsOfLine line place
on_part_own line place on =
    let within : on.index < length line.parts = slice_get_within line.parts on.index on.part on.there in
    record { from = omega (arith, on.number); to = omega (arith, on.number) }

pub none_first : {X : Type 0} (xs : List X) → None ≡ slice_get xs 0 → length xs ≡ 0
none_first [] e = refl
none_first (x ∷ xs) e = absurd (cc)

-- a part that is lent, among the physical lines
pub part_at : (parts : List Part) (all : List PhysicalLine) (i : ℕ) (part : Part) → map line_of_part parts ≡ all → slice_get parts i ≡ Some part → slice_get all i ≡ Some (line_of_part part)
part_at parts all i part is there = ap (λ ls. slice_get ls i) (sym is) ∙ of_map parts i there
  where
    of_map : (parts : List Part) (i : ℕ) → slice_get parts i ≡ Some part → slice_get (map line_of_part parts) i ≡ Some (line_of_part part)
    of_map [] i e = absurd (cc)
    of_map (p ∷ ps) zero e = ap (option_map line_of_part) e
    of_map (p ∷ ps) (suc i) e = of_map ps i e

pub whole_line : (line : ℕ) (text : List ℕ) → IsUtf8 text → LiesWithin text (record { line = line; start = 0; end = length text })
whole_line line text utf8 = record {
  ordered = omega arith;
  begins = IsCharBoundary-start text utf8;
  ends = IsCharBoundary-end text;
}

-- the place of a slice that this part has
pub place_of_part : (line : LogicalLine) (parts : List Part) (number i start end : ℕ) (d : Part) → map line_of_part parts ≡ line.parts → number ≡ line.number → i < length parts
    → HasSlice (line_of_part (get_or parts i d)) start end
    → IsPlaceOf line start end (record { line = number + i; start = start - (get_or parts i d).start; end = end - (get_or parts i d).start })
place_of_part line parts number i start end d are is within has = record {
  index = i;
  part = line_of_part (get_or parts i d);
  there = part_at parts line.parts i (get_or parts i d) are (slice_get-get_or parts i d within);
  has = has;
  is = ap (λ n. place_on (n + i) (line_of_part (get_or parts i d)) start end) is;
}

pub place_on_part : (line : LogicalLine) (start end : ℕ) (place : Place) → IsPlaceOf line start end place → IsOnPart line place
place_on_part line start end place at = record {
  index = at.index;
  part = at.part;
  there = at.there;
  number = ap (λ (p : Place). p.line) at.is;
  within = subst (λ p. LiesWithin at.part.whole p) (sym at.is) (record { ordered = omega (arith, at.has.ordered); begins = at.has.begins; ends = at.has.ends });
}

-- another part that has no such slice
pub none_so_far : (line : LogicalLine) (parts : List Part) (start end i : ℕ) (d : Part) → map line_of_part parts ≡ line.parts → i < length parts
    → ((k : ℕ) (part : PhysicalLine) → k < i → slice_get line.parts k ≡ Some part → HasSlice part start end → ⊥)
    → (HasSlice (line_of_part (get_or parts i d)) start end → ⊥)
    → (k : ℕ) (part : PhysicalLine) → k < i + 1 → slice_get line.parts k ≡ Some part → HasSlice part start end → ⊥
none_so_far line parts start end i d are within below here k part lt there has =
    elim (cases_lt k i) [
      | inl before ↦ below k part before there has
      | inr from ↦
          let at : slice_get line.parts i ≡ Some (line_of_part (get_or parts i d)) = part_at parts line.parts i (get_or parts i d) are (slice_get-get_or parts i d within) in
          let same : k ≡ i = omega arith in
          let both : Some part ≡ Some (line_of_part (get_or parts i d)) = sym there ∙ ap (slice_get line.parts) same ∙ at in
          let is : part ≡ line_of_part (get_or parts i d) = cc in
          here (subst (λ p. HasSlice p start end) is has)
    ]
