-- Laws of physical and logical lines.
use Rattle.std.proofs.Common.{◌≡◌, inl, inr, cond, min, ℕ, suc, ◌+◌, ◌-◌, ◌<◌, ◌≤◌, Bool, true, false, not, eqb, List, [], ◌∷◌, ◌++◌, length, take, drop, map, get_or, refl, sym, ap, subst, ◌∙◌, append_assoc, length-append, arith}
use Rattle.std.specs.List.{AllByRecursion, AllPairs, All, flat_map, slice_split, join_with_byte, onto_first, suffix_len}
use Rattle.std.specs.Str.Lines.{lines_of_parts, strip_carriage_return}
use Rattle.std.proofs.lemmas.Bool.{cond_both, cases_lt}
use Rattle.std.proofs.lemmas.List.{append-nil, take-take, take_all, take-append-le, length-take, length-take-le}
use Rattle.std.proofs.Math.Seq.{drop-append_seam, take-length}
use Rattle.std.proofs.lemmas.List.Elements.{All-cons, All-filter}
use Rattle.std.proofs.lemmas.List.Kept.{AllPairs-cons, AllPairs-filter}
use Rattle.std.proofs.lemmas.List.Splits.{join_with_byte-slice_split}
use Rattle.desk_text.specs.Bytes.{is_blank}
use Rattle.desk_text.specs.Lines.{PhysicalLine, physical_line, physical_lines_from, physical_lines, LogicalLine, is_continued, groups, numbered, kept, is_skipped, logical_lines}
use Rattle.desk_text.specs.Laws.{Slice, AreSlices, whole_slice, text_slice, parts_of, PhysicalLinesAreLines, LinesAreNumbered, LinesAscend, PartsAreSlices}
use Rattle.desk_text.proofs.GroupsAreUnique.{all_lines}

wholes : (start : ℕ) (parts : List (List ℕ)) → map (λ (part : PhysicalLine). part.whole) (physical_lines_from start parts) ≡ lines_of_parts parts
wholes start [] = refl
wholes start (part ∷ []) = either (eqb (length part) 0)
  where
    either : (b : Bool) → map (λ (p : PhysicalLine). p.whole) (cond b [] (physical_line start part ∷ [])) ≡ cond b [] (part ∷ [])
    either true = refl
    either false = refl
wholes start (part ∷ next ∷ parts) = ap (λ ls. strip_carriage_return part ∷ ls) (wholes (start + length part + 1) (next ∷ parts))

pub physical_lines_are_lines : PhysicalLinesAreLines
physical_lines_are_lines text = wholes 0 (slice_split (λ b. eqb b 10) text)

-- each group has a line
abbrev AreFilled : List (List PhysicalLine) → Type 0
AreFilled gs = AllByRecursion (λ (g : List PhysicalLine). 0 < length g) gs

onto_filled : (line : PhysicalLine) (gs : List (List PhysicalLine)) → AreFilled gs → AreFilled (onto_first line gs)
onto_filled line [] h = (omega arith, tt)
onto_filled line (g ∷ gs) h = (omega arith, h.1)

groups_filled : (lines : List PhysicalLine) → AreFilled (groups lines)
groups_filled [] = tt
groups_filled (line ∷ lines) =
    let rest = groups_filled lines in
    cond_both (is_continued line.whole) (onto_first line (groups lines)) ((line ∷ []) ∷ groups lines) (λ gs. AreFilled gs) (λ _. onto_filled line (groups lines) rest) (λ _. (omega arith, rest))

from_number : (low number : ℕ) (gs : List (List PhysicalLine)) → low ≤ number → All (λ (line : LogicalLine). low ≤ line.number) (numbered number gs)
from_number low number [] h = λ i d l. absurd (omega arith)
from_number low number (g ∷ gs) h = All-cons (λ (line : LogicalLine). low ≤ line.number) _ (numbered (number + length g) gs) h (from_number low (number + length g) gs (omega arith))

ascend : (number : ℕ) (gs : List (List PhysicalLine)) → AreFilled gs → AllPairs (λ (line later : LogicalLine). line.number < later.number) (numbered number gs)
ascend number [] h = λ i j d l k. absurd (omega arith)
ascend number (g ∷ gs) h =
    AllPairs-cons (λ (line later : LogicalLine). line.number < later.number) (record { number = number; parts = g }) (numbered (number + length g) gs)
    (from_number (suc number) (number + length g) gs (omega (arith, h.0))) (ascend (number + length g) gs h.1)

pub lines_ascend : LinesAscend
lines_ascend text =
    AllPairs-filter (λ (line later : LogicalLine). line.number < later.number) (λ line. not (is_skipped line)) (numbered 1 (groups (physical_lines text)))
    (ascend 1 (groups (physical_lines text)) (groups_filled (physical_lines text)))

-- the numbers of the lines begin with 1
pub lines_counted : (text : List ℕ) → All (λ (line : LogicalLine). 0 < line.number) (logical_lines text)
lines_counted text = All-filter (λ line. not (is_skipped line)) (λ (line : LogicalLine). 0 < line.number) (numbered 1 (groups (physical_lines text))) (from_number 1 1 (groups (physical_lines text)) (omega arith))

numbered_filled : (number : ℕ) (gs : List (List PhysicalLine)) → AreFilled gs → All (λ (line : LogicalLine). 0 < length line.parts) (numbered number gs)
numbered_filled number [] h = λ i d l. absurd (omega arith)
numbered_filled number (g ∷ gs) h = All-cons (λ (line : LogicalLine). 0 < length line.parts) (record { number = number; parts = g }) (numbered (number + length g) gs) h.0 (numbered_filled (number + length g) gs h.1)

-- each line has a physical line
pub lines_filled : (text : List ℕ) → All (λ (line : LogicalLine). 0 < length line.parts) (logical_lines text)
lines_filled text = All-filter (λ line. not (is_skipped line)) (λ (line : LogicalLine). 0 < length line.parts) (numbered 1 (groups (physical_lines text))) (numbered_filled 1 (groups (physical_lines text)) (groups_filled (physical_lines text)))

-- the physical lines of a line that stand from its number on
abbrev StandsAt : List PhysicalLine → LogicalLine → Type 0
StandsAt all line = take (length line.parts) (drop (line.number - 1) all) ≡ line.parts

stand_from : (front : List PhysicalLine) (number : ℕ) (gs : List (List PhysicalLine)) → number ≡ length front + 1
    → All (StandsAt (front ++ flat_map (λ g. g) gs)) (numbered number gs)
stand_from front number [] at = λ i d l. absurd (omega arith)
stand_from front number (g ∷ gs) at =
    let rest : List PhysicalLine = flat_map (λ g. g) gs in
    let before : number - 1 ≡ length front = omega arith in
    let own : StandsAt (front ++ (g ++ rest)) (record { number = number; parts = g }) =
    ap (λ k. take (length g) (drop k (front ++ (g ++ rest)))) before ∙ ap (take (length g)) (drop-append_seam front (g ++ rest))
    ∙ take-append-le (length g) g rest (omega arith) ∙ take-length g in
    let behind : number + length g ≡ length (front ++ g) + 1 = omega (arith, length-append front g) in
    All-cons (StandsAt (front ++ (g ++ rest))) (record { number = number; parts = g }) (numbered (number + length g) gs) own
    (subst (λ all. All (StandsAt all) (numbered (number + length g) gs)) (append_assoc front g rest) (stand_from (front ++ g) (number + length g) gs behind))

pub lines_are_numbered : LinesAreNumbered
lines_are_numbered text =
    All-filter (λ line. not (is_skipped line)) (StandsAt (physical_lines text)) (numbered 1 (groups (physical_lines text)))
    (subst (λ all. All (StandsAt all) (numbered 1 (groups (physical_lines text)))) (all_lines (physical_lines text)) (stand_from [] 1 (groups (physical_lines text)) refl))

-- slices may begin later than they must
pub AreSlices-weaken : (text : List ℕ) (low low' high : ℕ) (ss : List Slice) → low ≤ low' → AreSlices text low' high ss → AreSlices text low high ss
AreSlices-weaken text low low' high [] h s = omega arith
AreSlices-weaken text low low' high (x ∷ ss) h s = (omega (arith, s.0), s.1, s.2)

-- a front of a list is what as many of its elements give
pub take-length-take : (n : ℕ) (xs : List ℕ) → take (length (take n xs)) xs ≡ take n xs
take-length-take n xs =
    elim (cases_lt (length xs) n) [
      | inl lt ↦ let all : take n xs ≡ xs = take_all n xs (omega arith) in ap (λ t. take (length t) xs) all ∙ take-length xs ∙ sym all
      | inr le ↦ ap (λ k. take k xs) (length-take-le n xs le)
    ]

pub length-take-within : (n : ℕ) (xs : List ℕ) → length (take n xs) ≤ length xs
length-take-within n xs = omega (arith, length-take n xs)

-- a front of what stands behind another front
pub slice-front : (front part after : List ℕ) (n : ℕ) → take (length (take n part)) (drop (length front) (front ++ (part ++ after))) ≡ take n part
slice-front front part after n =
    ap (take (length (take n part))) (drop-append_seam front (part ++ after)) ∙ take-append-le (length (take n part)) part after (length-take-within n part) ∙ take-length-take n part

-- how the slice of a physical line is made: at its start, of a front of the line
pub record IsFront (w : PhysicalLine → Slice) : Type 0 where
  pub start : (s : ℕ) (line : List ℕ) → (w (physical_line s line)).start ≡ s
  pub size : List ℕ → ℕ
  pub bytes : (s : ℕ) (line : List ℕ) → (w (physical_line s line)).bytes ≡ take (size line) line

whole_front : IsFront whole_slice
whole_front = record { start = λ s line. refl; size = length; bytes = λ s line. sym (take-length line) }

text_front : IsFront text_slice
text_front = record {
  start = λ s line. refl;
  size = λ line. cond (is_continued line) (length line - suffix_len is_blank line - 1) (length line);
  bytes = λ s line. by_cases (is_continued line) (length line - suffix_len is_blank line - 1) line;
}
  where
    by_cases : (b : Bool) (n : ℕ) (line : List ℕ) → cond b (take n line) line ≡ take (cond b n (length line)) line
    by_cases true n line = refl
    by_cases false n line = sym (take-length line)

-- the line without a carriage return is a front of it
strip_size : (line : List ℕ) → (n : ℕ) × (strip_carriage_return line ≡ take n line)
strip_size line =
    cond_both (eqb (get_or line (length line - 1) 0) 13) (take (length line - 1) line) line (λ t. (n : ℕ) × (t ≡ take n line))
    (λ _. (length line - 1, refl)) (λ _. (length line, sym (take-length line)))

module _ (w : PhysicalLine → Slice) (f : IsFront w) (text : List ℕ) where
  -- the slice of a physical line that stands behind a front of the text, and is a front of a part there
  at_front : (front part after : List ℕ) (line : List ℕ) (n : ℕ) → text ≡ front ++ (part ++ after) → line ≡ take n part
      → (w (physical_line (length front) line)).start ≡ length front
      × (take (length (w (physical_line (length front) line)).bytes) (drop (w (physical_line (length front) line)).start text) ≡ (w (physical_line (length front) line)).bytes)
      × (length (w (physical_line (length front) line)).bytes ≤ length part)
  at_front front part after line n e cut =
      let bytes = f.bytes (length front) line in
      let start = f.start (length front) line in
      let short : take (f.size line) line ≡ take (min (f.size line) n) part = ap (take (f.size line)) cut ∙ take-take' (f.size line) n part in
      let is : (w (physical_line (length front) line)).bytes ≡ take (min (f.size line) n) part = bytes ∙ short in (
        start,
        ap (λ s. take (length (w (physical_line (length front) line)).bytes) (drop s text)) start
            ∙ ap (λ bs. take (length bs) (drop (length front) text)) is ∙ ap (λ t. take (length (take (min (f.size line) n) part)) (drop (length front) t)) e
            ∙ slice-front front part after (min (f.size line) n) ∙ sym is,
        omega (arith, ap length is, length-take-within (min (f.size line) n) part),
      )
    where
      take-take' : (a b : ℕ) (xs : List ℕ) → take a (take b xs) ≡ take (min a b) xs
      take-take' a b xs =
          elim (cases_lt a b) [
            | inl lt ↦ let least : a ≡ min a b = omega arith in take-take a b xs (omega arith) ∙ ap (λ k. take k xs) least
            | inr le ↦ let least : b ≡ min a b = omega arith in take_all a (take b xs) (omega (arith, length-take b xs)) ∙ ap (λ k. take k xs) least
          ]

  slices_from : (parts : List (List ℕ)) (front : List ℕ) → text ≡ front ++ join_with_byte 10 parts → AreSlices text (length front) (length text) (map w (physical_lines_from (length front) parts))
  slices_from [] front e = omega (arith, ap length e, length-append front [])
  slices_from (part ∷ []) front e =
      let long : length text ≡ length front + length part = ap length e ∙ length-append front part in
      let at = at_front front part [] part (length part) (e ∙ ap (λ t. front ++ t) (sym (append-nil part))) (sym (take-length part)) in
      cond_both (eqb (length part) 0) [] (physical_line (length front) part ∷ []) (λ ps. AreSlices text (length front) (length text) (map w ps))
      (λ _. omega arith) (λ _. (omega (arith, at.0), at.1, omega (arith, at.0, at.2)))
  slices_from (part ∷ next ∷ parts) front e =
      let cut = strip_size part in
      let line : List ℕ = strip_carriage_return part in
      let at = at_front front part (10 ∷ join_with_byte 10 (next ∷ parts)) line cut.0 e cut.1 in
      let behind : (front ++ part) ++ 10 ∷ [] ≡ front ++ (part ++ 10 ∷ []) = append_assoc front part (10 ∷ []) in
      let size : length ((front ++ part) ++ 10 ∷ []) ≡ length front + length part + 1 = omega (arith, length-append (front ++ part) (10 ∷ []), length-append front part) in
      let same : text ≡ ((front ++ part) ++ 10 ∷ []) ++ join_with_byte 10 (next ∷ parts) =
      e ∙ sym (append_assoc (front ++ part) (10 ∷ []) (join_with_byte 10 (next ∷ parts)) ∙ append_assoc front part (10 ∷ join_with_byte 10 (next ∷ parts))) in
      let more = slices_from (next ∷ parts) ((front ++ part) ++ 10 ∷ []) same in (
        omega (arith, at.0),
        at.1,
        AreSlices-weaken text _ (length front + length part + 1) (length text) _ (omega (arith, at.0, at.2))
            (subst (λ k. AreSlices text k (length text) (map w (physical_lines_from k (next ∷ parts)))) size more),
      )

  -- what follows a front that is left out
  without_front : (group rest : List PhysicalLine) (low high : ℕ) → AreSlices text low high (map w (group ++ rest)) → AreSlices text low high (map w rest)
  without_front [] rest low high h = h
  without_front (p ∷ group) rest low high h =
      AreSlices-weaken text low ((w p).start + length (w p).bytes) high (map w rest) (omega (arith, h.0)) (without_front group rest ((w p).start + length (w p).bytes) high h.2)

  -- other slices behind the same front
  behind_front : (group rest rest' : List PhysicalLine) (high : ℕ) → ((low : ℕ) → AreSlices text low high (map w rest) → AreSlices text low high (map w rest'))
      → (low : ℕ) → AreSlices text low high (map w (group ++ rest)) → AreSlices text low high (map w (group ++ rest'))
  behind_front [] rest rest' high f low h = f low h
  behind_front (p ∷ group) rest rest' high f low h = (h.0, h.1, behind_front group rest rest' high f ((w p).start + length (w p).bytes) h.2)

  -- the slices of the groups that are kept
  kept_slices : (gs : List (List PhysicalLine)) (number low high : ℕ) → AreSlices text low high (map w (flat_map (λ g. g) gs)) → AreSlices text low high (map w (parts_of (kept (numbered number gs))))
  kept_slices [] number low high h = h
  kept_slices (g ∷ gs) number low high h =
      let line : LogicalLine = record { number = number; parts = g } in
      let rest : List LogicalLine = kept (numbered (number + length g) gs) in
      cond_both (not (is_skipped line)) (line ∷ rest) rest (λ ls. AreSlices text low high (map w (parts_of ls)))
      (λ _. behind_front g (flat_map (λ g. g) gs) (parts_of rest) high (λ l k. kept_slices gs (number + length g) l high k) low h)
      (λ _. kept_slices gs (number + length g) low high (without_front g (flat_map (λ g. g) gs) low high h))

  pub logical_slices : AreSlices text 0 (length text) (map w (parts_of (logical_lines text)))
  logical_slices =
      let whole : text ≡ join_with_byte 10 (slice_split (λ b. eqb b 10) text) = sym (join_with_byte-slice_split 10 text) in
      kept_slices (groups (physical_lines text)) 1 0 (length text)
      (subst (λ ps. AreSlices text 0 (length text) (map w ps)) (sym (all_lines (physical_lines text))) (slices_from (slice_split (λ b. eqb b 10) text) [] whole))

pub parts_are_slices : PartsAreSlices
parts_are_slices text = (logical_slices whole_slice whole_front text, logical_slices text_slice text_front text)
