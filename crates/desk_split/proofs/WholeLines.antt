-- The logical lines of a text by its lines alone: neither their numbers nor their places matter.
use Rattle.std.proofs.Common.{◌≡◌, ℕ, ◌+◌, Bool, true, false, not, cond, eqb, List, [], ◌∷◌, filter, length, map, refl, ap, ◌∙◌}
use Rattle.std.specs.List.{AllByRecursion, join_with_byte, onto_first, slice_split}
use Rattle.std.specs.Str.Lines.{lines, lines_of_parts, strip_carriage_return}
use Rattle.std.proofs.lemmas.Bool.{cond_both}
use Rattle.desk_text.specs.Lines.{LogicalLine, PhysicalLine, groups, is_continued, is_skipped, kept, logical_lines, numbered, physical_line, physical_lines, physical_lines_from, skips, without_continuation}
use Rattle.desk_text.specs.Bytes.{first_non_blank}
use Rattle.desk_split.proofs.LineTexts.{Bytes, is_feed}

abbrev pub wholes : List PhysicalLine → List Bytes
wholes parts = map (λ part. part.whole) parts

-- 1. Physical lines.

pub wholes_from : (start : ℕ) (parts : List Bytes) → wholes (physical_lines_from start parts) ≡ lines_of_parts parts
wholes_from start [] = refl
wholes_from start (part ∷ []) = by (eqb (length part) 0)
  where
    by : (b : Bool) → wholes (cond b [] (physical_line start part ∷ [])) ≡ cond b [] (part ∷ [])
    by true = refl
    by false = refl
wholes_from start (part ∷ next ∷ parts) = ap (λ ls. strip_carriage_return part ∷ ls) (wholes_from (start + length part + 1) (next ∷ parts))

-- a physical line spells what it is without its continuation
abbrev pub IsSpelled : PhysicalLine → Type 0
IsSpelled part = part.text ≡ without_continuation part.whole

lines_spelled : (start : ℕ) (parts : List Bytes) → AllByRecursion IsSpelled (physical_lines_from start parts)
lines_spelled start [] = tt
lines_spelled start (part ∷ []) = cond_both (eqb (length part) 0) [] (physical_line start part ∷ []) (λ ps. AllByRecursion IsSpelled ps) (λ _. tt) (λ _. (refl, tt))
lines_spelled start (part ∷ next ∷ parts) = (refl, lines_spelled (start + length part + 1) (next ∷ parts))

-- 2. Groups by the whole lines.

unfoldable pub whole_groups : List Bytes → List (List Bytes)
whole_groups [] = []
whole_groups (line ∷ lines) = cond (is_continued line) (onto_first line (whole_groups lines)) ((line ∷ []) ∷ whole_groups lines)

map_onto : (part : PhysicalLine) (gs : List (List PhysicalLine)) → map wholes (onto_first part gs) ≡ onto_first part.whole (map wholes gs)
map_onto part [] = refl
map_onto part (g ∷ gs) = refl

pub wholes_of_groups : (parts : List PhysicalLine) → map wholes (groups parts) ≡ whole_groups (wholes parts)
unfolding whole_groups
wholes_of_groups [] = refl
wholes_of_groups (part ∷ parts) =
    by (is_continued part.whole) ∙ ap (λ gs. cond (is_continued part.whole) (onto_first part.whole gs) ((part.whole ∷ []) ∷ gs)) (wholes_of_groups parts)
  where
    by : (b : Bool) → map wholes (cond b (onto_first part (groups parts)) ((part ∷ []) ∷ groups parts)) ≡ cond b (onto_first part.whole (map wholes (groups parts))) ((part.whole ∷ []) ∷ map wholes (groups parts))
    by true = map_onto part (groups parts)
    by false = refl

-- 3. Logical lines by their whole lines.

abbrev pub line_wholes : LogicalLine → List Bytes
line_wholes line = wholes line.parts

wholes_numbered : (n : ℕ) (gs : List (List PhysicalLine)) → map line_wholes (numbered n gs) ≡ map wholes gs
wholes_numbered n [] = refl
wholes_numbered n (g ∷ gs) = ap (λ rest. wholes g ∷ rest) (wholes_numbered (n + length g) gs)

abbrev pub AreSpelled : LogicalLine → Type 0
AreSpelled line = AllByRecursion IsSpelled line.parts

numbered_spelled : (n : ℕ) (gs : List (List PhysicalLine)) → AllByRecursion (λ g. AllByRecursion IsSpelled g) gs → AllByRecursion AreSpelled (numbered n gs)
numbered_spelled n [] h = tt
numbered_spelled n (g ∷ gs) h = (h.0, numbered_spelled (n + length g) gs h.1)

groups_spelled : (parts : List PhysicalLine) → AllByRecursion IsSpelled parts → AllByRecursion (λ g. AllByRecursion IsSpelled g) (groups parts)
groups_spelled [] h = tt
groups_spelled (part ∷ parts) h =
    let rest = groups_spelled parts h.1 in
    cond_both (is_continued part.whole) (onto_first part (groups parts)) ((part ∷ []) ∷ groups parts) (λ gs. AllByRecursion (λ g. AllByRecursion IsSpelled g) gs)
    (λ _. onto part (groups parts) h.0 rest) (λ _. ((h.0, tt), rest))
  where
    onto : (part : PhysicalLine) (gs : List (List PhysicalLine)) → IsSpelled part → AllByRecursion (λ g. AllByRecursion IsSpelled g) gs → AllByRecursion (λ g. AllByRecursion IsSpelled g) (onto_first part gs)
    onto part [] e h = ((e, tt), tt)
    onto part (g ∷ gs) e h = ((e, h.0), h.1)

all_left : {X : Type 0} (Q : X → Type 0) (p : X → Bool) (xs : List X) → AllByRecursion Q xs → AllByRecursion Q (filter p xs)
all_left Q p [] h = tt
all_left Q p (x ∷ xs) h = cond_both (p x) (x ∷ filter p xs) (filter p xs) (λ ys. AllByRecursion Q ys) (λ _. (h.0, all_left Q p xs h.1)) (λ _. all_left Q p xs h.1)

unfoldable pub whole_skipped : List Bytes → Bool
whole_skipped lines = skips (first_non_blank (join_with_byte 32 (map without_continuation lines)))

texts_by_whole : (parts : List PhysicalLine) → AllByRecursion IsSpelled parts → map (λ part. part.text) parts ≡ map without_continuation (wholes parts)
texts_by_whole [] h = refl
texts_by_whole (part ∷ parts) h = ap (λ t. t ∷ map (λ p. p.text) parts) h.0 ∙ ap (λ ts. without_continuation part.whole ∷ ts) (texts_by_whole parts h.1)

pub skipped_by_whole : (line : LogicalLine) → AreSpelled line → is_skipped line ≡ whole_skipped (line_wholes line)
unfolding whole_skipped
skipped_by_whole line h = ap (λ ts. skips (first_non_blank (join_with_byte 32 ts))) (texts_by_whole line.parts h)

-- groups of lines that take part
abbrev pub kept_groups : List Bytes → List (List Bytes)
kept_groups lines = filter (λ group. not (whole_skipped group)) (whole_groups lines)

kept_wholes : (lines : List LogicalLine) → AllByRecursion AreSpelled lines → map line_wholes (kept lines) ≡ filter (λ group. not (whole_skipped group)) (map line_wholes lines)
kept_wholes [] h = refl
kept_wholes (line ∷ lines) h =
    ap (λ b. map line_wholes (cond (not b) (line ∷ kept lines) (kept lines))) (skipped_by_whole line h.0)
    ∙ by (not (whole_skipped (line_wholes line)))
    ∙ ap (λ gs. cond (not (whole_skipped (line_wholes line))) (line_wholes line ∷ gs) gs) (kept_wholes lines h.1)
  where
    by : (b : Bool) → map line_wholes (cond b (line ∷ kept lines) (kept lines)) ≡ cond b (line_wholes line ∷ map line_wholes (kept lines)) (map line_wholes (kept lines))
    by true = refl
    by false = refl

module _ (text : Bytes) where
  pub all_spelled : AllByRecursion AreSpelled (numbered 1 (groups (physical_lines text)))
  all_spelled = numbered_spelled 1 (groups (physical_lines text)) (groups_spelled (physical_lines text) (lines_spelled 0 (slice_split is_feed text)))

  pub lines_are_spelled : AllByRecursion AreSpelled (logical_lines text)
  lines_are_spelled = all_left AreSpelled (λ line. not (is_skipped line)) (numbered 1 (groups (physical_lines text))) all_spelled

  -- the logical lines of a text are groups of its lines
  pub lines_by_whole : map line_wholes (logical_lines text) ≡ kept_groups (lines text)
  lines_by_whole =
      kept_wholes (numbered 1 (groups (physical_lines text))) all_spelled
      ∙ ap (filter (λ group. not (whole_skipped group)))
      (wholes_numbered 1 (groups (physical_lines text)) ∙ wholes_of_groups (physical_lines text) ∙ ap whole_groups (wholes_from 0 (slice_split is_feed text)))
