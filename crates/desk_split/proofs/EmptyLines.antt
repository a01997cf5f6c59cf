-- An empty line ends the logical line before it, and adds nothing to it.
use Rattle.std.proofs.Common.{◌≡◌, ◌⊎◌, inl, inr, ℕ, ◌<◌, Bool, true, false, not, cond, List, [], ◌∷◌, ◌++◌, None, Some, filter, length, map, refl, sym, ap, ◌∙◌, arith}
use Rattle.std.specs.Prelude.{find}
use Rattle.std.specs.List.{join_with_byte, onto_first}
use Rattle.std.proofs.lemmas.Bool.{cond-false}
use Rattle.std.proofs.lemmas.List.{map-append, reverse-append}
use Rattle.std.proofs.lemmas.List.Elements.{filter-append}
use Rattle.desk_text.specs.Lines.{is_backslash, is_continued, skips, without_continuation}
use Rattle.desk_text.specs.Bytes.{first_non_blank, is_blank}
use Rattle.desk_split.proofs.LineTexts.{Bytes}
use Rattle.desk_split.proofs.WholeLines.{kept_groups, whole_groups, whole_skipped}

-- 1. The groups of lines before an empty line.

abbrev empty : List Bytes
empty = [] ∷ []

some_group : (before rest : List Bytes) → 0 < length (whole_groups (before ++ [] ∷ rest))
unfolding whole_groups
some_group [] rest = omega arith
some_group (line ∷ before) rest = by (is_continued line) (whole_groups (before ++ [] ∷ rest)) (some_group before rest)
  where
    by : (b : Bool) (gs : List (List Bytes)) → 0 < length gs → 0 < length (cond b (onto_first line gs) ((line ∷ []) ∷ gs))
    by true [] h = absurd (omega arith)
    by true (g ∷ gs) h = omega arith
    by false gs h = omega arith

pub groups_part : (before rest : List Bytes) → whole_groups (before ++ [] ∷ rest) ≡ whole_groups (before ++ empty) ++ whole_groups rest
unfolding whole_groups
groups_part [] rest = refl
groups_part (line ∷ before) rest =
    ap (λ gs. cond (is_continued line) (onto_first line gs) ((line ∷ []) ∷ gs)) (groups_part before rest)
    ∙ by (is_continued line) (whole_groups (before ++ empty)) (some_group before [])
  where
    by : (b : Bool) (gs : List (List Bytes)) → 0 < length gs
        → cond b (onto_first line (gs ++ whole_groups rest)) ((line ∷ []) ∷ (gs ++ whole_groups rest)) ≡ cond b (onto_first line gs) ((line ∷ []) ∷ gs) ++ whole_groups rest
    by true [] h = absurd (omega arith)
    by true (g ∷ gs) h = refl
    by false gs h = refl

-- these are the groups, but that the last has an empty line more, or an empty line is a group behind them
abbrev pub AreEnded : List (List Bytes) → List (List Bytes) → Type 0
AreEnded [] gs = ⊥
AreEnded (a ∷ []) [] = a ≡ empty
AreEnded (a ∷ next ∷ es) [] = ⊥
AreEnded (a ∷ es) (g ∷ gs) = ((a ≡ g) × AreEnded es gs) ⊎ ((a ≡ g ++ empty) × (es ≡ []) × (gs ≡ []))

ended_onto : (line : Bytes) (es gs : List (List Bytes)) → AreEnded es gs → AreEnded (onto_first line es) (onto_first line gs)
ended_onto line [] gs h = absurd h
ended_onto line (a ∷ []) [] h = inr (ap (λ ls. line ∷ ls) h, refl, refl)
ended_onto line (a ∷ next ∷ es) [] h = absurd h
ended_onto line (a ∷ es) (g ∷ gs) (inl h) = inl (ap (λ ls. line ∷ ls) h.0, h.1)
ended_onto line (a ∷ es) (g ∷ gs) (inr h) = inr (ap (λ ls. line ∷ ls) h.0, h.1, h.2)

pub are_ended : (before : List Bytes) → AreEnded (whole_groups (before ++ empty)) (whole_groups before)
unfolding whole_groups
are_ended [] = refl
are_ended (line ∷ before) = by (is_continued line) (are_ended before)
  where
    by : (b : Bool) → AreEnded (whole_groups (before ++ empty)) (whole_groups before)
        → AreEnded (cond b (onto_first line (whole_groups (before ++ empty))) ((line ∷ []) ∷ whole_groups (before ++ empty))) (cond b (onto_first line (whole_groups before)) ((line ∷ []) ∷ whole_groups before))
    by true h = ended_onto line (whole_groups (before ++ empty)) (whole_groups before) h
    by false h = inl (refl, h)

-- 2. A line that is skipped.

-- the first byte that is not a blank, where blanks stand behind texts
module _ (p : ℕ → Bool) where
  behind_text : (text more less : Bytes) → find p more ≡ find p less → find p (text ++ more) ≡ find p (text ++ less)
  behind_text [] more less e = e
  behind_text (b ∷ text) more less e = ap (λ o. cond (p b) (Some b) o) (behind_text text more less e)

  blank_behind : (text : Bytes) (b : ℕ) → p b ≡ false → find p (text ++ b ∷ []) ≡ find p text
  blank_behind [] b e = cond-false (p b) (Some b) None e
  blank_behind (c ∷ text) b e = ap (λ o. cond (p c) (Some c) o) (blank_behind text b e)

abbrev spelled : List Bytes → Bytes
spelled texts = join_with_byte 32 texts

joined_empty : (texts : List Bytes) → first_non_blank (spelled (texts ++ empty)) ≡ first_non_blank (spelled texts)
joined_empty [] = refl
joined_empty (text ∷ []) = blank_behind (λ b. not (is_blank b)) text 32 refl
joined_empty (text ∷ next ∷ texts) =
    behind_text (λ b. not (is_blank b)) text (32 ∷ spelled ((next ∷ texts) ++ empty)) (32 ∷ spelled (next ∷ texts)) (joined_empty (next ∷ texts))

pub skipped_alike : (group : List Bytes) → whole_skipped (group ++ empty) ≡ whole_skipped group
unfolding whole_skipped
skipped_alike group =
    ap (λ ts. skips (first_non_blank (spelled ts))) (map-append without_continuation group empty) ∙ ap skips (joined_empty (map without_continuation group))

pub skipped_empty : whole_skipped empty ≡ true
unfolding whole_skipped
skipped_empty = refl

-- 3. What groups say, where an empty line says nothing.

module _ {X : Type 0} (says : List Bytes → X) (nothing : (group : List Bytes) → says (group ++ empty) ≡ says group) where
  abbrev said : List (List Bytes) → List X
  said gs = map says (filter (λ group. not (whole_skipped group)) gs)

  said_more : (a g : List Bytes) (xs ys : List X) (es gs : List (List Bytes)) → whole_skipped a ≡ whole_skipped g → says a ≡ says g → said es ≡ said gs → said (a ∷ es) ≡ said (g ∷ gs)
  said_more a g xs ys es gs skips same rest =
      ap (λ b. map says (cond (not b) (a ∷ filter (λ group. not (whole_skipped group)) es) (filter (λ group. not (whole_skipped group)) es))) skips
      ∙ by (not (whole_skipped g))
    where
      by : (b : Bool) → map says (cond b (a ∷ filter (λ group. not (whole_skipped group)) es) (filter (λ group. not (whole_skipped group)) es)) ≡ map says (cond b (g ∷ filter (λ group. not (whole_skipped group)) gs) (filter (λ group. not (whole_skipped group)) gs))
      by true = ap (λ x. x ∷ said es) same ∙ ap (λ xs. says g ∷ xs) rest
      by false = rest

  said_skipped : (a : List Bytes) (es : List (List Bytes)) → whole_skipped a ≡ true → said (a ∷ es) ≡ said es
  said_skipped a es e =
      ap (λ b. map says (cond (not b) (a ∷ filter (λ group. not (whole_skipped group)) es) (filter (λ group. not (whole_skipped group)) es))) e

  said_alike : (es gs : List (List Bytes)) → AreEnded es gs → said es ≡ said gs
  said_alike [] gs h = absurd h
  said_alike (a ∷ []) [] h = said_skipped a [] (ap whole_skipped h ∙ skipped_empty)
  said_alike (a ∷ next ∷ es) [] h = absurd h
  said_alike (a ∷ es) (g ∷ gs) (inl h) = said_more a g [] [] es gs (ap whole_skipped h.0) (ap says h.0) (said_alike es gs h.1)
  said_alike (a ∷ es) (g ∷ gs) (inr h) =
      said_more a g [] [] es gs (ap whole_skipped h.0 ∙ skipped_alike g) (ap says h.0 ∙ nothing g) (ap said h.1 ∙ sym (ap said h.2))

  pub part_at_empty : (before rest : List Bytes) → map says (kept_groups (before ++ [] ∷ rest)) ≡ map says (kept_groups before) ++ map says (kept_groups rest)
  part_at_empty before rest =
      ap said (groups_part before rest)
      ∙ ap (map says) (filter-append (λ group. not (whole_skipped group)) (whole_groups (before ++ empty)) (whole_groups rest))
      ∙ map-append says (filter (λ group. not (whole_skipped group)) (whole_groups (before ++ empty))) (filter (λ group. not (whole_skipped group)) (whole_groups rest))
      ∙ ap (λ xs. xs ++ said (whole_groups rest)) (said_alike (whole_groups (before ++ empty)) (whole_groups before) (are_ended before))

  -- 4. A comment line before others.

  ends_so : (front : Bytes) → is_continued (front ++ 41 ∷ []) ≡ false
  ends_so front = ap (λ t. is_backslash (first_non_blank t)) (reverse-append front (41 ∷ []))

  pub behind_comment_line : (front : Bytes) (rest : List Bytes) → first_non_blank (front ++ 41 ∷ []) ≡ Some 35 → map says (kept_groups ((front ++ 41 ∷ []) ∷ rest)) ≡ map says (kept_groups rest)
  unfolding whole_groups whole_skipped
  behind_comment_line front rest hash =
      let line : Bytes = front ++ 41 ∷ [] in
      ap said (cond-false (is_continued line) (onto_first line (whole_groups rest)) ((line ∷ []) ∷ whole_groups rest) (ends_so front))
      ∙ said_skipped (line ∷ []) (whole_groups rest)
      (ap (λ t. skips (first_non_blank t)) (cond-false (is_continued line) _ line (ends_so front)) ∙ ap skips hash)
