-- The lines of a text that a whole text is split into have the words of the lines that were sent there.
use Rattle.std.proofs.Common.{◌≡◌, ℕ, zero, suc, ◌+◌, ◌-◌, ◌<◌, Bool, true, false, not, cond, eqb, List, [], ◌∷◌, ◌++◌, Ok, filter, get_or, length, map, take, refl, sym, ap, subst, ◌∙◌, inl, inr, zero-add, append_assoc, length-append, arith}
use Rattle.std.specs.List.{AllByRecursion, flat_map, join_with_byte, onto_first, slice_split}
use Rattle.std.specs.Str.Lines.{strip_carriage_return}
use Rattle.std.proofs.lemmas.Bool.{cases_Bool, cond-true, cond-false, cond_both}
use Rattle.std.proofs.lemmas.List.{get_or_at, map-append, take_at}
use Rattle.std.proofs.lemmas.List.Concat.{flat_map-append}
use Rattle.std.proofs.lemmas.List.Elements.{All-from_recursion}
use Rattle.std.proofs.lemmas.List.FromFn.{get_or-map-range_with_len}
use Rattle.std.proofs.lemmas.List.Splits.{length-slice_split, slice_split_at}
use Rattle.desk_text.specs.Lines.{LogicalLine, PhysicalLine, groups, is_continued, is_skipped, kept, logical_lines, numbered, physical_line, physical_lines, physical_lines_from, skips, without_continuation}
use Rattle.desk_text.specs.Bytes.{first_non_blank}
use Rattle.desk_text.specs.Reading.{unless_fault}
use Rattle.desk_text.specs.Word.{Atom, atom_text, atoms, is_separator, words_at, words_from}
use Rattle.desk_text.specs.declared.reading.LineFault.{LineFault}
use Rattle.desk_exports.specs.Laws.{faults}
use Rattle.desk_split.specs.Splitting.{SplitKeepsWords, destination_of, ends_with_return, is_to, line_end, raw_words, text_to, texts_to, written_line, written_part}
use Rattle.desk_exports.specs.declared.rules.Rule.{Rule}

abbrev Bytes : Type 0
Bytes = List ℕ

abbrev is_feed : ℕ → Bool
is_feed b = eqb b 10

-- no byte is a line feed
abbrev HasNoFeed : Bytes → Type 0
HasNoFeed line = AllByRecursion (λ b. is_feed b ≡ false) line

abbrev wholes : List PhysicalLine → List Bytes
wholes parts = map (λ part. part.whole) parts

-- 1. Physical lines that are written are read back.

no_feed-append : (a b : Bytes) → HasNoFeed a → HasNoFeed b → HasNoFeed (a ++ b)
no_feed-append [] b h k = k
no_feed-append (x ∷ a) b h k = (h.0, no_feed-append a b h.1 k)

no_feed-take : (n : ℕ) (a : Bytes) → HasNoFeed a → HasNoFeed (take n a)
no_feed-take zero a h = tt
no_feed-take (suc n) [] h = tt
no_feed-take (suc n) (x ∷ a) h = (h.0, no_feed-take n a h.1)

abbrev written : Bytes → Bytes
written line = line ++ line_end line

some_part : (text : Bytes) → 0 < length (slice_split is_feed text)
some_part text = omega (arith, length-slice_split is_feed text)

more_lines : (start : ℕ) (part : Bytes) (parts : List Bytes) → 0 < length parts → physical_lines_from start (part ∷ parts) ≡ physical_line start (strip_carriage_return part) ∷ physical_lines_from (start + length part + 1) parts
more_lines start part [] h = absurd (omega arith)
more_lines start part (next ∷ parts) h = refl

-- a part of a text before a line feed
first_part : (part rest : Bytes) → HasNoFeed part → slice_split is_feed (part ++ 10 ∷ rest) ≡ part ∷ slice_split is_feed rest
first_part part rest h = slice_split_at is_feed part 10 rest (All-from_recursion (λ b. is_feed b ≡ false) part h) refl

strip_return : (line : Bytes) → strip_carriage_return (line ++ 13 ∷ []) ≡ line
strip_return line =
    let last : length (line ++ 13 ∷ []) - 1 ≡ length line = omega (arith, length-append line (13 ∷ [])) in
    let is : get_or (line ++ 13 ∷ []) (length (line ++ 13 ∷ []) - 1) 0 ≡ 13 = get_or_at line 13 [] 0 (length (line ++ 13 ∷ []) - 1) (sym last) in
    cond-true (eqb (get_or (line ++ 13 ∷ []) (length (line ++ 13 ∷ []) - 1) 0) 13) (take (length (line ++ 13 ∷ []) - 1) (line ++ 13 ∷ [])) (line ++ 13 ∷ []) (ap (λ b. eqb b 13) is)
    ∙ take_at line (13 ∷ []) (length (line ++ 13 ∷ []) - 1) (sym last)

read_part : (start : ℕ) (part line rest : Bytes) (more : List Bytes) → HasNoFeed part → strip_carriage_return part ≡ line
    → wholes (physical_lines_from (start + length part + 1) (slice_split is_feed rest)) ≡ more
    → wholes (physical_lines_from start (slice_split is_feed (part ++ 10 ∷ rest))) ≡ line ∷ more
read_part start part line rest more clean strips e =
    ap (λ ps. wholes (physical_lines_from start ps)) (first_part part rest clean)
    ∙ ap wholes (more_lines start part (slice_split is_feed rest) (some_part rest))
    ∙ ap (λ w. w ∷ wholes (physical_lines_from (start + length part + 1) (slice_split is_feed rest))) strips
    ∙ ap (λ ws. line ∷ ws) e

read_back : (start : ℕ) (lines : List Bytes) → AllByRecursion HasNoFeed lines → wholes (physical_lines_from start (slice_split is_feed (flat_map written lines))) ≡ lines
read_back start [] h = refl
read_back start (line ∷ lines) h =
    elim (cases_Bool (ends_with_return line)) [
      | inl e ↦
          let part : Bytes = line ++ 13 ∷ [] in
          let text : flat_map written (line ∷ lines) ≡ part ++ 10 ∷ flat_map written lines =
          ap (λ end. (line ++ end) ++ flat_map written lines) (cond-true (ends_with_return line) (13 ∷ 10 ∷ []) (10 ∷ []) e)
          ∙ append_assoc line (13 ∷ 10 ∷ []) (flat_map written lines) ∙ sym (append_assoc line (13 ∷ []) (10 ∷ flat_map written lines)) in
          ap (λ t. wholes (physical_lines_from start (slice_split is_feed t))) text
          ∙ read_part start part line (flat_map written lines) lines (no_feed-append line (13 ∷ []) h.0 (refl, tt)) (strip_return line) (read_back (start + length part + 1) lines h.1)
      | inr e ↦
          let text : flat_map written (line ∷ lines) ≡ line ++ 10 ∷ flat_map written lines =
          ap (λ end. (line ++ end) ++ flat_map written lines) (cond-false (ends_with_return line) (13 ∷ 10 ∷ []) (10 ∷ []) e)
          ∙ append_assoc line (10 ∷ []) (flat_map written lines) in
          ap (λ t. wholes (physical_lines_from start (slice_split is_feed t))) text
          ∙ read_part start line line (flat_map written lines) lines h.0
          (cond-false (ends_with_return line) (take (length line - 1) line) line e) (read_back (start + length line + 1) lines h.1)
    ]

-- 2. The physical lines of a text have no line feed, and spell what they are without their continuation.

parts_clean : (text : Bytes) → AllByRecursion HasNoFeed (slice_split is_feed text)
parts_clean [] = (tt, tt)
parts_clean (b ∷ text) =
    cond_both (is_feed b) ([] ∷ slice_split is_feed text) (onto_first b (slice_split is_feed text)) (λ ps. AllByRecursion HasNoFeed ps)
    (λ _. (tt, parts_clean text)) (λ e. onto b (slice_split is_feed text) e (parts_clean text))
  where
    onto : (b : ℕ) (parts : List Bytes) → is_feed b ≡ false → AllByRecursion HasNoFeed parts → AllByRecursion HasNoFeed (onto_first b parts)
    onto b [] e h = ((e, tt), tt)
    onto b (part ∷ parts) e h = ((e, h.0), h.1)

pub record IsRead (part : PhysicalLine) : Type 0 where
  clean : HasNoFeed part.whole
  spelled : part.text ≡ without_continuation part.whole

strip_clean : (line : Bytes) → HasNoFeed line → HasNoFeed (strip_carriage_return line)
strip_clean line h = cond_both (ends_with_return line) (take (length line - 1) line) line (λ l. HasNoFeed l) (λ _. no_feed-take (length line - 1) line h) (λ _. h)

lines_read : (start : ℕ) (parts : List Bytes) → AllByRecursion HasNoFeed parts → AllByRecursion IsRead (physical_lines_from start parts)
lines_read start [] h = tt
lines_read start (part ∷ []) h =
    cond_both (eqb (length part) 0) [] (physical_line start part ∷ []) (λ ps. AllByRecursion IsRead ps) (λ _. tt) (λ _. (record { clean = h.0; spelled = refl }, tt))
lines_read start (part ∷ next ∷ parts) h = (record { clean = strip_clean part h.0; spelled = refl }, lines_read (start + length part + 1) (next ∷ parts) h.1)

-- 3. Groups by the whole lines.

whole_groups : List Bytes → List (List Bytes)
whole_groups [] = []
whole_groups (line ∷ lines) = cond (is_continued line) (onto_first line (whole_groups lines)) ((line ∷ []) ∷ whole_groups lines)

map_onto : (part : PhysicalLine) (gs : List (List PhysicalLine)) → map wholes (onto_first part gs) ≡ onto_first part.whole (map wholes gs)
map_onto part [] = refl
map_onto part (g ∷ gs) = refl

wholes_of_groups : (parts : List PhysicalLine) → map wholes (groups parts) ≡ whole_groups (wholes parts)
unfolding whole_groups
wholes_of_groups [] = refl
wholes_of_groups (part ∷ parts) =
    elim (cases_Bool (is_continued part.whole)) [
      | inl e ↦
          ap (map wholes) (cond-true (is_continued part.whole) (onto_first part (groups parts)) ((part ∷ []) ∷ groups parts) e)
          ∙ map_onto part (groups parts) ∙ ap (onto_first part.whole) (wholes_of_groups parts)
          ∙ sym (cond-true (is_continued part.whole) (onto_first part.whole (whole_groups (wholes parts))) ((part.whole ∷ []) ∷ whole_groups (wholes parts)) e)
      | inr e ↦
          ap (map wholes) (cond-false (is_continued part.whole) (onto_first part (groups parts)) ((part ∷ []) ∷ groups parts) e)
          ∙ ap (λ gs. (part.whole ∷ []) ∷ gs) (wholes_of_groups parts)
          ∙ sym (cond-false (is_continued part.whole) (onto_first part.whole (whole_groups (wholes parts))) ((part.whole ∷ []) ∷ whole_groups (wholes parts)) e)
    ]

-- each line but the last is continued, and the last is not
abbrev IsClosed : List Bytes → Type 0
IsClosed [] = ⊥
IsClosed (line ∷ []) = is_continued line ≡ false
IsClosed (line ∷ next ∷ lines) = (is_continued line ≡ true) × IsClosed (next ∷ lines)

abbrev IsGroup : List Bytes → Type 0
IsGroup [] = ⊥
IsGroup (line ∷ []) = Unit {0}
IsGroup (line ∷ next ∷ lines) = (is_continued line ≡ true) × IsGroup (next ∷ lines)

abbrev AreGroups : List (List Bytes) → Type 0
AreGroups [] = Unit {0}
AreGroups (group ∷ []) = IsGroup group
AreGroups (group ∷ next ∷ more) = IsClosed group × AreGroups (next ∷ more)

closed_group : (group : List Bytes) → IsClosed group → IsGroup group
closed_group [] h = h
closed_group (line ∷ []) h = tt
closed_group (line ∷ next ∷ lines) h = (h.0, closed_group (next ∷ lines) h.1)

last_is_open : (group : List Bytes) → IsGroup group → whole_groups (group ++ []) ≡ group ∷ []
unfolding whole_groups
last_is_open [] h = absurd h
last_is_open (line ∷ []) h = cond_both (is_continued line) ((line ∷ []) ∷ []) ((line ∷ []) ∷ []) (λ gs. gs ≡ (line ∷ []) ∷ []) (λ _. refl) (λ _. refl)
last_is_open (line ∷ next ∷ lines) h = cond-true (is_continued line) (onto_first line (whole_groups ((next ∷ lines) ++ []))) ((line ∷ []) ∷ whole_groups ((next ∷ lines) ++ [])) h.0 ∙ ap (onto_first line) (last_is_open (next ∷ lines) h.1)

closed_first : (group rest : List Bytes) → IsClosed group → whole_groups (group ++ rest) ≡ group ∷ whole_groups rest
unfolding whole_groups
closed_first [] rest h = absurd h
closed_first (line ∷ []) rest h = cond-false (is_continued line) (onto_first line (whole_groups rest)) ((line ∷ []) ∷ whole_groups rest) h
closed_first (line ∷ next ∷ lines) rest h = cond-true (is_continued line) (onto_first line (whole_groups ((next ∷ lines) ++ rest))) ((line ∷ []) ∷ whole_groups ((next ∷ lines) ++ rest)) h.0 ∙ ap (onto_first line) (closed_first (next ∷ lines) rest h.1)

regroup : (gs : List (List Bytes)) → AreGroups gs → whole_groups (flat_map (λ group. group) gs) ≡ gs
unfolding whole_groups
regroup [] h = refl
regroup (group ∷ []) h = last_is_open group h
regroup (group ∷ next ∷ more) h = closed_first group (flat_map (λ g. g) (next ∷ more)) h.0 ∙ ap (λ gs. group ∷ gs) (regroup (next ∷ more) h.1)

open_more : (line : Bytes) (group : List Bytes) → is_continued line ≡ true → IsGroup group → IsGroup (line ∷ group)
open_more line [] e h = tt
open_more line (next ∷ lines) e h = (e, h)

closed_more : (line : Bytes) (group : List Bytes) → is_continued line ≡ true → IsClosed group → IsClosed (line ∷ group)
closed_more line [] e h = absurd h
closed_more line (next ∷ lines) e h = (e, h)

onto_groups : (line : Bytes) (gs : List (List Bytes)) → is_continued line ≡ true → AreGroups gs → AreGroups (onto_first line gs)
onto_groups line [] e h = tt
onto_groups line (group ∷ []) e h = open_more line group e h
onto_groups line (group ∷ next ∷ more) e h = (closed_more line group e h.0, h.1)

before_groups : (line : Bytes) (gs : List (List Bytes)) → is_continued line ≡ false → AreGroups gs → AreGroups ((line ∷ []) ∷ gs)
before_groups line [] e h = tt
before_groups line (group ∷ more) e h = (e, h)

are_groups : (lines : List Bytes) → AreGroups (whole_groups lines)
unfolding whole_groups
are_groups [] = tt
are_groups (line ∷ lines) =
    let rest = are_groups lines in
    cond_both (is_continued line) (onto_first line (whole_groups lines)) ((line ∷ []) ∷ whole_groups lines) (λ gs. AreGroups gs)
    (λ e. onto_groups line (whole_groups lines) e rest) (λ e. before_groups line (whole_groups lines) e rest)

-- groups of which some are left out
without_first : (group : List Bytes) (more : List (List Bytes)) → AreGroups (group ∷ more) → AreGroups more
without_first group [] h = tt
without_first group (next ∷ more) h = h.1

first_is_group : (group : List Bytes) (more : List (List Bytes)) → AreGroups (group ∷ more) → IsGroup group
first_is_group group [] h = h
first_is_group group (next ∷ more) h = closed_group group h.0

module _ {X : Type 0} (group_of : X → List Bytes) (p : X → Bool) where
  -- what is left out behind a group leaves it closed
  closed_before : (x : X) (xs : List X) (rest : List X) → AreGroups (map group_of (x ∷ xs)) → rest ≡ filter p xs → AreGroups (map group_of rest) → AreGroups (map group_of (x ∷ rest))
  closed_before x xs [] h is more = first_is_group (group_of x) (map group_of xs) h
  closed_before x [] (y ∷ rest) h is more = absurd (cc)
  closed_before x (z ∷ xs) (y ∷ rest) h is more = (h.0, more)

  groups_left : (xs : List X) → AreGroups (map group_of xs) → AreGroups (map group_of (filter p xs))
  groups_left [] h = tt
  groups_left (x ∷ xs) h =
      let rest = groups_left xs (without_first (group_of x) (map group_of xs) h) in
      cond_both (p x) (x ∷ filter p xs) (filter p xs) (λ ys. AreGroups (map group_of ys)) (λ _. closed_before x xs (filter p xs) h refl rest) (λ _. rest)

-- 4. Logical lines by their whole lines.

abbrev line_wholes : LogicalLine → List Bytes
line_wholes line = wholes line.parts

wholes_numbered : (n : ℕ) (gs : List (List PhysicalLine)) → map line_wholes (numbered n gs) ≡ map wholes gs
wholes_numbered n [] = refl
wholes_numbered n (g ∷ gs) = ap (λ rest. wholes g ∷ rest) (wholes_numbered (n + length g) gs)

abbrev AreRead : LogicalLine → Type 0
AreRead line = AllByRecursion IsRead line.parts

numbered_read : (n : ℕ) (gs : List (List PhysicalLine)) → AllByRecursion (λ g. AllByRecursion IsRead g) gs → AllByRecursion AreRead (numbered n gs)
numbered_read n [] h = tt
numbered_read n (g ∷ gs) h = (h.0, numbered_read (n + length g) gs h.1)

groups_read : (parts : List PhysicalLine) → AllByRecursion IsRead parts → AllByRecursion (λ g. AllByRecursion IsRead g) (groups parts)
groups_read [] h = tt
groups_read (part ∷ parts) h =
    let rest = groups_read parts h.1 in
    cond_both (is_continued part.whole) (onto_first part (groups parts)) ((part ∷ []) ∷ groups parts) (λ gs. AllByRecursion (λ g. AllByRecursion IsRead g) gs)
    (λ _. onto part (groups parts) h.0 rest) (λ _. ((h.0, tt), rest))
  where
    onto : (part : PhysicalLine) (gs : List (List PhysicalLine)) → IsRead part → AllByRecursion (λ g. AllByRecursion IsRead g) gs → AllByRecursion (λ g. AllByRecursion IsRead g) (onto_first part gs)
    onto part [] e h = ((e, tt), tt)
    onto part (g ∷ gs) e h = ((e, h.0), h.1)

all_left : {X : Type 0} (Q : X → Type 0) (p : X → Bool) (xs : List X) → AllByRecursion Q xs → AllByRecursion Q (filter p xs)
all_left Q p [] h = tt
all_left Q p (x ∷ xs) h = cond_both (p x) (x ∷ filter p xs) (filter p xs) (λ ys. AllByRecursion Q ys) (λ _. (h.0, all_left Q p xs h.1)) (λ _. all_left Q p xs h.1)

-- the raw words of a part do not depend on its place
same_raw : (s t : ℕ) (runs : List (List Atom)) → map (λ word. word.raw) (words_from s runs) ≡ map (λ word. word.raw) (words_from t runs)
same_raw s t [] = refl
same_raw s t ([] ∷ runs) = same_raw (s + 1) (t + 1) runs
same_raw s t ((a ∷ more) ∷ runs) =
    ap (λ ws. flat_map atom_text (a ∷ more) ∷ ws) (same_raw (s + length (flat_map atom_text (a ∷ more)) + 1) (t + length (flat_map atom_text (a ∷ more)) + 1) runs)

whole_words : Bytes → List Bytes
whole_words line = map (λ word. word.raw) (words_at 0 (without_continuation line))

words_by_whole : (parts : List PhysicalLine) → AllByRecursion IsRead parts → map (λ word. word.raw) (flat_map (λ part. words_at part.start part.text) parts) ≡ flat_map whole_words (wholes parts)
unfolding whole_words
words_by_whole [] h = refl
words_by_whole (part ∷ parts) h =
    map-append (λ word. word.raw) (words_at part.start part.text) (flat_map (λ p. words_at p.start p.text) parts)
    ∙ ap (λ rest. map (λ word. word.raw) (words_at part.start part.text) ++ rest) (words_by_whole parts h.1)
    ∙ ap (λ t. map (λ word. word.raw) (words_at part.start t) ++ flat_map whole_words (wholes parts)) h.0.spelled
    ∙ ap (λ ws. ws ++ flat_map whole_words (wholes parts)) (same_raw part.start 0 (slice_split is_separator (atoms (without_continuation part.whole))))

words_of_lines : (lines : List LogicalLine) → AllByRecursion AreRead lines → map raw_words lines ≡ map (flat_map whole_words) (map line_wholes lines)
words_of_lines [] h = refl
words_of_lines (line ∷ lines) h = ap (λ w. w ∷ map raw_words lines) (words_by_whole line.parts h.0) ∙ ap (λ ws. flat_map whole_words (line_wholes line) ∷ ws) (words_of_lines lines h.1)

whole_skipped : List Bytes → Bool
whole_skipped lines = skips (first_non_blank (join_with_byte 32 (map without_continuation lines)))

texts_by_whole : (parts : List PhysicalLine) → AllByRecursion IsRead parts → map (λ part. part.text) parts ≡ map without_continuation (wholes parts)
texts_by_whole [] h = refl
texts_by_whole (part ∷ parts) h = ap (λ t. t ∷ map (λ p. p.text) parts) h.0.spelled ∙ ap (λ ts. without_continuation part.whole ∷ ts) (texts_by_whole parts h.1)

skipped_by_whole : (line : LogicalLine) → AreRead line → is_skipped line ≡ whole_skipped (line_wholes line)
unfolding whole_skipped
skipped_by_whole line h = ap (λ ts. skips (first_non_blank (join_with_byte 32 ts))) (texts_by_whole line.parts h)

abbrev AreKept : List (List Bytes) → Type 0
AreKept gs = AllByRecursion (λ g. whole_skipped g ≡ false) gs

not_skipped : (b : Bool) → not b ≡ true → b ≡ false
not_skipped true e = absurd (cc)
not_skipped false e = refl

kept_wholes : (lines : List LogicalLine) → AllByRecursion AreRead lines → AreKept (map line_wholes (kept lines))
kept_wholes [] h = tt
kept_wholes (line ∷ lines) h =
    cond_both (not (is_skipped line)) (line ∷ kept lines) (kept lines) (λ ls. AreKept (map line_wholes ls))
    (λ e. (sym (skipped_by_whole line h.0) ∙ not_skipped (is_skipped line) e, kept_wholes lines h.1)) (λ _. kept_wholes lines h.1)

kept_all : (lines : List LogicalLine) → AllByRecursion AreRead lines → AreKept (map line_wholes lines) → kept lines ≡ lines
kept_all [] h k = refl
kept_all (line ∷ lines) h k =
    cond-true (not (is_skipped line)) (line ∷ kept lines) (kept lines) (ap not (skipped_by_whole line h.0 ∙ k.0)) ∙ ap (λ ls. line ∷ ls) (kept_all lines h.1 k.1)

left_kept : (p : LogicalLine → Bool) (lines : List LogicalLine) → AreKept (map line_wholes lines) → AreKept (map line_wholes (filter p lines))
left_kept p [] h = tt
left_kept p (line ∷ lines) h =
    cond_both (p line) (line ∷ filter p lines) (filter p lines) (λ ls. AreKept (map line_wholes ls)) (λ _. (h.0, left_kept p lines h.1)) (λ _. left_kept p lines h.1)

-- 5. The lines of a text again.

module _ (text : Bytes) where
  parts : List PhysicalLine
  parts = physical_lines text

  parts_read : AllByRecursion IsRead (physical_lines text)
  parts_read = lines_read 0 (slice_split is_feed text) (parts_clean text)

  all_read : AllByRecursion AreRead (numbered 1 (groups (physical_lines text)))
  all_read = numbered_read 1 (groups (physical_lines text)) (groups_read (physical_lines text) parts_read)

  lines_are_read : AllByRecursion AreRead (logical_lines text)
  lines_are_read = all_left AreRead (λ line. not (is_skipped line)) (numbered 1 (groups (physical_lines text))) all_read

  lines_are_groups : AreGroups (map line_wholes (logical_lines text))
  lines_are_groups =
      groups_left line_wholes (λ line. not (is_skipped line)) (numbered 1 (groups (physical_lines text)))
      (subst AreGroups (sym (wholes_numbered 1 (groups (physical_lines text)) ∙ wholes_of_groups (physical_lines text))) (are_groups (wholes (physical_lines text))))

  lines_are_kept : AreKept (map line_wholes (logical_lines text))
  lines_are_kept = kept_wholes (numbered 1 (groups (physical_lines text))) all_read

clean_parts : (parts : List PhysicalLine) (rest : List Bytes) → AllByRecursion IsRead parts → AllByRecursion HasNoFeed rest → AllByRecursion HasNoFeed (wholes parts ++ rest)
clean_parts [] rest h k = k
clean_parts (part ∷ parts) rest h k = (h.0.clean, clean_parts parts rest h.1 k)

clean_lines : (lines : List LogicalLine) → AllByRecursion AreRead lines → AllByRecursion HasNoFeed (flat_map (λ g. g) (map line_wholes lines))
clean_lines [] h = tt
clean_lines (line ∷ lines) h = clean_parts line.parts (flat_map (λ g. g) (map line_wholes lines)) h.0 (clean_lines lines h.1)

written_parts : (parts : List PhysicalLine) → flat_map written_part parts ≡ flat_map written (wholes parts)
written_parts [] = refl
written_parts (part ∷ parts) = ap (λ rest. written part.whole ++ rest) (written_parts parts)

written_lines : (lines : List LogicalLine) → flat_map written_line lines ≡ flat_map written (flat_map (λ g. g) (map line_wholes lines))
written_lines [] = refl
written_lines (line ∷ lines) =
    ap (λ t. t ++ flat_map written_line lines) (written_parts line.parts) ∙ ap (λ t. flat_map written (line_wholes line) ++ t) (written_lines lines)
    ∙ sym (flat_map-append written (line_wholes line) (flat_map (λ g. g) (map line_wholes lines)))

-- lines that are written have the same words when they are read
pub same_words : (text : Bytes) (p : LogicalLine → Bool) → map raw_words (logical_lines (flat_map written_line (filter p (logical_lines text)))) ≡ map raw_words (filter p (logical_lines text))
same_words text p =
    let sent : List LogicalLine = filter p (logical_lines text) in
    let again : Bytes = flat_map written_line sent in
    let read : AllByRecursion AreRead sent = all_left AreRead p (logical_lines text) (lines_are_read text) in
    let back : wholes (physical_lines again) ≡ flat_map (λ g. g) (map line_wholes sent) =
    ap (λ t. wholes (physical_lines t)) (written_lines sent) ∙ read_back 0 (flat_map (λ g. g) (map line_wholes sent)) (clean_lines sent read) in
    let same : map line_wholes (numbered 1 (groups (physical_lines again))) ≡ map line_wholes sent =
    wholes_numbered 1 (groups (physical_lines again)) ∙ wholes_of_groups (physical_lines again) ∙ ap whole_groups back
    ∙ regroup (map line_wholes sent) (groups_left line_wholes p (logical_lines text) (lines_are_groups text)) in
    let all : logical_lines again ≡ numbered 1 (groups (physical_lines again)) =
    kept_all (numbered 1 (groups (physical_lines again))) (all_read again) (subst AreKept (sym same) (left_kept p (logical_lines text) (lines_are_kept text))) in
    words_of_lines (logical_lines again) (lines_are_read again)
    ∙ ap (λ ls. map (flat_map whole_words) (map line_wholes ls)) all ∙ ap (map (flat_map whole_words)) same
    ∙ sym (words_of_lines sent read)

values_of : (fs : List (LineFault Rule)) (xs ys : List Bytes) → unless_fault fs xs ≡ Ok ys → xs ≡ ys
values_of [] xs ys e = cc
values_of (f ∷ fs) xs ys e = absurd (cc)

pub split_keeps_words : SplitKeepsWords
split_keeps_words table text texts fs e below =
    let are : texts_to table (logical_lines text) ≡ texts = values_of (faults (destination_of table) (logical_lines text)) (texts_to table (logical_lines text)) texts e in
    let is : get_or texts fs [] ≡ text_to table (logical_lines text) fs =
    ap (λ ts. get_or ts fs []) (sym are) ∙ get_or-map-range_with_len (text_to table (logical_lines text)) 0 (length table) fs fs [] below (zero-add fs) in
    ap (λ t. map raw_words (logical_lines t)) is ∙ same_words text (λ line. is_to fs (destination_of table line))
