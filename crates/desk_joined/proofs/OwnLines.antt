-- The lines of the joined text are read as those of the texts, each by itself.
use Rattle.std.proofs.Common.{◌≡◌, ℕ, ◌+◌, ◌<◌, ◌≤◌, suc, Bool, true, false, not, cond, List, [], ◌∷◌, ◌++◌, Option, Some, Ok, Err, append_assoc, arith, filter, length, length-append, map, refl, sym, ap, ◌∙◌}
use Rattle.std.specs.List.{flat_map, list_any, onto_first}
use Rattle.std.specs.Option.{option_map}
use Rattle.std.specs.Prelude.{count_by}
use Rattle.std.specs.Result.{result_map_both}
use Rattle.std.specs.Str.Lines.{lines}
use Rattle.desk_text.specs.Lines.{LogicalLine, is_continued, logical_lines}
use Rattle.desk_text.specs.Word.{RawWord, line_has_open_quote, line_words}
use Rattle.desk_text.specs.declared.word.OpenQuote.{OpenQuote}
use Rattle.desk_exports.specs.Grammar.{grammar_line, grammar_word}
use Rattle.desk_exports.specs.declared.grammar.GrammarWord.{GrammarWord}
use Rattle.desk_origins.specs.Origins.{origin, own_line}
use Rattle.desk_origins.specs.declared.origins.Origin.{Origin}
use Rattle.desk_split.proofs.NumberedLines.{counted, said, said_at_empty, said_of_text}
use Rattle.desk_split.proofs.WholeLines.{AreSpelled, line_wholes, whole_groups, whole_skipped}
use Rattle.desk_joined.specs.Joining.{NamedText, is_feed, joined, origins_behind, origins_of, section}
use Rattle.desk_joined.specs.Laws.{JoinedLinesAreReadAsAlone, JoinedTextHasTheLinesOfAll, OwnLine, OwnPart, OwnPlace, as_read, own_parts, place_alone, place_in, placed_lines}
use Rattle.desk_joined.proofs.Numbers.{feeds_behind, lines_of_section, origin_at}
use Rattle.desk_joined.proofs.OwnParts.{no_more_parts, parts_alike, parts_by_whole, whole_parts}
use Rattle.desk_joined.proofs.OwnWords.{is_open, none_open, none_seen, open_by_whole, seen, seen_by_whole}

abbrev Bytes : Type 0
Bytes = List ℕ

abbrev feeds : Bytes → ℕ
feeds text = count_by is_feed text

-- 1. How a line is read, by its physical lines alone.

abbrev raw_of : RawWord → Bytes
raw_of word = word.raw

abbrev raw_in : List Bytes → List Bytes
raw_in group = flat_map (seen raw_of (λ s t raw. refl)) group

abbrev grammar_in : List Bytes → List GrammarWord
grammar_in group = flat_map (seen grammar_word (λ s t raw. refl)) group

abbrev with_all : OwnPlace → List OwnPart → Bool → List Bytes → List GrammarWord → OwnLine
with_all place parts unclosed words grammar = record {
  place = place;
  parts = parts;
  words = cond unclosed (Err (record {})) (Ok words);
  grammar = cond unclosed (Err (record {})) (Ok (grammar_line grammar));
}

abbrev whole_read : (ℕ → OwnPlace) → ℕ → List Bytes → OwnLine
whole_read place n group = with_all (place n) (whole_parts place n group) (list_any is_open group) (raw_in group) (grammar_in group)

module _ (place : ℕ → OwnPlace) where
  if_closed : (line : LogicalLine) → as_read place line
      ≡ with_all (place line.number) (own_parts place line.number line.parts) (line_has_open_quote line) (map raw_of (line_words line)) (map grammar_word (line_words line))
  if_closed line = by (line_has_open_quote line)
    where
      by : (unclosed : Bool) → record {
        place = place line.number;
        parts = own_parts place line.number line.parts;
        words = result_map_both {E = OpenQuote} (map raw_of) (λ (quote : OpenQuote). quote) (cond unclosed (Err (record {})) (Ok (line_words line)));
        grammar = result_map_both {E = OpenQuote} (λ (words : List RawWord). grammar_line (map grammar_word words)) (λ (quote : OpenQuote). quote) (cond unclosed (Err (record {})) (Ok (line_words line)));
      } ≡ with_all (place line.number) (own_parts place line.number line.parts) unclosed (map raw_of (line_words line)) (map grammar_word (line_words line))
      by true = refl
      by false = refl

  read_by_whole : (line : LogicalLine) → AreSpelled line → as_read place line ≡ whole_read place line.number (line_wholes line)
  read_by_whole line h =
      let group = line_wholes line in
      if_closed line
      ∙ ap (λ (parts : List OwnPart). with_all (place line.number) parts (line_has_open_quote line) (map raw_of (line_words line)) (map grammar_word (line_words line))) (parts_by_whole place line.number line.parts h)
      ∙ ap (λ (unclosed : Bool). with_all (place line.number) (whole_parts place line.number group) unclosed (map raw_of (line_words line)) (map grammar_word (line_words line))) (open_by_whole line.parts h)
      ∙ ap (λ (words : List Bytes). with_all (place line.number) (whole_parts place line.number group) (list_any is_open group) words (map grammar_word (line_words line))) (seen_by_whole raw_of (λ s t raw. refl) line.parts h)
      ∙ ap (with_all (place line.number) (whole_parts place line.number group) (list_any is_open group) (raw_in group)) (seen_by_whole grammar_word (λ s t raw. refl) line.parts h)

  no_more_read : (n : ℕ) (group : List Bytes) → whole_read place n (group ++ [] ∷ []) ≡ whole_read place n group
  no_more_read n group =
      let more : List Bytes = group ++ [] ∷ [] in
      ap (λ (parts : List OwnPart). with_all (place n) parts (list_any is_open more) (raw_in more) (grammar_in more)) (no_more_parts place n group)
      ∙ ap (λ (unclosed : Bool). with_all (place n) (whole_parts place n group) unclosed (raw_in more) (grammar_in more)) (none_open group)
      ∙ ap (λ (words : List Bytes). with_all (place n) (whole_parts place n group) (list_any is_open group) words (grammar_in more)) (none_seen raw_of (λ s t raw. refl) group)
      ∙ ap (with_all (place n) (whole_parts place n group) (list_any is_open group) (raw_in group)) (none_seen grammar_word (λ s t raw. refl) group)

  read_of_text : (text : Bytes) → map (as_read place) (logical_lines text) ≡ said (whole_read place) (counted 1 (whole_groups (lines text)))
  read_of_text text = said_of_text (whole_read place) (as_read place) read_by_whole text

-- 2. Lines that stand at the same places are read alike.

abbrev total : List (List Bytes) → ℕ
total [] = 0
total (g ∷ gs) = length g + total gs

total_groups : (ls : List Bytes) → total (whole_groups ls) ≡ length ls
unfolding whole_groups
total_groups [] = refl
total_groups (line ∷ ls) = by (is_continued line) (whole_groups ls) ∙ ap suc (total_groups ls)
  where
    by : (b : Bool) (gs : List (List Bytes)) → total (cond b (onto_first line gs) ((line ∷ []) ∷ gs)) ≡ suc (total gs)
    by true [] = refl
    by true (g ∷ gs) = omega arith
    by false gs = omega arith

abbrev takes_part : ℕ × List Bytes → Bool
takes_part one = not (whole_skipped one.1)

module _ (one other : ℕ → OwnPlace) (behind : ℕ) where
  line_alike : (n : ℕ) (g : List Bytes) → ((k : ℕ) → n ≤ k → k ≤ n + length g → one (behind + k) ≡ other k) → whole_read one (behind + n) g ≡ whole_read other n g
  line_alike n g same =
      ap (λ (place : OwnPlace). with_all place (whole_parts one (behind + n) g) (list_any is_open g) (raw_in g) (grammar_in g)) (same n (omega arith) (omega arith))
      ∙ ap (λ (parts : List OwnPart). with_all (other n) parts (list_any is_open g) (raw_in g) (grammar_in g))
      (parts_alike one other (behind + n) n g (λ i within. ap one (omega arith) ∙ same (n + i) (omega arith) (omega (arith, within))))

  lines_alike : (n : ℕ) (gs : List (List Bytes)) → ((k : ℕ) → n ≤ k → k ≤ n + total gs → one (behind + k) ≡ other k)
      → said (whole_read one) (counted (behind + n) gs) ≡ said (whole_read other) (counted n gs)
  lines_alike n [] same = refl
  lines_alike n (g ∷ gs) same =
      by (not (whole_skipped g)) (line_alike n g (λ k low high. same k low (omega (arith, high))))
      (ap (λ (k : ℕ). said (whole_read one) (counted k gs)) (omega arith)
      ∙ lines_alike (n + length g) gs (λ k low high. same k (omega (arith, low)) (omega (arith, high))))
    where
      by : (b : Bool) → whole_read one (behind + n) g ≡ whole_read other n g
          → said (whole_read one) (counted (behind + n + length g) gs) ≡ said (whole_read other) (counted (n + length g) gs)
          → map (λ (a : ℕ × List Bytes). whole_read one a.0 a.1) (cond b ((behind + n, g) ∷ filter takes_part (counted (behind + n + length g) gs)) (filter takes_part (counted (behind + n + length g) gs)))
          ≡ map (λ (a : ℕ × List Bytes). whole_read other a.0 a.1) (cond b ((n, g) ∷ filter takes_part (counted (n + length g) gs)) (filter takes_part (counted (n + length g) gs)))
      by true first rest =
          ap (λ (line : OwnLine). line ∷ said (whole_read one) (counted (behind + n + length g) gs)) first
          ∙ ap (λ (ls : List OwnLine). whole_read other n g ∷ ls) rest
      by false first rest = rest

-- 3. The lines of one text, where they stand in the whole, and those of all.

abbrev lines_read : NamedText → List OwnLine
lines_read file = map (as_read (place_alone file)) (logical_lines file.text)

place_found : (earlier : List Origin) (before : Bytes) (file : NamedText) (files : List NamedText) (k : ℕ) → 1 ≤ k → k ≤ 1 + length (lines file.text)
    → place_in (earlier ++ origins_behind before (file ∷ files)) (feeds before + k) ≡ place_alone file k
place_found earlier before file files k low high =
    let more = feeds_behind before file in
    ap (λ (one : Option Origin). record { path = option_map (λ (o : Origin). o.path) one; number = option_map (λ (o : Origin). own_line o (feeds before + k)) one })
    (origin_at earlier before file files (feeds before + k) (omega (arith, low)) (omega (arith, high, more)))
    ∙ ap (λ (n : ℕ). record { path = Some file.path; number = Some n }) (omega arith)

read_in_whole : (earlier : List Origin) (before : Bytes) (file : NamedText) (files : List NamedText)
    → said (whole_read (place_in (earlier ++ origins_behind before (file ∷ files)))) (counted (feeds before + 1) (whole_groups (lines file.text))) ≡ lines_read file
read_in_whole earlier before file files =
    let many = total_groups (lines file.text) in
    lines_alike (place_in (earlier ++ origins_behind before (file ∷ files))) (place_alone file) (feeds before) 1 (whole_groups (lines file.text))
    (λ k low high. place_found earlier before file files k low (omega (arith, high, many)))
    ∙ sym (read_of_text (place_alone file) file.text)

read_behind : (earlier : List Origin) (before : Bytes) (files : List NamedText)
    → said (whole_read (place_in (earlier ++ origins_behind before files))) (counted (feeds before + 1) (whole_groups (lines (joined files)))) ≡ flat_map lines_read files
unfolding whole_groups
read_behind earlier before [] = refl
read_behind earlier before (file ∷ files) =
    let place : ℕ → OwnPlace = place_in (earlier ++ origins_behind before (file ∷ files)) in
    let own = origin file.path (feeds before) in
    let after = before ++ section file.text in
    ap (λ (ls : List Bytes). said (whole_read place) (counted (feeds before + 1) (whole_groups ls))) (lines_of_section file (joined files))
    ∙ said_at_empty (whole_read place) (no_more_read place) (feeds before + 1) (lines file.text) (lines (joined files))
    ∙ ap (λ (ls : List OwnLine). ls ++ said (whole_read place) (counted (feeds before + 1 + suc (length (lines file.text))) (whole_groups (lines (joined files))))) (read_in_whole earlier before file files)
    ∙ ap (λ (n : ℕ). lines_read file ++ said (whole_read place) (counted n (whole_groups (lines (joined files))))) (let more = feeds_behind before file in omega (arith, more))
    ∙ ap (λ (os : List Origin). lines_read file ++ said (whole_read (place_in os)) (counted (feeds after + 1) (whole_groups (lines (joined files))))) (sym (append_assoc earlier (own ∷ []) (origins_behind after files)))
    ∙ ap (λ (ls : List OwnLine). lines_read file ++ ls) (read_behind (earlier ++ own ∷ []) after files)

pub lines_read_as_alone : JoinedLinesAreReadAsAlone
lines_read_as_alone files = read_of_text (place_in (origins_of files)) (joined files) ∙ read_behind [] [] files

-- 4. The physical lines.

abbrev Placed : Type 0
Placed = List (OwnPlace × Bytes)

placed_on : (place : ℕ → OwnPlace) (n : ℕ) (before rest : List Bytes) → placed_lines place n (before ++ rest) ≡ placed_lines place n before ++ placed_lines place (n + length before) rest
placed_on place n [] rest = ap (λ (k : ℕ). placed_lines place k rest) (omega arith)
placed_on place n (line ∷ before) rest =
    ap {B = Placed} (λ (more : Placed). (place n, line) ∷ more)
    (placed_on place (n + 1) before rest ∙ ap (λ (k : ℕ). placed_lines place (n + 1) before ++ placed_lines place k rest) (omega arith))

placed_alike : (one other : ℕ → OwnPlace) (a b : ℕ) (ls : List Bytes) → ((i : ℕ) → i < length ls → one (a + i) ≡ other (b + i)) → placed_lines one a ls ≡ placed_lines other b ls
placed_alike one other a b [] same = refl
placed_alike one other a b (line ∷ ls) same =
    ap {B = Placed} (λ (place : OwnPlace). (place, line) ∷ placed_lines one (a + 1) ls) (ap one (omega arith) ∙ same 0 (omega arith) ∙ ap other (omega arith))
    ∙ ap {B = Placed} (λ (more : Placed). (other b, line) ∷ more)
    (placed_alike one other (a + 1) (b + 1) ls (λ i within. ap one (omega arith) ∙ same (suc i) (omega (arith, within)) ∙ ap other (omega arith)))

abbrev lines_placed : NamedText → Placed
lines_placed file = placed_lines (place_alone file) 1 (lines file.text ++ [] ∷ [])

placed_behind : (earlier : List Origin) (before : Bytes) (files : List NamedText)
    → placed_lines (place_in (earlier ++ origins_behind before files)) (feeds before + 1) (lines (joined files)) ≡ flat_map lines_placed files
placed_behind earlier before [] = refl
placed_behind earlier before (file ∷ files) =
    let place : ℕ → OwnPlace = place_in (earlier ++ origins_behind before (file ∷ files)) in
    let own = origin file.path (feeds before) in
    let after = before ++ section file.text in
    let ended : List Bytes = lines file.text ++ [] ∷ [] in
    let long : length ended ≡ length (lines file.text) + 1 = length-append (lines file.text) ([] ∷ []) in
    let more = feeds_behind before file in
    ap (placed_lines place (feeds before + 1)) (lines_of_section file (joined files) ∙ sym (append_assoc (lines file.text) ([] ∷ []) (lines (joined files))))
    ∙ placed_on place (feeds before + 1) ended (lines (joined files))
    ∙ ap (λ (ls : Placed). ls ++ placed_lines place (feeds before + 1 + length ended) (lines (joined files)))
    (placed_alike place (place_alone file) (feeds before + 1) 1 ended
    (λ i within. ap place (omega arith) ∙ place_found earlier before file files (1 + i) (omega arith) (omega (arith, within, long))))
    ∙ ap (λ (n : ℕ). lines_placed file ++ placed_lines place n (lines (joined files))) (omega (arith, more, long))
    ∙ ap (λ (os : List Origin). lines_placed file ++ placed_lines (place_in os) (feeds after + 1) (lines (joined files))) (sym (append_assoc earlier (own ∷ []) (origins_behind after files)))
    ∙ ap (λ (ls : Placed). lines_placed file ++ ls) (placed_behind (earlier ++ own ∷ []) after files)

pub has_lines_of_all : JoinedTextHasTheLinesOfAll
has_lines_of_all files = placed_behind [] [] files
