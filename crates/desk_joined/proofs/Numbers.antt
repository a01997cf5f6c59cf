-- Which of the texts each line of the whole is of, and its number there.
use Rattle.std.proofs.Common.{◌≡◌, ℕ, ◌+◌, ◌<◌, ◌≤◌, suc, nat_lt, Bool, true, false, List, [], ◌∷◌, ◌++◌, Option, Some, None, append-nil, append_assoc, ap, arith, count_by, find, length, length-append, map, cond, refl, reverse, sym, ◌∙◌}
use Rattle.std.specs.List.{AllByRecursion, flat_map, slice_split}
use Rattle.std.specs.Option.{option_map, option_or}
use Rattle.std.specs.Str.Lines.{lines, strip_carriage_return}
use Rattle.std.proofs.lemmas.Bool.{cond-false, cond-true, le-ltb, lt-ltb}
use Rattle.std.proofs.lemmas.List.{length-map, reverse-append}
use Rattle.std.proofs.lemmas.List.Folds.{find-append}
use Rattle.std.proofs.lemmas.List.Splits.{length-slice_split}
use Rattle.std.proofs.lemmas.List.Sums.{sum_by-append}
use Rattle.desk_text.specs.Lines.{LogicalLine}
use Rattle.desk_origins.specs.Origins.{origin, origin_of, own_line}
use Rattle.desk_origins.specs.declared.origins.Origin.{Origin}
use Rattle.desk_split.specs.Joining.{last_line_end}
use Rattle.desk_split.specs.Splitting.{raw_words}
use Rattle.desk_split.proofs.LineTexts.{behind_feed, comment_lines, section_lines}
use Rattle.desk_split.proofs.NumberedLines.{counted, said, said_at_empty, said_behind, said_in_range, said_of_text}
use Rattle.desk_split.proofs.Told.{no_more_words, whole_words, words_by_whole}
use Rattle.desk_split.proofs.WholeLines.{AreSpelled, line_wholes, whole_groups}
use Rattle.desk_joined.specs.Joining.{NamedText, is_feed, joined, origins_behind, origins_of, section}
use Rattle.desk_joined.specs.Laws.{JoinedLinesAreThoseOfAll, LineOfText, line_in, lines_alone}
use Rattle.desk_joined.proofs.Words.{bare}

abbrev Bytes : Type 0
Bytes = List ℕ

abbrev feeds : Bytes → ℕ
feeds text = count_by is_feed text

-- 1. A section has as many lines as it has line feeds.

pub lines_of_section : (file : NamedText) (rest : Bytes) → lines (section file.text ++ rest) ≡ lines file.text ++ [] ∷ lines rest
unfolding comment_lines
lines_of_section file rest = section_lines (bare file) rest

lines_of_ended : (a : Bytes) → length (lines (a ++ 10 ∷ [])) ≡ feeds (a ++ 10 ∷ [])
lines_of_ended a =
    ap length (behind_feed a [] ∙ append-nil (map strip_carriage_return (slice_split is_feed a)))
    ∙ length-map (slice_split is_feed a) strip_carriage_return
    ∙ length-slice_split is_feed a
    ∙ sym (sum_by-append (λ b. cond (is_feed b) 1 0) a (10 ∷ []))

feeds_of_section : (file : NamedText) → feeds (section file.text) ≡ suc (length (lines file.text))
feeds_of_section file =
    let front : Bytes = file.text ++ last_line_end file.text in
    sym (lines_of_ended front) ∙ ap (λ (text : Bytes). length (lines text)) (sym (append-nil (section file.text)))
    ∙ ap length (lines_of_section file []) ∙ length-append (lines file.text) ([] ∷ []) ∙ omega arith

pub feeds_behind : (before : Bytes) (file : NamedText) → feeds (before ++ section file.text) ≡ feeds before + suc (length (lines file.text))
feeds_behind before file =
    sum_by-append (λ b. cond (is_feed b) 1 0) before (section file.text) ∙ ap (λ (n : ℕ). feeds before + n) (feeds_of_section file)

-- 2. The text that a line is of.

module _ (p : Origin → Bool) where
  none_in : (origins : List Origin) → AllByRecursion (λ (one : Origin). p one ≡ false) origins → find p (reverse origins) ≡ None
  none_in [] h = refl
  none_in (one ∷ origins) h =
      ap (find p) (reverse-append (one ∷ []) origins) ∙ find-append p (reverse origins) (one ∷ [])
      ∙ ap (λ (found : Option Origin). option_or found (find p (one ∷ []))) (none_in origins h.1) ∙ cond-false (p one) (Some one) None h.0

  last_in : (earlier : List Origin) (one : Origin) (later : List Origin) → p one ≡ true → AllByRecursion (λ (other : Origin). p other ≡ false) later → find p (reverse (earlier ++ one ∷ later)) ≡ Some one
  last_in earlier one later is none =
      ap (find p) (reverse-append earlier (one ∷ later)) ∙ find-append p (reverse (one ∷ later)) (reverse earlier)
      ∙ ap (λ (found : Option Origin). option_or found (find p (reverse earlier)))
      (ap (find p) (reverse-append (one ∷ []) later) ∙ find-append p (reverse later) (one ∷ [])
      ∙ ap (λ (found : Option Origin). option_or found (find p (one ∷ []))) (none_in later none) ∙ cond-true (p one) (Some one) None is)

-- no later text begins before this line
none_before : (line : ℕ) (before : Bytes) (files : List NamedText) → line ≤ feeds before → AllByRecursion (λ (one : Origin). nat_lt one.before line ≡ false) (origins_behind before files)
none_before line before [] low = tt
none_before line before (file ∷ files) low =
    let more = feeds_behind before file in
    (le-ltb (feeds before) line low, none_before line (before ++ section file.text) files (omega (arith, low, more)))

pub origin_at : (earlier : List Origin) (before : Bytes) (file : NamedText) (files : List NamedText) (line : ℕ) → feeds before < line → line ≤ feeds (before ++ section file.text)
    → origin_of (earlier ++ origins_behind before (file ∷ files)) line ≡ Some (origin file.path (feeds before))
origin_at earlier before file files line low high =
    last_in (λ (one : Origin). nat_lt one.before line) earlier (origin file.path (feeds before)) (origins_behind (before ++ section file.text) files)
    (lt-ltb (feeds before) line low) (none_before line (before ++ section file.text) files high)

-- 3. What is told of a line, by the texts of all.

abbrev told_in : List Origin → ℕ → List Bytes → LineOfText
told_in origins n group = record {
  path = option_map (λ (one : Origin). one.path) (origin_of origins n);
  number = option_map (λ (one : Origin). own_line one n) (origin_of origins n);
  words = whole_words group;
}

abbrev told_alone : NamedText → ℕ → List Bytes → LineOfText
told_alone file n group = record { path = Some file.path; number = Some n; words = whole_words group }

told_line : (origins : List Origin) (line : LogicalLine) → AreSpelled line → line_in origins line ≡ told_in origins line.number (line_wholes line)
told_line origins line spelled =
    ap (λ (words : List Bytes). record {
      path = option_map (λ (one : Origin). one.path) (origin_of origins line.number);
      number = option_map (λ (one : Origin). own_line one line.number) (origin_of origins line.number);
      words = words;
    }) (words_by_whole line spelled)

abbrev with_words : Option Bytes → Option ℕ → List Bytes → LineOfText
with_words path number words = record { path = path; number = number; words = words }

lines_of_one : (file : NamedText) → lines_alone file ≡ said (told_alone file) (counted 1 (whole_groups (lines file.text)))
lines_of_one file =
    said_of_text (told_alone file) (λ (line : LogicalLine). with_words (Some file.path) (Some line.number) (raw_words line))
    (λ line spelled. ap (with_words (Some file.path) (Some line.number)) (words_by_whole line spelled)) file.text

-- the lines of one text, where they stand in the whole
lines_in_whole : (earlier : List Origin) (before : Bytes) (file : NamedText) (files : List NamedText)
    → said (told_in (earlier ++ origins_behind before (file ∷ files))) (counted (feeds before + 1) (whole_groups (lines file.text))) ≡ lines_alone file
lines_in_whole earlier before file files =
    let origins = earlier ++ origins_behind before (file ∷ files) in
    said_behind (told_in origins) (feeds before) 1 (whole_groups (lines file.text))
    ∙ said_in_range (λ (k : ℕ) (group : List Bytes). told_in origins (feeds before + k) group) (told_alone file) 1 (lines file.text)
    (λ k group low high.
    let found : origin_of origins (feeds before + k) ≡ Some (origin file.path (feeds before)) =
    origin_at earlier before file files (feeds before + k) (omega (arith, low)) (let more = feeds_behind before file in omega (arith, high, more)) in
    ap (λ (one : Option Origin). with_words (option_map (λ (o : Origin). o.path) one) (option_map (λ (o : Origin). own_line o (feeds before + k)) one) (whole_words group)) found
    ∙ ap (λ (n : ℕ). with_words (Some file.path) (Some n) (whole_words group)) (omega arith))
    ∙ sym (lines_of_one file)

lines_behind : (earlier : List Origin) (before : Bytes) (files : List NamedText)
    → said (told_in (earlier ++ origins_behind before files)) (counted (feeds before + 1) (whole_groups (lines (joined files)))) ≡ flat_map lines_alone files
unfolding whole_groups
lines_behind earlier before [] = refl
lines_behind earlier before (file ∷ files) =
    let origins = earlier ++ origins_behind before (file ∷ files) in
    let own = origin file.path (feeds before) in
    let after = before ++ section file.text in
    ap (λ (ls : List Bytes). said (told_in origins) (counted (feeds before + 1) (whole_groups ls))) (lines_of_section file (joined files))
    ∙ said_at_empty (told_in origins) (λ n group. ap (λ (words : List Bytes). with_words (option_map (λ (o : Origin). o.path) (origin_of origins n)) (option_map (λ (o : Origin). own_line o n) (origin_of origins n)) words) (no_more_words group))
    (feeds before + 1) (lines file.text) (lines (joined files))
    ∙ ap (λ (ls : List LineOfText). ls ++ said (told_in origins) (counted (feeds before + 1 + suc (length (lines file.text))) (whole_groups (lines (joined files))))) (lines_in_whole earlier before file files)
    ∙ ap (λ (n : ℕ). lines_alone file ++ said (told_in origins) (counted n (whole_groups (lines (joined files))))) (let more = feeds_behind before file in omega (arith, more))
    ∙ ap (λ (os : List Origin). lines_alone file ++ said (told_in os) (counted (feeds after + 1) (whole_groups (lines (joined files))))) (sym (append_assoc earlier (own ∷ []) (origins_behind after files)))
    ∙ ap (λ (ls : List LineOfText). lines_alone file ++ ls) (lines_behind (earlier ++ own ∷ []) after files)

pub lines_of_all : JoinedLinesAreThoseOfAll
lines_of_all files =
    said_of_text (told_in (origins_of files)) (line_in (origins_of files)) (told_line (origins_of files)) (joined files)
    ∙ lines_behind [] [] files
