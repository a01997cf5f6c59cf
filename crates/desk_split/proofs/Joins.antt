-- The laws of the joined text.
use Rattle.std.proofs.Common.{◌≡◌, ◌≢◌, ℕ, zero, suc, ◌<◌, Bool, true, false, ◌||◌, cond, eqb, List, [], ◌∷◌, ◌++◌, Option, Some, Result, Ok, Err, filter, get_or, length, map, refl, sym, ap, subst, ◌∙◌, arith}
use Rattle.std.specs.Prelude.{codes}
use Rattle.std.specs.Fmt.{decimal}
use Rattle.std.specs.List.{AllByRecursion, AllPairs, cons_option, flat_map}
use Rattle.std.specs.Str.Lines.{lines}
use Rattle.std.proofs.lemmas.Bool.{cond-true, cond-false, eq-eqb, ne_eqb}
use Rattle.std.proofs.lemmas.List.{append-nil, map-append}
use Rattle.std.proofs.lemmas.List.Elements.{filter-append, recursion_from_All}
use Rattle.desk_text.specs.Lines.{LogicalLine, logical_lines}
use Rattle.desk_text.specs.Reading.{fault_at, unless_fault}
use Rattle.desk_text.specs.declared.reading.LineFault.{LineFault}
use Rattle.desk_tables.specs.declared.filesystems.FsId.{FsId}
use Rattle.desk_tables.specs.declared.filesystems.Mount.{Mount}
use Rattle.desk_exports.specs.Laws.{faults}
use Rattle.desk_split.specs.Splitting.{SplitKeepsWords, destination_of, is_to, lines_to, raw_words, split_text, texts_to}
use Rattle.desk_exports.specs.declared.rules.Rule.{Rule}
use Rattle.desk_split.specs.Joining.{StoredFile, comment, has_feed, joined, section}
use Rattle.desk_split.specs.Laws.{AreSentAlike, CanBeSplit, EachTextComesBack, JoinKeepsWords, JoinedTextsCanBeSplit, OwnFile, StaysAtHome, lines_of, words_in}
use Rattle.desk_split.proofs.LineTexts.{Bytes, comment_lines, section_lines}
use Rattle.desk_split.proofs.WholeLines.{AreSpelled, kept_groups, line_wholes, lines_are_spelled, lines_by_whole, whole_groups}
use Rattle.desk_split.proofs.EmptyLines.{behind_comment_line, part_at_empty}
use Rattle.desk_split.proofs.Told.{Told, no_more_told, no_more_words, told, told_by_whole, whole_told, whole_words, words_by_whole}

-- 1. What the lines of the joined text say, where that is seen from the lines alone and an empty line says nothing.

module _ {X : Type 0} (f : LogicalLine → X) (says : List Bytes → X) (same : (line : LogicalLine) → AreSpelled line → f line ≡ says (line_wholes line)) (nothing : (group : List Bytes) → says (group ++ [] ∷ []) ≡ says group) where
  each_says : (ls : List LogicalLine) → AllByRecursion AreSpelled ls → map f ls ≡ map says (map line_wholes ls)
  each_says [] h = refl
  each_says (line ∷ ls) h = ap (λ x. x ∷ map f ls) (same line h.0) ∙ ap (λ xs. says (line_wholes line) ∷ xs) (each_says ls h.1)

  of_text : (text : Bytes) → map f (logical_lines text) ≡ map says (kept_groups (lines text))
  of_text text = each_says (logical_lines text) (lines_are_spelled text) ∙ ap (map says) (lines_by_whole text)

  without_comment : (file : StoredFile) (rest : List Bytes) → map says (kept_groups (comment_lines file ++ rest)) ≡ map says (kept_groups rest)
  unfolding comment_lines
  without_comment file rest = by (has_feed file.name || has_feed file.author)
    where
      by : (b : Bool) → map says (kept_groups (cond b [] (comment file.name file.rev file.author ∷ []) ++ rest)) ≡ map says (kept_groups rest)
      by true = refl
      by false = behind_comment_line says nothing (codes "# " ++ file.name ++ codes " rev " ++ decimal file.rev ++ codes " (" ++ file.author) rest refl

  of_section : (file : StoredFile) (rest : Bytes) → map says (kept_groups (lines (section file ++ rest))) ≡ map f (logical_lines file.text) ++ map says (kept_groups (lines rest))
  of_section file rest =
      ap (λ ls. map says (kept_groups ls)) (section_lines file rest)
      ∙ without_comment file (lines file.text ++ [] ∷ lines rest)
      ∙ part_at_empty says nothing (lines file.text) (lines rest)
      ∙ ap (λ xs. xs ++ map says (kept_groups (lines rest))) (sym (of_text file.text))

  of_sections : (files : List StoredFile) → map says (kept_groups (lines (joined files))) ≡ flat_map (λ file. map f (logical_lines file.text)) files
  unfolding whole_groups
  of_sections [] = refl
  of_sections (file ∷ files) = of_section file (joined files) ∙ ap (λ xs. map f (logical_lines file.text) ++ xs) (of_sections files)

  of_joined : (files : List StoredFile) → map f (logical_lines (joined files)) ≡ flat_map (λ file. map f (logical_lines file.text)) files
  of_joined files = of_text (joined files) ∙ of_sections files

pub join_keeps_words : JoinKeepsWords
join_keeps_words files = of_joined raw_words whole_words words_by_whole no_more_words files

-- 2. Where the lines of the joined text go.

values_of : (fs : List (LineFault Rule)) (xs ys : List Bytes) → unless_fault fs xs ≡ Ok ys → fs ≡ []
values_of [] xs ys e = refl
values_of (f ∷ fs) xs ys e = absurd (cc)

abbrev is_sent : Result (Option FsId) Rule → Bool
is_sent (Ok to) = true
is_sent (Err rule) = false

module _ (table : List Mount) where
  abbrev AreSent : List (Told table) → Type 0
  AreSent ts = AllByRecursion (λ t. is_sent t.0 ≡ true) ts

  sent_all : (ls : List LogicalLine) → faults (destination_of table) ls ≡ [] → AreSent (map (told table) ls)
  sent_all [] e = tt
  sent_all (line ∷ ls) e =
      let parts = by (destination_of table line) (faults (destination_of table) ls) e in (parts.0, sent_all ls parts.1)
    where
      by : (d : Result (Option FsId) Rule) (fs : List (LineFault Rule)) → cons_option (fault_at line.number d) fs ≡ [] → (is_sent d ≡ true) × (fs ≡ [])
      by (Ok to) fs e = (refl, e)
      by (Err rule) fs e = absurd (cc)

  faultless : (ls : List LogicalLine) → AreSent (map (told table) ls) → faults (destination_of table) ls ≡ []
  faultless [] h = refl
  faultless (line ∷ ls) h = by (destination_of table line) (faults (destination_of table) ls) h.0 (faultless ls h.1)
    where
      by : (d : Result (Option FsId) Rule) (fs : List (LineFault Rule)) → is_sent d ≡ true → fs ≡ [] → cons_option (fault_at line.number d) fs ≡ []
      by (Ok to) fs h e = e
      by (Err rule) fs h e = absurd (cc)

  sent-append : (ts us : List (Told table)) → AreSent ts → AreSent us → AreSent (ts ++ us)
  sent-append [] us h k = k
  sent-append (t ∷ ts) us h k = (h.0, sent-append ts us h.1 k)

  told_lines : (files : List StoredFile) → flat_map (λ file. map (told table) (logical_lines file.text)) files ≡ map (told table) (lines_of files)
  told_lines [] = refl
  told_lines (file ∷ files) =
      ap (λ ts. map (told table) (logical_lines file.text) ++ ts) (told_lines files) ∙ sym (map-append (told table) (logical_lines file.text) (lines_of files))

  told_alike : (files : List StoredFile) → map (told table) (logical_lines (joined files)) ≡ map (told table) (lines_of files)
  told_alike files = of_joined (told table) (whole_told table) (told_by_whole table) (no_more_told table) files ∙ told_lines files

  all_sent : (files : List StoredFile) → AllByRecursion (λ file. CanBeSplit table file.text) files → AreSent (map (told table) (lines_of files))
  all_sent [] h = tt
  all_sent (file ∷ files) h =
      subst AreSent (sym (map-append (told table) (logical_lines file.text) (lines_of files)))
      (sent-append (map (told table) (logical_lines file.text)) (map (told table) (lines_of files))
      (sent_all (logical_lines file.text) (values_of (faults (destination_of table) (logical_lines file.text)) (texts_to table (logical_lines file.text)) h.0.texts h.0.split))
      (all_sent files h.1))

  -- the words of the lines that go to a file system
  abbrev picked : ℕ → List (Told table) → List (List Bytes)
  picked fs ts = map (λ t. t.1) (filter (λ t. is_to fs t.0) ts)

  words_picked : (fs : ℕ) (ls : List LogicalLine) → map raw_words (lines_to table ls fs) ≡ picked fs (map (told table) ls)
  words_picked fs [] = refl
  words_picked fs (line ∷ ls) = by (is_to fs (destination_of table line)) (words_picked fs ls)
    where
      by : (b : Bool) → map raw_words (lines_to table ls fs) ≡ picked fs (map (told table) ls)
          → map raw_words (cond b (line ∷ lines_to table ls fs) (lines_to table ls fs)) ≡ map (λ t. t.1) (cond b (told table line ∷ filter (λ t. is_to fs t.0) (map (told table) ls)) (filter (λ t. is_to fs t.0) (map (told table) ls)))
      by true e = ap (λ ws. raw_words line ∷ ws) e
      by false e = e

  -- a text none of whose lines is faulty is split
  splits : (text : Bytes) → AreSent (map (told table) (logical_lines text)) → split_text table text ≡ Ok (texts_to table (logical_lines text))
  splits text h = ap (λ fs. unless_fault fs (texts_to table (logical_lines text))) (faultless (logical_lines text) h)

  pub sent_alike : SplitKeepsWords → (files : List StoredFile) → AllByRecursion (λ file. CanBeSplit table file.text) files → AreSentAlike table files
  sent_alike keeps files h =
      let texts : List Bytes = texts_to table (logical_lines (joined files)) in
      let split : split_text table (joined files) ≡ Ok texts = splits (joined files) (subst AreSent (sym (told_alike files)) (all_sent files h)) in
      record {
        texts = texts;
        split = split;
        each = λ fs below. keeps table (joined files) texts fs split below ∙ words_picked fs (logical_lines (joined files)) ∙ ap (picked fs) (told_alike files) ∙ sym (words_picked fs (lines_of files));
      }

pub joined_texts_can_be_split : SplitKeepsWords → JoinedTextsCanBeSplit
joined_texts_can_be_split keeps table files h = sent_alike table keeps files (recursion_from_All (λ file. CanBeSplit table file.text) files h)

-- 3. Files whose lines stay at home.

module _ (table : List Mount) where
  abbrev Home : ℕ → LogicalLine → Type 0
  Home fs line = destination_of table line ≡ Ok (Some (record { 0 = fs }))

  home_sent : (fs : ℕ) (ls : List LogicalLine) → AllByRecursion (Home fs) ls → AreSent table (map (told table) ls)
  home_sent fs [] h = tt
  home_sent fs (line ∷ ls) h = (ap is_sent h.0, home_sent fs ls h.1)

  can_be_split : (fs : ℕ) (text : Bytes) → AllByRecursion (Home fs) (logical_lines text) → CanBeSplit table text
  can_be_split fs text h = record { texts = texts_to table (logical_lines text); split = splits table text (home_sent fs (logical_lines text) h) }

  -- lines of one file system all go to it, or none
  home_lines : (own fs : ℕ) (ls : List LogicalLine) → AllByRecursion (Home own) ls → lines_to table ls fs ≡ cond (eqb own fs) ls []
  home_lines own fs [] h = by (eqb own fs)
    where
      none : List LogicalLine
      none = []

      by : (b : Bool) → none ≡ cond b [] []
      by true = refl
      by false = refl
  home_lines own fs (line ∷ ls) h =
      ap (λ d. cond (is_to fs d) (line ∷ lines_to table ls fs) (lines_to table ls fs)) h.0
      ∙ ap (λ more. cond (eqb own fs) (line ∷ more) more) (home_lines own fs ls h.1)
      ∙ by (eqb own fs)
    where
      by : (b : Bool) → cond b (line ∷ cond b ls []) (cond b ls []) ≡ cond b (line ∷ ls) []
      by true = refl
      by false = refl

  abbrev files_in : List OwnFile → List StoredFile
  files_in own = map (λ o. o.file) own

  abbrev those_of : ℕ → List OwnFile → List OwnFile
  those_of fs own = filter (λ o. eqb o.fs fs) own

  own_lines : (fs : ℕ) (own : List OwnFile) → AllByRecursion (StaysAtHome table) own → map raw_words (lines_to table (lines_of (files_in own)) fs) ≡ flat_map (λ o. words_in o.file.text) (those_of fs own)
  own_lines fs [] h = refl
  own_lines fs (o ∷ own) h =
      let ls : List LogicalLine = logical_lines o.file.text in
      let rest : List LogicalLine = lines_of (files_in own) in
      ap (map raw_words) (filter-append (λ line. is_to fs (destination_of table line)) ls rest)
      ∙ map-append raw_words (lines_to table ls fs) (lines_to table rest fs)
      ∙ ap (λ ws. map raw_words (lines_to table ls fs) ++ ws) (own_lines fs own h.1)
      ∙ ap (λ l. map raw_words l ++ flat_map (λ x. words_in x.file.text) (those_of fs own)) (home_lines o.fs fs ls (recursion_from_All (Home o.fs) ls h.0))
      ∙ by (eqb o.fs fs)
    where
      by : (b : Bool) → map raw_words (cond b (logical_lines o.file.text) []) ++ flat_map (λ x. words_in x.file.text) (those_of fs own) ≡ flat_map (λ x. words_in x.file.text) (cond b (o ∷ those_of fs own) (those_of fs own))
      by true = refl
      by false = refl

  each_split : (own : List OwnFile) → AllByRecursion (StaysAtHome table) own → AllByRecursion (λ file. CanBeSplit table file.text) (files_in own)
  each_split [] h = tt
  each_split (o ∷ own) h = (can_be_split o.fs o.file.text (recursion_from_All (Home o.fs) (logical_lines o.file.text) h.0), each_split own h.1)

-- the files of a file system, where no two files are of one
abbrev Differ : OwnFile → OwnFile → Type 0
Differ o later = o.fs ≢ later.fs

none_of : (fs : ℕ) (own : List OwnFile) → ((j : ℕ) (d : OwnFile) → j < length own → (get_or own j d).fs ≢ fs) → filter (λ o. eqb o.fs fs) own ≡ []
none_of fs [] h = refl
none_of fs (o ∷ own) h =
    let apart : o.fs ≢ fs = h 0 o (omega arith) in
    cond-false (eqb o.fs fs) (o ∷ filter (λ x. eqb x.fs fs) own) (filter (λ x. eqb x.fs fs) own) (ne_eqb o.fs fs apart)
    ∙ none_of fs own (λ j d below. h (suc j) d (omega arith))

only_one : (own : List OwnFile) → AllPairs Differ own → (k : ℕ) (d : OwnFile) → k < length own → filter (λ o. eqb o.fs (get_or own k d).fs) own ≡ get_or own k d ∷ []
only_one [] h k d below = absurd (omega arith)
only_one (o ∷ own) h zero d below =
    cond-true (eqb o.fs o.fs) (o ∷ filter (λ x. eqb x.fs o.fs) own) (filter (λ x. eqb x.fs o.fs) own) (eq-eqb o.fs o.fs refl)
    ∙ ap (λ os. o ∷ os) (none_of o.fs own (λ j e under same. h 0 (suc j) e (omega arith) (omega arith) (sym same)))
only_one (o ∷ own) h (suc k) d below =
    let fs : ℕ = (get_or own k d).fs in
    let apart : o.fs ≢ (get_or own k d).fs = h 0 (suc k) d (omega arith) (omega arith) in
    cond-false (eqb o.fs fs) (o ∷ filter (λ x. eqb x.fs fs) own) (filter (λ x. eqb x.fs fs) own) (ne_eqb o.fs fs apart)
    ∙ only_one own (λ i j e less under. h (suc i) (suc j) e (omega arith) (omega arith)) k d (omega arith)

pub each_text_comes_back : SplitKeepsWords → EachTextComesBack
each_text_comes_back keeps table own h =
    let home : AllByRecursion (StaysAtHome table) own = recursion_from_All (StaysAtHome table) own h in
    let sent = sent_alike table keeps (map (λ o. o.file) own) (each_split table own home) in
    record {
      texts = sent.texts;
      split = sent.split;
      each = λ fs below. sent.each fs below ∙ own_lines table fs own home;
      own_words = λ apart k d under below.
          sent.each (get_or own k d).fs below ∙ own_lines table (get_or own k d).fs own home
          ∙ ap (flat_map (λ o. words_in o.file.text)) (only_one own apart k d under)
          ∙ append-nil (words_in (get_or own k d).file.text);
    }
