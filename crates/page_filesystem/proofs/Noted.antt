-- The notes on the lines of a text.
use Rattle.std.proofs.Common.{◌≡◌, ◌<◌, ◌++◌, ◌∙◌, ℕ, Bool, true, false, cond, List, [], ◌∷◌, Option, None, Some, ap, append_assoc, arith, filter, find, inl, inr, map, refl, subst, sym}
use Rattle.std.specs.Prelude.{◌==◌}
use Rattle.std.specs.List.{AllPairs, cons_option, filter_map}
use Rattle.std.specs.Option.{is_some, option_map, option_to_list}
use Rattle.std.proofs.lemmas.Bool.{cases_Bool, eqb-true}
use Rattle.std.proofs.lemmas.List.{append-nil, get_or-map, length-map}
use Rattle.desk_text.specs.Lines.{AreNumberedUp, LogicalLine, logical_lines}
use Rattle.desk_exports.specs.Laws.{takes_part}
use Rattle.desk_exports.proofs.AscendingEntries.{found_ascend}
use Rattle.page_findings.specs.Lines.{LineValue, line_value}
use Rattle.page_findings.specs.declared.lines.SiteLine.{SiteLine}
use Rattle.page_filesystem.specs.declared.gutter.Note.{Note}
use Rattle.page_filesystem.specs.Notes.{LinesAscend, NotesAscend, line_at, site_line_note, logical_line_note, notes_of, not_read}

first_of_option : {X : Type 0} (o : Option X) (xs : List X) → cons_option o xs ≡ option_to_list o ++ xs
first_of_option None xs = refl
first_of_option (Some x) xs = refl

module _ {X Y : Type 0} (f : X → Option Y) where
  -- what is found in the lines so far, and in those that are left
  pub found_more : (all old new : List X) (x : X) (before after : List Y) → old ≡ x ∷ new → before ++ filter_map f old ≡ filter_map f all
      → after ≡ before ++ option_to_list (f x) → after ++ filter_map f new ≡ filter_map f all
  found_more all old new x before after is so_far gives =
      ap (λ ys. ys ++ filter_map f new) gives
      ∙ append_assoc before (option_to_list (f x)) (filter_map f new)
      ∙ ap (λ ys. before ++ ys) (sym (first_of_option (f x) (filter_map f new)))
      ∙ ap (λ xs. before ++ filter_map f xs) (sym is) ∙ so_far

  -- and where none is left
  pub found_all : (all left : List X) (before : List Y) → left ≡ [] → before ++ filter_map f left ≡ filter_map f all → before ≡ filter_map f all
  found_all all left before none so_far = sym (append-nil before) ∙ ap (λ xs. before ++ filter_map f xs) (sym none) ∙ so_far

-- a note, if there is one, has this number
abbrev pub HasNumber : ℕ → Option Note → Type 0
HasNumber number None = Unit {0}
HasNumber number (Some note) = note.line ≡ number

line_has : (lines : List LineValue) (number : ℕ) → HasNumber number (option_map site_line_note (line_at lines number))
line_has [] number = tt
line_has (line ∷ lines) number =
    elim (cases_Bool (line.row.entry.line == number)) as (λ _. HasNumber number (option_map site_line_note (line_at (line ∷ lines) number))) [
      | inl same ↦ subst (HasNumber number) (sym (ap (λ b. option_map site_line_note (cond b (Some line) (line_at lines number))) same)) (eqb-true line.row.entry.line number same)
      | inr apart ↦ subst (HasNumber number) (sym (ap (λ b. option_map site_line_note (cond b (Some line) (line_at lines number))) apart)) (line_has lines number)
    ]

pub note_has : (lines : List LineValue) (line : LogicalLine) → HasNumber line.number (logical_line_note lines line)
note_has lines line =
    elim (cases_Bool (takes_part line)) as (λ _. HasNumber line.number (logical_line_note lines line)) [
      | inl takes ↦ subst (HasNumber line.number) (sym (ap (λ b. cond b (option_map site_line_note (line_at lines line.number)) (Some (not_read line.number))) takes)) (line_has lines line.number)
      | inr not ↦ subst (HasNumber line.number) (sym (ap (λ b. cond b (option_map site_line_note (line_at lines line.number)) (Some (not_read line.number))) not)) refl
    ]

abbrev pub number_of : LogicalLine → ℕ
number_of line = line.number

abbrev pub line_of : Note → ℕ
line_of note = note.line

numbers : (lines : List LineValue) (all : List LogicalLine) → map line_of (filter_map (logical_line_note lines) all) ≡ map number_of (filter (λ line. is_some (logical_line_note lines line)) all)
numbers lines [] = refl
numbers lines (line ∷ all) = by (logical_line_note lines line) (note_has lines line) (numbers lines all)
  where
    found : List Note
    found = filter_map (logical_line_note lines) all

    kept : List LogicalLine
    kept = filter (λ line. is_some (logical_line_note lines line)) all

    by : (o : Option Note) → HasNumber line.number o → map line_of found ≡ map number_of kept → map line_of (cons_option o found) ≡ map number_of (cond (is_some o) (line ∷ kept) kept)
    by None has rest = rest
    by (Some note) has rest = ap (λ n. n ∷ map line_of found) has ∙ ap (λ ns. line.number ∷ ns) rest

-- notes ascend as the lines do
pub notes_ascend : (lines : List LineValue) (text : List ℕ) (notes : List Note) → notes ≡ notes_of lines text → AreNumberedUp (logical_lines text) → NotesAscend notes
notes_ascend lines text notes are up =
    found_ascend line_of (λ line. is_some (logical_line_note lines line)) notes (logical_lines text) (ap (map line_of) are ∙ numbers lines (logical_lines text)) up

-- ---- the note on the line with a number
find_mapped : {X Y : Type 0} (f : X → Y) (p : Y → Bool) (xs : List X) → find p (map f xs) ≡ option_map f (find (λ x. p (f x)) xs)
find_mapped f p [] = refl
find_mapped f p (x ∷ xs) = by (p (f x)) (find_mapped f p xs)
  where
    by : (b : Bool) → find p (map f xs) ≡ option_map f (find (λ y. p (f y)) xs) → cond b (Some (f x)) (find p (map f xs)) ≡ option_map f (cond b (Some x) (find (λ y. p (f y)) xs))
    by true rest = refl
    by false rest = rest

abbrev pub number_on : SiteLine → ℕ
number_on line = line.row.now.entry.line

pub note_found : (lines : List SiteLine) (number : ℕ) (o : Option SiteLine) → find (λ line. number_on line == number) lines ≡ o
    → option_map site_line_note (line_at (map line_value lines) number) ≡ option_map site_line_note (option_map line_value o)
note_found lines number o is = ap (option_map site_line_note) (find_mapped line_value (λ line. line.row.entry.line == number) lines ∙ ap (option_map line_value) is)

-- lines ascend as they are kept
pub kept_ascend : (lines : List SiteLine) → LinesAscend (map line_value lines) → AllPairs (λ line later. number_on line < number_on later) lines
kept_ascend lines ascend i j d less below =
    let few = length-map lines line_value in
    let value = line_value d in
    let left = ap (λ (line : LineValue). line.row.entry.line) (get_or-map line_value lines i d value (omega arith)) in
    let right = ap (λ (line : LineValue). line.row.entry.line) (get_or-map line_value lines j d value below) in
    let up = ascend i j value less (omega arith) in
    omega arith
