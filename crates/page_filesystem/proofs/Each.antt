-- Where lines are those of a text, each of its logical lines has a note.
use Rattle.std.proofs.Common.{◌≡◌, ◌++◌, ◌∙◌, ◌||◌, ℕ, Bool, true, false, cond, List, [], ◌∷◌, Option, None, Some, ap, append_assoc, filter, find, inl, inr, map, refl, sym}
use Rattle.std.specs.Prelude.{◌==◌}
use Rattle.std.specs.List.{cons_option, filter_map, list_any}
use Rattle.std.specs.Option.{is_some, option_map}
use Rattle.std.proofs.lemmas.Bool.{cases_Bool, eq-eqb}
use Rattle.desk_text.specs.Lines.{LogicalLine, logical_lines}
use Rattle.desk_exports.specs.Laws.{takes_part}
use Rattle.desk_exports.proofs.TextAnswers.{entry_numbers}
use Rattle.page_findings.specs.Lines.{LineValue}
use Rattle.page_findings.proofs.Mapped.{any_mapped}
use Rattle.page_filesystem.specs.declared.gutter.Note.{Note}
use Rattle.page_filesystem.specs.Laws.{EachLineHasANote}
use Rattle.page_filesystem.specs.Notes.{line_at, site_line_note, logical_line_note, not_read}
use Rattle.page_filesystem.proofs.Noted.{HasNumber, line_of, note_has, number_of}

or_true : (b : Bool) → (b || true) ≡ true
or_true true = refl
or_true false = refl

some_found : {X : Type 0} (p : X → Bool) (xs : List X) → is_some (find p xs) ≡ list_any p xs
some_found p [] = refl
some_found p (x ∷ xs) = by (p x) (some_found p xs)
  where
    by : (b : Bool) → is_some (find p xs) ≡ list_any p xs → is_some (cond b (Some x) (find p xs)) ≡ (b || list_any p xs)
    by true rest = refl
    by false rest = rest

some_mapped : (o : Option LineValue) → is_some (option_map site_line_note o) ≡ is_some o
some_mapped None = refl
some_mapped (Some line) = refl

-- a line has a note if it takes no part, and if there is a line with its number
has_note : (lines : List LineValue) (line : LogicalLine) → (takes_part line ≡ true → is_some (line_at lines line.number) ≡ true) → is_some (logical_line_note lines line) ≡ true
has_note lines line some =
    elim (cases_Bool (takes_part line)) as (λ _. is_some (logical_line_note lines line) ≡ true) [
      | inl takes ↦ ap (λ b. is_some (cond b (option_map site_line_note (line_at lines line.number)) (Some (not_read line.number)))) takes
          ∙ some_mapped (line_at lines line.number) ∙ some takes
      | inr not ↦ ap (λ b. is_some (cond b (option_map site_line_note (line_at lines line.number)) (Some (not_read line.number)))) not
    ]

-- a line that takes part is one of those that do
there : (before ls : List LogicalLine) (line : LogicalLine) → takes_part line ≡ true → list_any (λ m. m == line.number) (map number_of (filter takes_part (before ++ line ∷ ls))) ≡ true
there [] ls line takes =
    ap (λ b. list_any (λ m. m == line.number) (map number_of (cond b (line ∷ filter takes_part ls) (filter takes_part ls)))) takes
    ∙ ap (λ b. b || list_any (λ m. m == line.number) (map number_of (filter takes_part ls))) (eq-eqb line.number line.number refl)
there (other ∷ before) ls line takes = by (takes_part other) (there before ls line takes)
  where
    kept : List LogicalLine
    kept = filter takes_part (before ++ line ∷ ls)

    by : (b : Bool) → list_any (λ m. m == line.number) (map number_of kept) ≡ true → list_any (λ m. m == line.number) (map number_of (cond b (other ∷ kept) kept)) ≡ true
    by true rest = ap (λ r. (other.number == line.number) || r) rest ∙ or_true (other.number == line.number)
    by false rest = rest

abbrev number_in : LineValue → ℕ
number_in line = line.row.entry.line

module _ (lines : List LineValue) (all : List LogicalLine) (same : map number_in lines ≡ map number_of (filter takes_part all)) where
  some_line : (before ls : List LogicalLine) (line : LogicalLine) → before ++ line ∷ ls ≡ all → takes_part line ≡ true → is_some (line_at lines line.number) ≡ true
  some_line before ls line is takes =
      some_found (λ (other : LineValue). number_in other == line.number) lines
      ∙ any_mapped number_in (λ m. m == line.number) lines
      ∙ ap (list_any (λ m. m == line.number)) (same ∙ ap (λ xs. map number_of (filter takes_part xs)) (sym is))
      ∙ there before ls line takes

  pub each_noted : (ls before : List LogicalLine) → before ++ ls ≡ all → map line_of (filter_map (logical_line_note lines) ls) ≡ map number_of ls
  each_noted [] before is = refl
  each_noted (line ∷ ls) before is =
      by (logical_line_note lines line) (note_has lines line) (has_note lines line (some_line before ls line is))
      (each_noted ls (before ++ line ∷ []) (append_assoc before (line ∷ []) ls ∙ is))
    where
      found : List Note
      found = filter_map (logical_line_note lines) ls

      by : (o : Option Note) → HasNumber line.number o → is_some o ≡ true → map line_of found ≡ map number_of ls → map line_of (cons_option o found) ≡ line.number ∷ map number_of ls
      by None has some rest = cc
      by (Some note) has some rest = ap (λ n. n ∷ map line_of found) has ∙ ap (λ ns. line.number ∷ ns) rest

pub each_line_has_a_note : EachLineHasANote
each_line_has_a_note tables scope text entries lines read same =
    each_noted lines (logical_lines text) (same ∙ entry_numbers tables scope text entries read) (logical_lines text) [] refl
