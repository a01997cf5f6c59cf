-- Of lines, and of those that stand out, what is told goes by their values.
use Rattle.std.proofs.Common.{◌≡◌, ℕ, ◌==◌, ◌++◌, ◌∙◌, Bool, true, false, cond, List, [], ◌∷◌, Some, ap, length, map, option_map, refl, sym}
use Rattle.std.specs.Prelude.{if◌then◌else◌, not}
use Rattle.std.specs.List.{filter_map, flat_map}
use Rattle.std.proofs.lemmas.List.{length-map}
use Rattle.std.proofs.lemmas.List.Folds.{flat_map-map}
use Rattle.desk_text.specs.Lines.{LogicalLine, logical_lines}
use Rattle.desk_exports.specs.Laws.{takes_part}
use Rattle.page_data.specs.ReasonValues.{reason_value}
use Rattle.page_data.specs.declared.reasons.Reason.{Reason}
use Rattle.page_data.proofs.UniqueReasons.{by_kept, reason_kept}
use Rattle.page_findings.specs.FindingWords.{FindingValue, finding_value}
use Rattle.page_findings.specs.Lines.{KnownLine, LineValue, known_line}
use Rattle.page_findings.specs.UniqueLaws.{AreAlike}
use Rattle.page_findings.specs.declared.finding_words.Finding.{Finding}
use Rattle.page_html.specs.Blocks.{tag_html}
use Rattle.page_html.specs.declared.blocks.Tag.TheVariants.{FindingsStart, ListEnd}
use Rattle.page_filesystem.specs.Findings.{entries, entry, findings_list}
use Rattle.page_filesystem.specs.Notes.{line_at, logical_line_note, not_read, notes_of, said_by, said_for, site_line_note, site_line_told}
use Rattle.page_filesystem.specs.declared.gutter.Note.{Note}

-- ---- lines, made again of their values
abbrev all_again : List Reason → List Reason
all_again reasons = map reason_kept (map reason_value reasons)

abbrev line_again : KnownLine → LineValue
line_again line = record { fs = line.fs; row = line.row; count = line.count; reasons = map reason_kept line.reasons }

abbrev lines_again : List LineValue → List LineValue
lines_again lines = map line_again (map known_line lines)

said_again : (line : LineValue) (reasons : List Reason) → said_for line reasons ≡ said_for (line_again (known_line line)) (all_again reasons)
said_again line [] = refl
said_again line (reason ∷ reasons) = by_kept (said_by line) (λ found other same. refl) reason

many_again : (reasons : List Reason) → length reasons ≡ length (all_again reasons)
many_again reasons = sym (length-map (map reason_value reasons) reason_kept ∙ length-map reasons reason_value)

told_again : (line : LineValue) → site_line_told line ≡ site_line_told (line_again (known_line line))
told_again line = λ i. record (site_line_told line) { said = said_again line line.reasons i; stands_out = not (many_again line.reasons i == 0) }

note_again : (line : LineValue) → site_line_note line ≡ site_line_note (line_again (known_line line))
note_again line = λ i. record (site_line_note line) { told = Some (told_again line i) }

-- the note on the line with a number
noted_again : (number : ℕ) (lines : List LineValue) → option_map site_line_note (line_at lines number) ≡ option_map site_line_note (line_at (lines_again lines) number)
noted_again number [] = refl
noted_again number (line ∷ lines) = by (line.row.entry.line == number) (noted_again number lines)
  where
    by : (b : Bool) → option_map site_line_note (line_at lines number) ≡ option_map site_line_note (line_at (lines_again lines) number)
        → option_map site_line_note (cond b (Some line) (line_at lines number)) ≡ option_map site_line_note (cond b (Some (line_again (known_line line))) (line_at (lines_again lines) number))
    by true rest = ap (λ (note : Note). Some note) (note_again line)
    by false rest = rest

logical_again : (lines : List LineValue) (logical : LogicalLine) → logical_line_note lines logical ≡ logical_line_note (lines_again lines) logical
logical_again lines logical = λ i. if takes_part logical then noted_again logical.number lines i else Some (not_read logical.number)

notes_again : (lines : List LineValue) (text : List ℕ) → notes_of lines text ≡ notes_of (lines_again lines) text
notes_again lines text = λ i. filter_map (λ logical. logical_again lines logical i) (logical_lines text)

pub notes_by_value : (lines others : List LineValue) (text : List ℕ) → AreAlike lines others → notes_of lines text ≡ notes_of others text
notes_by_value lines others text alike = notes_again lines text ∙ ap (λ (known : List KnownLine). notes_of (map line_again known) text) alike ∙ sym (notes_again others text)

-- ---- those that stand out
-- the list of some by value
abbrev list_of : List FindingValue → List ℕ
list_of values = if length values == 0 then [] else tag_html FindingsStart ++ flat_map entry values ++ tag_html ListEnd

list_by_value : (findings : List Finding) → list_of (map finding_value findings) ≡ findings_list findings
unfolding entries
list_by_value findings = λ i.
    if length-map findings finding_value i == 0 then [] else tag_html FindingsStart ++ flat_map-map entry finding_value findings i ++ tag_html ListEnd

pub findings_by_value : (findings others : List Finding) → map finding_value findings ≡ map finding_value others → findings_list findings ≡ findings_list others
findings_by_value findings others alike = sym (list_by_value findings) ∙ ap list_of alike ∙ list_by_value others
