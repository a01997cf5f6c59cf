-- Which word of a faulty line is at fault, and where it stands. (this project's own)
use Rattle.std.specs.Prelude.{◌≡◌, ℕ, ◌+◌, ◌-◌, ◌<◌, ◌^◌, ◌&&◌, not, nat_lt, Bool, List, Option, None, Some, Result, Ok, Err, IfSome, codes, is_none, length, slice_get, if◌then◌else◌}
use Rattle.std.specs.List.{position_or_len}
use Rattle.desk_text.specs.Lines.{LogicalLine, PhysicalLine}
use Rattle.desk_text.specs.Place.{HasSlice, IsPlaceOf}
use Rattle.desk_text.specs.Word.{RawWord, read_words}
use Rattle.desk_text.specs.declared.place.Place.{Place}
use Rattle.desk_text.specs.declared.word.OpenQuote.{OpenQuote as Unclosed}
use Rattle.desk_tables.specs.declared.hosts.HostRow.{HostRow}
use Rattle.desk_netgroup.specs.declared.group_line.GroupLine.{GroupLine}
use Rattle.desk_expect.specs.Form as form
use Rattle.desk_expect.specs.Meaning.{is_unknown}
use Rattle.desk_expect.specs.Names.{is_bad_address}
use Rattle.desk_expect.specs.Scope.{read_scope}
use Rattle.desk_expect.specs.declared.rules.Rule.{Rule}
use Rattle.desk_expect.specs.declared.rules.Rule.TheVariants as rule

-- The word at which a line stops having the form of one. If nothing stands before its first `may`, or before or after the `but` in
-- front of it, that is this `may` or `but`; else it is the last word, after which more has to stand.
abbrev pub word_out_of_form : List (List ℕ) → ℕ
word_out_of_form words =
    if nat_lt (form.index_of words (codes "may")) (length words) && not (form.has_subject (form.subject words)) then form.index_of (form.subject words) (codes "but")
    else length words - 1

-- the directories are the last words of a line, and the action stands before them
abbrev pub first_dir : List (List ℕ) → ℕ
first_dir words = length words - length (form.dirs words)

-- the first directory that cannot be read
abbrev pub bad_dir : List (List ℕ) → ℕ
bad_dir words = first_dir words + position_or_len (λ dir. is_none (read_scope dir)) (form.dirs words)

-- the first name that passes a test: one of those before `but`, or else one of those after it
abbrev pub first_name : (List ℕ → Bool) → List (List ℕ) → ℕ
first_name passes words =
    if nat_lt (position_or_len passes (form.named (form.whom words))) (length (form.named (form.whom words))) then position_or_len passes (form.named (form.whom words))
    else length (form.whom words) + 1 + position_or_len passes (form.but words)

-- The index, from 0, of the word at fault of a line of these words that breaks this rule: the first that breaks it; of a line about
-- nobody the first of all.
abbrev pub word_at_fault : List GroupLine → List HostRow → List (List ℕ) → Rule → ℕ
word_at_fault netgroups hosts words rule.OpenQuote = 0
word_at_fault netgroups hosts words rule.Form = word_out_of_form words
word_at_fault netgroups hosts words rule.BadAction = first_dir words - 1
word_at_fault netgroups hosts words rule.BadPath = bad_dir words
word_at_fault netgroups hosts words rule.BadAddress = first_name is_bad_address words
word_at_fault netgroups hosts words rule.UnknownName = first_name (is_unknown netgroups hosts) words
word_at_fault netgroups hosts words rule.Nobody = 0

-- the word of this index, from 0, of a line that is cut into these words; none if there is none, or if a quote does not close
abbrev pub word_numbered : ℕ → Result (List RawWord) Unclosed → Option RawWord
word_numbered index (Ok words) = slice_get words index
word_numbered index (Err fault) = None

-- if a physical line of this line has the bytes of this word, the place is that of these bytes, on that physical line
abbrev pub IsOfWord : LogicalLine → Place → RawWord → Type 0
IsOfWord line place word =
    word.start + length word.raw < 2 ^ 64 → (index : ℕ) (part : PhysicalLine) → slice_get line.parts index ≡ Some part → HasSlice part word.start (word.start + length word.raw)
    → IsPlaceOf line word.start (word.start + length word.raw) place

-- the place is that of the word of this index
abbrev pub IsAtWord : LogicalLine → ℕ → Place → Type 0
IsAtWord line index place = IfSome (word_numbered index (read_words line)) (IsOfWord line place)
