-- The words of a line as texts: of the command line, or of the first line of standard input. (this project's own)
use Rattle.std.specs.Prelude.{◌≡◌, ℕ, ◌==◌, Bool, not, List, length, filter, Option, Some}
use Rattle.std.specs.List.{position_from, slice_split}
use Rattle.std.specs.Str.{is_utf8}
use Rattle.desk_text.specs.Bytes.{is_blank}
use Rattle.cli_output.specs.declared.failure.Failure.{Failure}
use Rattle.cli_output.specs.declared.failure.Failure.TheVariants.{Memory, Word}

-- the words of a line: what is between its blanks, if it is not empty
abbrev pub words_of : List ℕ → List (List ℕ)
words_of line = filter (λ word. not (length word == 0)) (slice_split is_blank line)

-- bytes that are not UTF-8
abbrev pub is_not_utf8 : List ℕ → Bool
is_not_utf8 word = not (is_utf8 word)

-- the place, from 1, of the first word that is not UTF-8
abbrev pub bad_word : List (List ℕ) → Option ℕ
bad_word words = position_from is_not_utf8 1 words

-- the failure names the first word that is not UTF-8; out of memory says nothing
abbrev pub IsBadWord : List (List ℕ) → Failure → Type 0
IsBadWord words (Word place) = bad_word words ≡ Some place
IsBadWord words Memory = Unit {0}
IsBadWord words failure = ⊥
