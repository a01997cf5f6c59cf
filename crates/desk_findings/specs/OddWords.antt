-- The words of an exports text that mountd(8) may read otherwise, and the lines of NFSv4. (this project's own; exports(5))
use Rattle.std.specs.Prelude.{ℕ, ◌==◌, ◌&&◌, ◌++◌, Bool, false, List, [], ◌∷◌, None, Result, Ok, Err, codes, if◌then◌else◌}
use Rattle.std.specs.List.{enumerate_from, flat_map, list_any}
use Rattle.std.specs.Str.{bytes_eq}
use Rattle.desk_text.specs.Lines.{LogicalLine, logical_lines}
use Rattle.desk_text.specs.Word.{RawWord, read_words, word_value}
use Rattle.desk_text.specs.declared.word.OpenQuote.{OpenQuote}
use Rattle.desk_remarks.specs.declared.remark.Remark.{Remark}
use Rattle.desk_remarks.specs.declared.remark.Remark.TheVariants.{Backslash, V4Line}
use Rattle.desk_findings.specs.CheckOdd.{OddLine, odd_word}
use Rattle.desk_findings.specs.declared.finding.Matter.TheVariants as matter

-- a backslash stands in a word as it is written
abbrev pub has_backslash : List ℕ → Bool
has_backslash raw = list_any (λ b. b == 92) raw

-- the first word stands for `V4:`
abbrev pub begins_v4 : List RawWord → Bool
begins_v4 [] = false
begins_v4 (word ∷ words) = bytes_eq (word_value word.raw) (codes "V4:")

-- this remark on the line of this number, at the word of this index, if it is made
abbrev pub odd_if : Bool → ℕ → Remark → ℕ → List OddLine
odd_if made number remark index = if made then odd_word number (matter.Remark remark None) index ∷ [] else []

-- each of the words of the line of this number that has a backslash, at its own place
abbrev pub odd_backslashes : ℕ → List RawWord → List OddLine
odd_backslashes number words = flat_map (λ one. odd_if (has_backslash one.1.raw) number Backslash one.0) (enumerate_from 0 words)

-- what is told of the line of this number, with opinions or without, by its words: each that has a backslash, and that the line is
-- one of NFSv4, which is an opinion; nothing if a quote does not close
abbrev pub odd_words_in : Bool → ℕ → Result (List RawWord) OpenQuote → List OddLine
odd_words_in opinions number (Ok words) = odd_backslashes number words ++ odd_if (opinions && begins_v4 words) number V4Line 0
odd_words_in opinions number (Err fault) = []

abbrev pub odd_words_of : Bool → LogicalLine → List OddLine
odd_words_of opinions line = odd_words_in opinions line.number (read_words line)

-- the same of each line of a text
abbrev pub odd_words : Bool → List ℕ → List OddLine
odd_words opinions text = flat_map (odd_words_of opinions) (logical_lines text)
