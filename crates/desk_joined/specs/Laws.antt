-- What the joined text says.
use Rattle.std.specs.Prelude.{◌≡◌, ℕ, ◌-◌, ◌==◌, ◌++◌, not, List, [], ◌∷◌, Option, Result, filter, length, map}
use Rattle.std.specs.List.{enumerate_from, flat_map}
use Rattle.std.specs.Option.{option_map}
use Rattle.std.specs.Result.{result_map_both}
use Rattle.std.specs.Str.Lines.{lines}
use Rattle.desk_text.specs.Lines.{LogicalLine, PhysicalLine, logical_lines}
use Rattle.desk_text.specs.Word.{RawWord, read_words, words_at}
use Rattle.desk_text.specs.declared.word.OpenQuote.{OpenQuote}
use Rattle.desk_exports.specs.Lines.{read_grammar_line}
use Rattle.desk_exports.specs.declared.grammar.GrammarLine.{GrammarLine}
use Rattle.desk_split.specs.Laws.{words_in}
use Rattle.desk_split.specs.Splitting.{raw_words}
use Rattle.desk_origins.specs.Origins.{origin_of, own_line}
use Rattle.desk_origins.specs.declared.origins.Origin.{Origin}
use Rattle.desk_joined.specs.Joining.{NamedText, joined, origins_of}
use Rattle.std.specs.Prelude.{Some}

-- The lines of the joined text have the words of the lines of the texts, each read by itself, in order, and there are no others.
abbrev pub JoinedLinesHaveTheWordsOfAll : Type 0
JoinedLinesHaveTheWordsOfAll = (files : List NamedText) → words_in (joined files) ≡ flat_map (λ file. words_in file.text) files

-- a line of one of several texts: the path of its text, its number there, and its words
pub record LineOfText : Type 0 where
  pub path : Option (List ℕ)
  pub number : Option ℕ
  pub words : List (List ℕ)

-- the lines of a text that is read by itself
abbrev pub lines_alone : NamedText → List LineOfText
lines_alone file = map (λ (line : LogicalLine). record { path = Some file.path; number = Some line.number; words = raw_words line }) (logical_lines file.text)

-- a line of the whole, by the text that it is of
abbrev pub line_in : List Origin → LogicalLine → LineOfText
line_in origins line = record {
  path = option_map (λ origin. origin.path) (origin_of origins line.number);
  number = option_map (λ origin. own_line origin line.number) (origin_of origins line.number);
  words = raw_words line;
}

-- The lines of the joined text are those of the texts, each read by itself, in order: each has its path, its own number and its words,
-- and there are no others.
abbrev pub JoinedLinesAreThoseOfAll : Type 0
JoinedLinesAreThoseOfAll = (files : List NamedText) → map (line_in (origins_of files)) (logical_lines (joined files)) ≡ flat_map lines_alone files

-- where a line stands: the path of its text, and its number there
pub record OwnPlace : Type 0 where
  pub path : Option (List ℕ)
  pub number : Option ℕ

-- where the line of this number stands, in a text that is read by itself, and in the whole
abbrev pub place_alone : NamedText → ℕ → OwnPlace
place_alone file number = record { path = Some file.path; number = Some number }

abbrev pub place_in : List Origin → ℕ → OwnPlace
place_in origins number = record {
  path = option_map (λ origin. origin.path) (origin_of origins number);
  number = option_map (λ origin. own_line origin number) (origin_of origins number);
}

-- the lines without their line ends, each with where it stands; the first of them has this number
abbrev pub placed_lines : (ℕ → OwnPlace) → ℕ → List (List ℕ) → List (OwnPlace × List ℕ)
placed_lines place number texts = map (λ (one : ℕ × List ℕ). (place one.0, one.1)) (enumerate_from number texts)

-- The physical lines of the joined text are those of the texts, and an empty one behind each text, in order: each has the path of its text and
-- its own number.
abbrev pub JoinedTextHasTheLinesOfAll : Type 0
JoinedTextHasTheLinesOfAll =
    (files : List NamedText) → placed_lines (place_in (origins_of files)) 1 (lines (joined files)) ≡ flat_map (λ file. placed_lines (place_alone file) 1 (lines file.text ++ [] ∷ [])) files

-- a physical line: where it stands, the line without its line end, and its words as they are written, each behind so many bytes of it
pub record OwnPart : Type 0 where
  pub place : OwnPlace
  pub whole : List ℕ
  pub words : List (ℕ × List ℕ)

abbrev pub own_part : (ℕ → OwnPlace) → ℕ × PhysicalLine → OwnPart
own_part place one = record {
  place = place one.0;
  whole = one.1.whole;
  words = map (λ (word : RawWord). (word.start - one.1.start, word.raw)) (words_at one.1.start one.1.text);
}

-- Physical lines, the first of which has this number. Not the empty ones: a continued last line of a text has one more in the whole.
abbrev pub own_parts : (ℕ → OwnPlace) → ℕ → List PhysicalLine → List OwnPart
own_parts place number parts = map (own_part place) (filter (λ (one : ℕ × PhysicalLine). not (length one.1.whole == 0)) (enumerate_from number parts))

-- a line as it is read: where it stands, its physical lines, and its words and what the grammar of exports makes of them, or an open quote
pub record OwnLine : Type 0 where
  pub place : OwnPlace
  pub parts : List OwnPart
  pub words : Result (List (List ℕ)) OpenQuote
  pub grammar : Result GrammarLine OpenQuote

abbrev pub as_read : (ℕ → OwnPlace) → LogicalLine → OwnLine
as_read place line = record {
  place = place line.number;
  parts = own_parts place line.number line.parts;
  words = result_map_both (map (λ (word : RawWord). word.raw)) (λ (quote : OpenQuote). quote) (read_words line);
  grammar = read_grammar_line line;
}

-- The lines of the joined text are read as those of the texts, each by itself, in order, and there are no others: a quote that is open in one
-- text is open there alone, and each physical line has the path of its text and its own number.
abbrev pub JoinedLinesAreReadAsAlone : Type 0
JoinedLinesAreReadAsAlone =
    (files : List NamedText) → map (as_read (place_in (origins_of files))) (logical_lines (joined files)) ≡ flat_map (λ file. map (as_read (place_alone file)) (logical_lines file.text)) files
