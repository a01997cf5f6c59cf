-- The words of a line, with quotes and escapes.
use Rattle.std.specs.Prelude.{ℕ, ◌+◌, ◌==◌, Bool, true, false, ◌||◌, List, [], ◌∷◌, ◌++◌, Result, Ok, Err, length, slice_index, if◌then◌else◌}
use Rattle.std.specs.List.{slice_split, flat_map, list_any}
use Rattle.desk_text.specs.Bytes.{is_blank}
use Rattle.desk_text.specs.Lines.{LogicalLine}
use Rattle.desk_text.specs.declared.word.OpenQuote.{OpenQuote}

-- A byte of a line, bare or behind a backslash, or a backslash with nothing after it. (Of a longer character behind a
-- backslash only the first byte is taken; what the word stands for is the same.)
pub data Character : Type 0 where
  Bare : ℕ → Character
  Escaped : ℕ → Character
  Lone : Character

-- a backslash takes the byte after it
abbrev pub characters : List ℕ → List Character
characters [] = []
characters (c ∷ []) = if c == 92 then Lone ∷ [] else Bare c ∷ []
characters (c ∷ d ∷ cs) = if c == 92 then Escaped d ∷ characters cs else Bare c ∷ characters (d ∷ cs)

-- An atom of a line: a character, a quoted run, or a quote with no end and what stands behind it. A bare blank is an atom
-- too, and separates words.
pub data Atom : Type 0 where
  Single : Character → Atom
  Quoted : ℕ → List Character → Atom
  Unclosed : ℕ → List Character → Atom

-- a quote is `"` or `'`
abbrev pub is_quote : ℕ → Bool
is_quote c = (c == 34) || (c == 39)

-- the character is a bare q
abbrev pub is_bare : ℕ → Character → Bool
is_bare q (Bare c) = c == q
is_bare q (Escaped c) = false
is_bare q Lone = false

-- a bare quote opens a run up to the next bare quote of its kind
abbrev mutual
  pub atoms_of : List Character → List Atom
  atoms_of [] = []
  atoms_of (Bare c ∷ cs) = if is_quote c then quoted c [] cs else Single (Bare c) ∷ atoms_of cs
  atoms_of (Escaped c ∷ cs) = Single (Escaped c) ∷ atoms_of cs
  atoms_of (Lone ∷ cs) = Single Lone ∷ atoms_of cs

  pub quoted : ℕ → List Character → List Character → List Atom
  quoted q inner [] = Unclosed q inner ∷ []
  quoted q inner (c ∷ cs) = if is_bare q c then Quoted q inner ∷ atoms_of cs else quoted q (inner ++ c ∷ []) cs

abbrev pub atoms : List ℕ → List Atom
atoms text = atoms_of (characters text)

-- how an atom is written
abbrev pub character_text : Character → List ℕ
character_text (Bare c) = c ∷ []
character_text (Escaped c) = 92 ∷ c ∷ []
character_text Lone = 92 ∷ []

abbrev pub atom_text : Atom → List ℕ
atom_text (Single c) = character_text c
atom_text (Quoted q inner) = q ∷ flat_map character_text inner ++ q ∷ []
atom_text (Unclosed q inner) = q ∷ flat_map character_text inner

-- what an atom stands for
abbrev pub character_value : Character → List ℕ
character_value (Bare c) = c ∷ []
character_value (Escaped c) = c ∷ []
character_value Lone = []

abbrev pub atom_value : Atom → List ℕ
atom_value (Single c) = character_value c
atom_value (Quoted q inner) = flat_map character_value inner
atom_value (Unclosed q inner) = flat_map character_value inner

-- a bare blank separates words
abbrev pub is_separator : Atom → Bool
is_separator (Single (Bare c)) = is_blank c
is_separator (Single (Escaped c)) = false
is_separator (Single Lone) = false
is_separator (Quoted q inner) = false
is_separator (Unclosed q inner) = false

-- a quote with no end
abbrev pub is_unclosed : Atom → Bool
is_unclosed (Single c) = false
is_unclosed (Quoted q inner) = false
is_unclosed (Unclosed q inner) = true

-- a word as it is written: its place in the text, and whether it begins with `-`
pub record RawWord : Type 0 where
  pub raw : List ℕ
  pub start : ℕ
  pub dashed : Bool

-- a raw word at its place
abbrev pub raw_word : ℕ → List ℕ → RawWord
raw_word start raw = record { raw = raw; start = start; dashed = slice_index raw 0 == 45 }

-- the words among the runs of atoms between single blanks, the first of which stands at start: an empty run is not a word
abbrev pub words_from : ℕ → List (List Atom) → List RawWord
words_from start [] = []
words_from start ([] ∷ runs) = words_from (start + 1) runs
words_from start ((a ∷ more) ∷ runs) =
    raw_word start (flat_map atom_text (a ∷ more)) ∷ words_from (start + length (flat_map atom_text (a ∷ more)) + 1) runs

-- the words of a text that stands at start
abbrev pub words_at : ℕ → List ℕ → List RawWord
words_at start text = words_from start (slice_split is_separator (atoms text))

-- a quote of the text does not close
abbrev pub has_open_quote : List ℕ → Bool
has_open_quote text = list_any is_unclosed (atoms text)

-- the words of a logical line are those of its physical lines
abbrev pub line_words : LogicalLine → List RawWord
line_words line = flat_map (λ part. words_at part.start part.text) line.parts

abbrev pub line_has_open_quote : LogicalLine → Bool
line_has_open_quote line = list_any (λ part. has_open_quote part.text) line.parts

-- the words of a logical line if each quote closes in its physical line; else an open quote
abbrev pub read_words : LogicalLine → Result (List RawWord) OpenQuote
read_words line = if line_has_open_quote line then Err (record {}) else Ok (line_words line)

-- what a word stands for
abbrev pub word_value : List ℕ → List ℕ
word_value raw = flat_map atom_value (atoms raw)

-- a quote, or the backslash
abbrev pub is_special : ℕ → Bool
is_special b = is_quote b || b == 92

-- a quote or a backslash stands in a raw word
abbrev pub has_marks : List ℕ → Bool
has_marks raw = list_any is_special raw
