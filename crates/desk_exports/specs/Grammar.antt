-- The words of a line by what they are: directories, options with their values, names. (exports(5))
use Rattle.std.specs.Prelude.{ℕ, Bool, false, not, ◌==◌, ◌&&◌, ◌||◌, ◌++◌, List, [], ◌∷◌, Option, Some, None, codes, map, take, drop, slice_index, if◌then◌else◌}
use Rattle.std.specs.List.{slice_split, list_any, before_first, after_first, prefix_len}
use Rattle.std.specs.Str.{bytes_eq}
use Rattle.desk_text.specs.Path.{is_absolute, read_path}
use Rattle.desk_text.specs.Word.{RawWord, word_value}
use Rattle.desk_exports.specs.Options.{keyword_of, takes_value}
use Rattle.desk_exports.specs.declared.grammar.GrammarWord.{GrammarWord}
use Rattle.desk_exports.specs.declared.options.Setting.{Setting}
use Rattle.desk_exports.specs.declared.grammar.GrammarLine.{GrammarLine}

-- what the grammar asks of a word: whether it is dashed, whether its first raw character is `#`, and its value
abbrev pub grammar_word : RawWord → GrammarWord
grammar_word w = record { dashed = w.dashed; begins_with_hash = slice_index w.raw 0 == 35; value = word_value w.raw }

-- the first word is `V4:`, so that the line is one of NFSv4, which is accepted and ignored
abbrev pub is_v4 : List GrammarWord → Bool
is_v4 [] = false
is_v4 (w ∷ ws) = bytes_eq w.value (codes "V4:")

-- the directories are the leading words that begin with `/`
abbrev pub directories : List GrammarWord → List GrammarWord
directories ws = take (prefix_len (λ w. is_absolute w.value) ws) ws

-- the words after the directories
abbrev pub after_directories : List GrammarWord → List GrammarWord
after_directories ws = drop (prefix_len (λ w. is_absolute w.value) ws) ws

-- a text behind the dash that it begins with
abbrev pub after_dash : List ℕ → List ℕ
after_dash text = if slice_index text 0 == 45 then drop 1 text else text

-- a dashed word is split at `,` behind its dash
abbrev pub pieces : GrammarWord → List (List ℕ)
pieces w = slice_split (λ b. b == 44) (after_dash w.value)

-- the name of the option of a piece stands before its first `=`, and its value behind it
abbrev pub option_name : List ℕ → List ℕ
option_name piece = before_first (λ b. b == 61) piece

abbrev pub has_equals : List ℕ → Bool
has_equals piece = list_any (λ b. b == 61) piece

-- a piece without `=` of an option that takes a value
abbrev pub wants_value : List ℕ → Bool
wants_value piece = not (has_equals piece) && takes_value (keyword_of (option_name piece))

-- The option of a piece. Its value is what stands behind its `=`; if it has none and wants a value, its value is the word
-- that is offered, if one is.
abbrev pub setting : Option (List ℕ) → List ℕ → Setting
setting offer piece = record {
  keyword = keyword_of (option_name piece);
  value = if has_equals piece then Some (after_first (λ b. b == 61) piece) else if wants_value piece then offer else None;
}

-- the options of pieces, of which the last alone is offered a word
abbrev pub settings_of : Option (List ℕ) → List (List ℕ) → List Setting
settings_of offer [] = []
settings_of offer (piece ∷ []) = setting offer piece ∷ []
settings_of offer (piece ∷ next ∷ more) = setting None piece ∷ settings_of offer (next ∷ more)

-- the next word is offered, if there is one and it is not dashed
abbrev pub offered : List GrammarWord → Option (List ℕ)
offered [] = None
offered (w ∷ ws) = if w.dashed then None else Some w.value

-- the options of a word that stands before these
abbrev pub settings_at : GrammarWord → List GrammarWord → List Setting
settings_at w next = if w.dashed then settings_of (offered next) (pieces w) else []

-- the options of words
abbrev pub settings : List GrammarWord → List Setting
settings [] = []
settings (w ∷ ws) = settings_at w ws ++ settings ws

-- the last piece wants a value
abbrev pub last_wants : List (List ℕ) → Bool
last_wants [] = false
last_wants (piece ∷ []) = wants_value piece
last_wants (piece ∷ next ∷ more) = last_wants (next ∷ more)

-- a word that takes the next one as a value, if that is not dashed
abbrev pub takes_next : GrammarWord → Bool
takes_next w = w.dashed && last_wants (pieces w)

-- the names are the words that are neither dashed nor taken by the word before them
abbrev pub names : Bool → List GrammarWord → List (List ℕ)
names taken [] = []
names taken (w ∷ ws) = (if w.dashed || taken then [] else w.value ∷ []) ++ names (takes_next w) ws

-- What a line of these words is: whether it is a `V4:` line, whether a word after the first begins with a raw `#`, its
-- directories, read as paths, and the options and names behind them.
abbrev pub grammar_line : List GrammarWord → GrammarLine
grammar_line ws = record {
  is_v4 = is_v4 ws;
  has_stray_comment = list_any (λ w. w.begins_with_hash) (drop 1 ws);
  directories = map (λ w. read_path w.value) (directories ws);
  settings = settings (after_directories ws);
  names = names false (after_directories ws);
}
