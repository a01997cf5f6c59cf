-- A text as a word of a command, for a shell. (sh(1), "Quoting")
use Rattle.std.specs.Prelude.{ℕ, ◌==◌, ◌&&◌, ◌||◌, Bool, false, List, [], ◌∷◌, ◌++◌, not, if◌then◌else◌}
use Rattle.std.specs.Char.{is_ascii_alphanumeric}
use Rattle.std.specs.List.{flat_map, list_all}
use Rattle.std.specs.Str.{chars, encode_utf8_all}

-- a character that means only itself to a shell: a letter, a digit, or one of _ . / -
abbrev pub is_plain_character : ℕ → Bool
is_plain_character c = is_ascii_alphanumeric c || (c == 95 || (c == 46 || (c == 47 || c == 45)))

-- characters that begin with another one than -, so that they are not taken for an option; an empty word does not
abbrev pub begins_plainly : List ℕ → Bool
begins_plainly [] = false
begins_plainly (c ∷ cs) = not (c == 45)

-- characters that each mean only themselves, and those that need no quotation marks
abbrev pub has_plain_characters : List ℕ → Bool
has_plain_characters cs = list_all is_plain_character cs

abbrev pub is_plain : List ℕ → Bool
is_plain cs = begins_plainly cs && has_plain_characters cs

-- A character within quotation marks. For a quotation mark itself these are ended, it stands behind a backslash, and they begin again.
abbrev pub in_quotes : ℕ → List ℕ
in_quotes c = if c == 39 then 39 ∷ 92 ∷ 39 ∷ 39 ∷ [] else c ∷ []

abbrev pub all_in_quotes : List ℕ → List ℕ
all_in_quotes cs = flat_map in_quotes cs

abbrev pub quoted : List ℕ → List ℕ
quoted cs = (39 ∷ []) ++ all_in_quotes cs ++ (39 ∷ [])

-- the characters of the word that a shell takes for these
abbrev pub word_of : List ℕ → List ℕ
word_of cs = if is_plain cs then cs else quoted cs

-- the word that a shell takes for a text
unfoldable pub shell_word : List ℕ → List ℕ
shell_word text = encode_utf8_all (word_of (chars text))
