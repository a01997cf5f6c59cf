-- The tokens of a netgroup line: `(`, `)`, `,`, and words, which are of other characters and have no blanks. (netgroup(5))
use Rattle.std.specs.Prelude.{ℕ, ◌==◌, ◌||◌, Bool, true, false, not, List, [], ◌∷◌, if◌then◌else◌}
use Rattle.desk_text.specs.Bytes.{is_blank}
use Rattle.desk_netgroup.specs.declared.token.Token.{Token}
use Rattle.desk_netgroup.specs.declared.token.Token.TheVariants.{Open, Close, Comma, Word}

-- a character of a word: no blank, no parenthesis, and no comma
abbrev pub is_of_word : ℕ → Bool
is_of_word c = not (is_blank c || c == 40 || c == 41 || c == 44)

-- the text begins with a character of a word
abbrev pub begins_with_word : List ℕ → Bool
begins_with_word [] = false
begins_with_word (c ∷ text) = is_of_word c

-- a character of a word before these tokens: it begins the word that stands right after it, or else is a word by itself
abbrev pub with_character : ℕ → Bool → List Token → List Token
with_character c true (Word word ∷ tokens) = Word (c ∷ word) ∷ tokens
with_character c _ tokens = Word (c ∷ []) ∷ tokens

-- the tokens of a text
abbrev pub tokens : List ℕ → List Token
tokens [] = []
tokens (c ∷ text) =
    if is_blank c then tokens text
    else if c == 40 then Open ∷ tokens text
    else if c == 41 then Close ∷ tokens text
    else if c == 44 then Comma ∷ tokens text
    else with_character c (begins_with_word text) (tokens text)
