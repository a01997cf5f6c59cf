-- What a shell takes a word for. (sh(1), "Quoting")
use Rattle.std.specs.Prelude.{◌≡◌, ℕ, ◌==◌, List, [], ◌∷◌, Option, Some, None, if◌then◌else◌}
use Rattle.std.specs.Option.{option_map}
use Rattle.page_lists.specs.Shell.{is_plain_character, word_of}

-- where a shell is in a word: outside of quotation marks, within them, or behind a backslash
pub data Place : Type 0 where
  Outside : Place
  Within : Place
  Behind : Place

-- What a shell takes the characters of a word for, if they are one word that means only itself. Outside of quotation marks a plain
-- character stands for itself, a quotation mark begins a quotation, and a backslash makes the next character stand for itself; any other
-- one may mean more. Within them each character stands for itself, up to the next quotation mark.
abbrev pub taken : Place → List ℕ → Option (List ℕ)
taken Outside [] = Some []
taken Within [] = None
taken Behind [] = None
taken Outside (c ∷ cs) =
    if is_plain_character c then option_map (λ rest. c ∷ rest) (taken Outside cs)
    else if c == 39 then taken Within cs
    else if c == 92 then taken Behind cs
    else None
taken Within (c ∷ cs) = if c == 39 then taken Outside cs else option_map (λ rest. c ∷ rest) (taken Within cs)
taken Behind (c ∷ cs) = option_map (λ rest. c ∷ rest) (taken Outside cs)

-- A shell takes the word that is made of a text for this text.
abbrev pub ShellsTakeWords : Type 0
ShellsTakeWords = (cs : List ℕ) → taken Outside (word_of cs) ≡ Some cs
