-- The words of a line by what they are: WHOM [but NAME..] may [not] ACTION DIR.. (this project's own)
use Rattle.std.specs.Prelude.{◌≡◌, ℕ, ◌+◌, ◌==◌, ◌&&◌, ◌++◌, not, nat_lt, Bool, true, List, [], codes, drop, length, slice_index_or, take, if◌then◌else◌}
use Rattle.std.specs.List.{position_or_len}
use Rattle.std.specs.Str.{bytes_eq}
use Rattle.desk_expect.specs.declared.form.Form.{Form as LentForm}

-- the place of the first word that is this one, or how many words there are
abbrev pub index_of : List (List ℕ) → List ℕ → ℕ
index_of words word = position_or_len (λ other. bytes_eq other word) words

-- the words after a place
abbrev pub after : List (List ℕ) → ℕ → List (List ℕ)
after words at = drop (at + 1) words

-- whom a line is about: the words before its first `may`
abbrev pub subject : List (List ℕ) → List (List ℕ)
subject words = take (index_of words (codes "may")) words

-- what is expected of them: the words after it
abbrev pub promised : List (List ℕ) → List (List ℕ)
promised words = after words (index_of words (codes "may"))

-- of those before `may`, the words before the first `but`, and those after it
abbrev pub whom : List (List ℕ) → List (List ℕ)
whom words = take (index_of (subject words) (codes "but")) (subject words)

abbrev pub but : List (List ℕ) → List (List ℕ)
but words = after (subject words) (index_of (subject words) (codes "but"))

-- the word `everybody` by itself
abbrev pub is_everybody : List (List ℕ) → Bool
is_everybody whom = length whom == 1 && bytes_eq (slice_index_or whom 0 []) (codes "everybody")

-- the names of those whom a line is about
abbrev pub named : List (List ℕ) → List (List ℕ)
named whom = if is_everybody whom then [] else whom

-- the names of a line, those after `but` too
abbrev pub names : List (List ℕ) → List (List ℕ)
names words = named (whom words) ++ but words

-- the first word is `not`
abbrev pub begins_with_not : List (List ℕ) → Bool
begins_with_not words = bytes_eq (slice_index_or words 0 []) (codes "not")

abbrev pub without_not : List (List ℕ) → List (List ℕ)
without_not words = if begins_with_not words then drop 1 words else words

-- the line says what may not be done
abbrev pub forbids : List (List ℕ) → Bool
forbids words = begins_with_not (promised words)

-- the action and the directories
abbrev pub acted : List (List ℕ) → List (List ℕ)
acted words = without_not (promised words)

abbrev pub action : List (List ℕ) → List ℕ
action words = slice_index_or (acted words) 0 []

abbrev pub dirs : List (List ℕ) → List (List ℕ)
dirs words = drop 1 (acted words)

-- something stands before `but`, and something after it, if it stands there
abbrev pub has_subject : List (List ℕ) → Bool
has_subject subject = not (index_of subject (codes "but") == 0) && not (index_of subject (codes "but") + 1 == length subject)

-- The words have the form of a line: there is a `may`; something stands before it, and on both sides of a `but`; and an action and
-- a directory after it.
abbrev pub has_form : List (List ℕ) → Bool
has_form words = nat_lt (index_of words (codes "may")) (length words) && (has_subject (subject words) && nat_lt 1 (length (acted words)))

-- the words by what they are
pub record IsFormOf (words : List (List ℕ)) (form : LentForm) : Type 0 where
  pub formed : has_form words ≡ true
  pub whom_is : form.whom.now ≡ whom words
  pub but_is : form.but.now ≡ but words
  pub forbids_is : form.forbids ≡ forbids words
  pub action_is : form.action.now ≡ action words
  pub dirs_are : form.dirs.now ≡ dirs words
