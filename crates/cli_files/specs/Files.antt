-- The text of a file that a word names. (this project's own)
use Rattle.std.specs.Prelude.{◌≡◌, ◌⊎◌, ℕ, nat_lt, Bool, true, false, count_by, List, Option, Some, None, [], ◌∷◌, ◌≢◌, IfSome, Result, Ok, Err, String, codes}
use Rattle.std.specs.Str.{bytes_eq}
use Rattle.std.specs.String.{string_bytes}
use Rattle.std.specs.declared.io.ErrorKind.{ErrorKind}
use Rattle.std.specs.declared.io.ErrorKind.TheVariants.{NotFound}
use Rattle.cli_files.specs.Input.{text_of}
use Rattle.cli_output.specs.Failure.{IsFileFailure, IsUnread}
use Rattle.cli_output.specs.declared.failure.Failure.{Failure}
use Rattle.cli_output.specs.declared.failure.Failure.TheVariants.{InputTwice}
use Rattle.cli_output.specs.declared.failure.ReadFailure.TheVariants.{Text}
use Rattle.cli_output.specs.declared.failure.TextFault.{TextFault}

-- the word names standard input
abbrev pub is_input : List ℕ → Bool
is_input word = bytes_eq word (codes "-")

-- the failure says that the system could not read this file, or why its bytes are not a text
abbrev pub IsNoText : List ℕ → List ℕ → Result (List ℕ) TextFault → Failure → Type 0
IsNoText argument word (Ok text) failure = IsUnread argument word failure
IsNoText argument word (Err fault) failure = IsUnread argument word failure ⊎ IsFileFailure argument word (Text fault) failure

-- the bytes of a file: of `-` all that the input has, if a contract can name these; of another file some
abbrev pub IsContents : List ℕ → Option (List ℕ) → List ℕ → Type 0
IsContents word known bytes = word ≡ codes "-" → IfSome known (λ given. bytes ≡ given)

module _ {A : Type 0} where
  -- the text that bytes are taken as, or why there is none
  abbrev pub TakesText : List ℕ → List ℕ → Result (List ℕ) TextFault → Result (String A) Failure → Type 0
  TakesText argument word read (Ok text) = read ≡ Ok (string_bytes text)
  TakesText argument word read (Err failure) = IsNoText argument word read failure

  -- the text of the file that a word names, or why there is none
  pub record ReadsText (argument : List ℕ) (word : List ℕ) (known : Option (List ℕ)) (result : Result (String A) Failure) : Type 0 where
    pub bytes : List ℕ
    pub contents : IsContents word known bytes
    pub text : TakesText argument word (text_of bytes) result

module _ {A : Type 0} where
  -- the text of a file that has these bytes, if a contract can name them, or why there is none
  pub record ReadsNamed (argument : List ℕ) (word : List ℕ) (known : Option (List ℕ)) (result : Result (String A) Failure) : Type 0 where
    pub bytes : List ℕ
    pub contents : IfSome known (λ given. bytes ≡ given)
    pub text : TakesText argument word (text_of bytes) result

-- behind a file an input has what it had, unless that file was standard input
abbrev pub Leaves : Option (List ℕ) → Option (List ℕ) → Option (List ℕ) → Type 0
Leaves word known left = word ≢ Some (codes "-") → left ≡ known

-- the text of the file that a word names, or the empty one if there is no word
pub record HasText (argument : List ℕ) (word : List ℕ) (known : Option (List ℕ)) (text : List ℕ) : Type 0 where
  pub bytes : List ℕ
  pub contents : IsContents word known bytes
  pub read : text_of bytes ≡ Ok text

abbrev pub HasTextIfGiven : List ℕ → Option (List ℕ) → Option (List ℕ) → List ℕ → Type 0
HasTextIfGiven argument (Some word) known text = HasText argument word known text
HasTextIfGiven argument None known text = text ≡ []

-- a file that is given has no text, and the failure says why
pub record LacksText (argument : List ℕ) (word : List ℕ) (known : Option (List ℕ)) (failure : Failure) : Type 0 where
  pub bytes : List ℕ
  pub contents : IsContents word known bytes
  pub says : IsNoText argument word (text_of bytes) failure

abbrev pub LacksTextIfGiven : List ℕ → Option (List ℕ) → Option (List ℕ) → Failure → Type 0
LacksTextIfGiven argument (Some word) known failure = LacksText argument word known failure
LacksTextIfGiven argument None known failure = ⊥

module _ {A : Type 0} where
  -- the text of a file that may not be given, or why it has none
  abbrev pub ReadsIfGiven : List ℕ → Option (List ℕ) → Option (List ℕ) → Result (String A) Failure → Type 0
  ReadsIfGiven argument word known (Ok text) = HasTextIfGiven argument word known (string_bytes text)
  ReadsIfGiven argument word known (Err failure) = LacksTextIfGiven argument word known failure

module _ {A : Type 0} where
  -- the text of a file, if there is such a file, or why it has none; which files there are only the system knows, and standard input
  -- is always there
  abbrev pub ReadsIfThere : List ℕ → List ℕ → Option (List ℕ) → Result (Option (String A)) Failure → Type 0
  ReadsIfThere argument word known (Ok (Some text)) = HasText argument word known (string_bytes text)
  ReadsIfThere argument word known (Ok None) = word ≢ codes "-"
  ReadsIfThere argument word known (Err failure) = LacksText argument word known failure

module _ {A : Type 0} where
  -- What is read of a file that may be missing, if it is told by which error it cannot be opened: its text only if it is opened, nothing
  -- just if it is not found, and else why it has no text.
  abbrev pub FindsIfThere : Option ErrorKind → Result (Option (String A)) Failure → Type 0
  FindsIfThere kind (Ok (Some text)) = kind ≡ None
  FindsIfThere kind (Ok None) = kind ≡ Some NotFound
  FindsIfThere kind (Err failure) = kind ≢ Some NotFound

  -- the same if one that is not found has the empty text
  abbrev pub FindsOrEmpty : Option ErrorKind → Result (String A) Failure → Type 0
  FindsOrEmpty kind (Ok text) = (kind ≡ None) ⊎ ((kind ≡ Some NotFound) × (string_bytes text ≡ []))
  FindsOrEmpty kind (Err failure) = kind ≢ Some NotFound

-- The texts of files that are read in turn, each from the input that those before it leave; or why the first without a text
-- has none.
abbrev pub ReadsInTurn : List (List ℕ × Option (List ℕ)) → Option (List ℕ) → Result (List (List ℕ)) Failure → Type 0
ReadsInTurn [] known (Ok texts) = texts ≡ []
ReadsInTurn [] known (Err failure) = ⊥
ReadsInTurn (file ∷ files) known (Ok []) = ⊥
ReadsInTurn (file ∷ files) known (Ok (text ∷ texts)) =
    HasTextIfGiven file.0 file.1 known text × ((left : Option (List ℕ)) × (Leaves file.1 known left × ReadsInTurn files left (Ok texts)))
ReadsInTurn (file ∷ files) known (Err failure) =
    LacksTextIfGiven file.0 file.1 known failure
    ⊎ ((text : List ℕ) × (left : Option (List ℕ)) × (HasTextIfGiven file.0 file.1 known text × (Leaves file.1 known left × ReadsInTurn files left (Err failure))))

-- a file that is given is standard input
abbrev pub is_input_if_given : Option (List ℕ) → Bool
is_input_if_given None = false
is_input_if_given (Some word) = is_input word

-- more than one of these files is to be standard input
abbrev pub name_input_twice : List (List ℕ × Option (List ℕ)) → Bool
name_input_twice files = nat_lt 1 (count_by (λ file. is_input_if_given file.1) files)

-- the texts of files that are read in turn, unless two of them are to be standard input
abbrev pub ReadsUnless : Bool → List (List ℕ × Option (List ℕ)) → Option (List ℕ) → Result (List (List ℕ)) Failure → Type 0
ReadsUnless true files known read = read ≡ Err InputTwice
ReadsUnless false files known read = ReadsInTurn files known read

abbrev pub ReadsFiles : List (List ℕ × Option (List ℕ)) → Option (List ℕ) → Result (List (List ℕ)) Failure → Type 0
ReadsFiles files known read = ReadsUnless (name_input_twice files) files known read
