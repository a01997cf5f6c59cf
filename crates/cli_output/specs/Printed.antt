-- What a command prints on standard output, and its exit status. (this project's own)
use Rattle.std.specs.Prelude.{◌≡◌, ◌≢◌, ◌⊎◌, ℕ, List, [], ◌∷◌, ◌++◌, Result, Ok, Err, codes}
use Rattle.std.specs.String.{string_bytes}
use Rattle.cli_output.specs.declared.failure.Failure.{Failure}
use Rattle.cli_output.specs.declared.failure.Failure.TheVariants.{Memory}
use Rattle.cli_output.specs.declared.printed.Printed.{Printed}
use Rattle.cli_output.specs.ShownLines.{shown_lines}

-- this text is printed, with this exit status; what standard error says beside it is left open
pub record Prints (status : ℕ) (text : List ℕ) (printed : Printed) : Type 0 where
  pub status_is : printed.status ≡ status
  pub text_is : string_bytes printed.text ≡ text

-- a command prints this text, with this exit status; out of memory says nothing
abbrev pub PrintsText : ℕ → List ℕ → Result Printed Failure → Type 0
PrintsText status text (Ok printed) = Prints status text printed
PrintsText status text (Err failure) = failure ≡ Memory

-- the exit status of a command that is printed: that of what it prints; or 4 if memory ran out, and 2 for another
-- failure
abbrev pub status_of : Result Printed Failure → ℕ
status_of (Ok printed) = printed.status
status_of (Err Memory) = 4
status_of (Err failure) = 2

-- what is printed of an answer: of a failure nothing
abbrev pub text_of : Result Printed Failure → List ℕ
text_of (Ok printed) = string_bytes printed.text
text_of (Err failure) = []

-- the line that says that memory ran out
abbrev pub memory_line : List ℕ
memory_line = codes "refused 203 Memory" ++ 10 ∷ []

-- the first bytes of a text are printed, up to the whole
pub record PrintsFront (text : List ℕ) (Prints : List ℕ → Type 0) : Type 0 where
  pub front : List ℕ
  pub rest : List ℕ
  pub text_is : text ≡ front ++ rest
  pub prints : Prints front

-- What stands on standard output at the exit status 4: the answer, or that memory ran out; of either less than the
-- whole if the print failed.
abbrev pub PrintsAtFour : Result Printed Failure → (List ℕ → Type 0) → Type 0
PrintsAtFour answer Prints = PrintsFront (text_of answer) Prints ⊎ PrintsFront memory_line Prints

-- standard error says something, as it is shown
pub record SaysSomething (Says : List ℕ → Type 0) : Type 0 where
  pub told : List ℕ
  pub something : told ≢ []
  pub says : Says (shown_lines told)

-- What standard error says of an answer that is reported with this exit status: of one that is printed its note, as it
-- is shown, and nothing else; of a failure something. Where memory ran out, or a print failed, this is left open.
abbrev pub SaysOf : Result Printed Failure → ℕ → (List ℕ → Type 0) → Type 0
SaysOf (Ok printed) status Says = status ≢ 4 → Says (shown_lines (string_bytes printed.note))
SaysOf (Err Memory) status Says = Unit {0}
SaysOf (Err failure) status Says = SaysSomething Says
