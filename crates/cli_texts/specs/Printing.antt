-- A text that is printed, if standard error says nothing beside it. (this project's own)
use Rattle.std.specs.Prelude.{◌≡◌, ℕ, List, []}
use Rattle.std.specs.String.{string_bytes}
use Rattle.cli_output.specs.Printed.{Prints}
use Rattle.cli_output.specs.declared.printed.Printed.{Printed}

-- this text is printed, with this exit status, and standard error says nothing
pub record PrintsAlone (status : ℕ) (text : List ℕ) (printed : Printed) : Type 0 where
  pub prints : Prints status text printed
  pub silent : string_bytes printed.note ≡ []
