-- What the status 4 of an answer says. (this project's own)
use Rattle.std.specs.Prelude.{◌≡◌, ℕ, List, Option, Ok}
use Rattle.std.specs.String.{string_bytes}
use Rattle.desk_service.specs.declared.refused.Refused.{Refused}
use Rattle.cli_output.specs.declared.printed.Printed.{Printed}
use Rattle.cli_desk.specs.RefusalLines.{refused_line, refused_status}
use Rattle.cli.specs.Commands.{AnswersProgram}

-- the text is the line of a refusal with the exit status 4: `201 Store`, `202 Schema` or `203 Memory`
abbrev pub IsRefusedAtFour : List ℕ → Type 0
IsRefusedAtFour text = (why : Refused) × (refused_status why ≡ 4) × (text ≡ refused_line why)

-- An answer whose own status is 4 is the line of such a refusal, and nothing else. (A run may also end with 4 once the print of any answer
-- failed.)
abbrev pub FourIsRefused : Type 0
FourIsRefused =
    (words : List (List ℕ)) (known : Option (List ℕ)) (printed : Printed) → AnswersProgram words known (Ok printed) → printed.status ≡ 4 → IsRefusedAtFour (string_bytes printed.text)
