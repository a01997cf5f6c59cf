-- Why a command on a database is refused, as it is printed. (this project's own)
use Rattle.std.specs.Prelude.{ℕ, ◌++◌, ◌∷◌, List, [], Result, codes}
use Rattle.std.specs.Fmt.{decimal}
use Rattle.desk_core.specs.Prints.{refusal_line}
use Rattle.desk_core.specs.declared.edit.Refusal.{Refusal}
use Rattle.desk_core.specs.declared.edit.Refusal.TheVariants as refusal
use Rattle.desk_service.specs.Refused.{refused_name, refused_number}
use Rattle.desk_service.specs.declared.refused.Refused.{Refused}
use Rattle.desk_service.specs.declared.refused.Refused.TheVariants as refused
use Rattle.cli_output.specs.Printed.{Prints, PrintsText}
use Rattle.cli_output.specs.declared.failure.Failure.{Failure}
use Rattle.cli_output.specs.declared.printed.Printed.{Printed}

-- the exit status of an edit that is refused: 3 for the fault of a site, else 1
abbrev pub refusal_status : Refusal → ℕ
refusal_status (refusal.Fault fault) = 3
refusal_status refused = 1

-- the exit status
abbrev pub refused_status : Refused → ℕ
refused_status (refused.Edit why) = refusal_status why
refused_status refused.NoRevision = 1
refused_status refused.OtherProposal = 1
refused_status refused.Store = 4
refused_status refused.Schema = 4
refused_status refused.Memory = 4

-- the line of a number and a name, as `refused 111 NoRevision`
abbrev pub numbered_line : ℕ → List ℕ → List ℕ
numbered_line number name = codes "refused " ++ decimal number ++ 32 ∷ name ++ 10 ∷ []

-- the line that is printed, with its line end: of an edit the refusal as it is printed, else its number and name
abbrev pub refused_line : Refused → List ℕ
refused_line (refused.Edit why) = refusal_line why ++ 10 ∷ []
refused_line why = numbered_line (refused_number why) (refused_name why)

-- the line of a refusal for the text of a file, as `refused 5 TooLarge hosts`
abbrev pub filed_line : Refusal → List ℕ → List ℕ
filed_line why file = refusal_line why ++ 32 ∷ file ++ 10 ∷ []

-- this refusal is printed
abbrev pub Says : Refused → Printed → Type 0
Says why printed = Prints (refused_status why) (refused_line why) printed

-- a command prints this refusal; out of memory says nothing
abbrev pub IsRefused : Refused → Result Printed Failure → Type 0
IsRefused why result = PrintsText (refused_status why) (refused_line why) result
