-- The file systems of a text of mount points, or why there are none. (this project's own)
use Rattle.std.specs.Prelude.{◌≡◌, ℕ, List, Result, Ok, Err}
use Rattle.desk_text.specs.declared.reading.LineFault.{LineFault}
use Rattle.desk_tables.specs.FileSystems.{IsTableOf}
use Rattle.desk_tables.specs.declared.filesystems.Mount.{Mount}
use Rattle.desk_mounts.specs.Table.{TooManyBy}
use Rattle.desk_mounts.specs.declared.rules.Rule.{Rule}
use Rattle.cli_output.specs.Failure.{IsFileFailure}
use Rattle.cli_output.specs.declared.failure.Failure.{Failure}
use Rattle.cli_output.specs.declared.failure.Failure.TheVariants.{Memory, TooManyMounts}
use Rattle.cli_output.specs.declared.failure.ReadFailure.TheVariants.{Mounts}

-- the failure says rightly how many different mount points there are, and that these are more than 256; out of memory says nothing
abbrev pub IsTooMany : List ℕ → List (List (List ℕ)) → Failure → Type 0
IsTooMany argument given (TooManyMounts named count) = (named.now ≡ argument) × TooManyBy given count
IsTooMany argument given Memory = Unit {0}
IsTooMany argument given failure = ⊥

-- the table of these mount points, or that there are too many
abbrev pub MakesTable : List ℕ → List (List (List ℕ)) → Result (List Mount) Failure → Type 0
MakesTable argument given (Ok table) = IsTableOf given table
MakesTable argument given (Err failure) = IsTooMany argument given failure

-- the same of a text that is read so; or its fault, with the argument that names the file, and the file's path
abbrev pub AnswersMounts : List ℕ → List ℕ → Result (List (List (List ℕ))) (LineFault Rule) → Result (List Mount) Failure → Type 0
AnswersMounts argument path (Ok given) result = MakesTable argument given result
AnswersMounts argument path (Err fault) (Ok table) = ⊥
AnswersMounts argument path (Err fault) (Err failure) = IsFileFailure argument path (Mounts fault) failure
