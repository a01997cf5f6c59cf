-- What a command prints if a desk has no answer. (this project's own)
use Rattle.std.specs.Prelude.{◌≡◌, Result, Err, if◌then◌else◌}
use Rattle.desk_core.specs.declared.edit.Edit.{Edit}
use Rattle.desk_store.specs.declared.error.DeskError.{DeskError}
use Rattle.desk_store.specs.declared.error.DeskError.TheVariants as error
use Rattle.desk_service.specs.Refused.{refused_by}
use Rattle.cli_output.specs.declared.failure.Failure.{Failure}
use Rattle.cli_output.specs.declared.failure.Failure.TheVariants.{Memory}
use Rattle.cli_output.specs.declared.printed.Printed.{Printed}
use Rattle.cli_database_files.specs.Copy.{is_out_of_memory}
use Rattle.cli_desk.specs.RefusalLines.{IsRefused}
use Rattle.cli_desk.specs.declared.refusal_notes.KeylessEdit.{KeylessEdit}

-- a command prints why a desk has no answer
abbrev pub IsRefusedBy : DeskError → Result Printed Failure → Type 0
IsRefusedBy error.Memory result = result ≡ Err Memory
IsRefusedBy failed result = IsRefused (refused_by failed) result

-- the error that one of a desk over a copy in memory means: a statement may be refused since memory ran out
abbrev pub copy_error : DeskError → DeskError
copy_error (error.Store fault) = if is_out_of_memory fault.error then error.Memory else error.Store fault
copy_error failed = failed

-- what a note may say of an edit: all but its key
pub record IsWithoutKey (edit : Edit) (keyless : KeylessEdit) : Type 0 where
  pub file : keyless.file.now ≡ edit.file.now
  pub base : keyless.base ≡ edit.base
  pub caller : keyless.caller.now ≡ edit.caller.now
  pub text : keyless.text.now ≡ edit.text.now
