-- Why a database is not opened. (this project's own)
use Rattle.std.specs.Prelude.{ℕ, Bool, true, false, codes, List, if◌then◌else◌}
use Rattle.sqlite.specs.declared.error.Error.{Error}
use Rattle.sqlite.specs.declared.error.Error.TheVariants.{SqliteFailure}
use Rattle.sqlite.specs.declared.error.ErrorCode.TheVariants.{OutOfMemory, SystemIoFailure}
use Rattle.cli_output.specs.Failure.{IsUnread}
use Rattle.cli_output.specs.declared.failure.Failure.TheVariants.{Memory as NoMemory}
use Rattle.cli_database_files.specs.declared.copy.Unopened.{Unopened}
use Rattle.cli_database_files.specs.declared.copy.Unopened.TheVariants.{Refused, Unread}

-- the database at this path cannot be read, or SQLite does not open it; out of memory says nothing
abbrev pub IsUnopened : List ℕ → Unopened → Type 0
IsUnopened path (Unread failure) = IsUnread (codes "DB") path failure
IsUnopened path (Refused error) = Unit {0}

-- An error of a copy in memory means that memory ran out. One of the disk does: a copy is made of memory alone.
abbrev pub is_out_of_memory : Error → Bool
is_out_of_memory (SqliteFailure OutOfMemory) = true
is_out_of_memory (SqliteFailure SystemIoFailure) = true
is_out_of_memory error = false

-- why a copy in memory is not opened, by the error of SQLite
abbrev pub copy_unopened : Error → Unopened
copy_unopened error = if is_out_of_memory error then Unread NoMemory else Refused error
