-- How a file cannot be opened. (this project's own)
use Rattle.std.specs.Prelude.{Option, None, Some, Result, Ok, Err}
use Rattle.std.specs.IoError.{error_kind}
use Rattle.std.specs.declared.io.Error.{Error}
use Rattle.std.specs.declared.io.ErrorKind.{ErrorKind}

module _ {F : Type 0} where
  -- the kind of the error by which a file cannot be opened, if it cannot
  abbrev pub open_error : Result F Error → Option ErrorKind
  open_error (Ok file) = None
  open_error (Err error) = Some (error_kind error)
