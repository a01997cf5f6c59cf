-- How the bytes of a file are read, as the functions that read them say it. (this project's own)
use Rattle.std.specs.Prelude.{◌≡◌, Option, None, Some, Result, Ok, Err}
use Rattle.std.specs.Bool.{Decides}
use Rattle.std.specs.declared.io.ErrorKind.{ErrorKind}
use Rattle.std.specs.declared.io.ErrorKind.TheVariants.{NotFound}
use Rattle.cli_files.specs.declared.files.Unread.{Unread}

module _ {B : Type 0} where
  -- bytes are read only of a file that is opened; it is called missing just if it is not found
  abbrev pub OpensBy : Option ErrorKind → Result B Unread → Type 0
  OpensBy kind (Ok bytes) = kind ≡ None
  OpensBy kind (Err unread) = Decides unread.is_missing (kind ≡ Some NotFound)
