-- The file systems of mount points that are too many. (this project's own)
use Rattle.std.specs.Prelude.{◌≡◌, ◌<◌, ℕ, List, length}
use Rattle.desk_tables.specs.FileSystems.{IsTableOf}
use Rattle.desk_tables.specs.declared.filesystems.Mount.{Mount}

-- the table of the mount points given would list so many, and that is more than 256
pub record TooManyBy (given : List (List (List ℕ))) (count : ℕ) : Type 0 where
  pub table : List Mount
  pub is_table : IsTableOf given table
  pub counted : length table ≡ count
  pub many : 256 < count
