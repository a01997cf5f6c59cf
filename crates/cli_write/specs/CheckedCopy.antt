-- A copy of a database in one file. (this project's own)
use Rattle.std.specs.Prelude.{◌≡◌, ℕ, List}
use Rattle.sqlite.specs.Effect.{Database}
use Rattle.sqlite_trees.specs.Tree.{Trees}
use Rattle.desk_store.specs.Open.{IsOurs}
use Rattle.cli_database_files.specs.OneFile.{HoldsAlone}

-- these trees are those of a database of this project
abbrev pub IsOursIn : Trees → Type 0
IsOursIn trees = (db : Database) × (db.trees ≡ trees) × IsOurs db

-- The bytes are those of a database file that holds these trees, with no log beside it; and that is a database of this project.
pub record IsCheckedCopy (trees : Trees) (bytes : List ℕ) : Type 0 where
  pub alone : HoldsAlone bytes trees
  pub ours : IsOursIn trees
