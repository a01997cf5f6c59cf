-- A database that is one file. (this project's own)
use Rattle.std.specs.Prelude.{ℕ, List, []}
use Rattle.sqlite.specs.Files.{HoldsDatabase}
use Rattle.sqlite_trees.specs.Tree.{Trees}

-- a database file with these bytes, and no log beside it, holds these trees
abbrev pub HoldsAlone : List ℕ → Trees → Type 0
HoldsAlone bytes trees = ∥ HoldsDatabase (record { log = []; db = bytes }) trees ∥₁
