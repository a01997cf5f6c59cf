-- What is found in a database file that has no log, for `one_file`.
use Rattle.std.proofs.Common.{◌≡◌, ℕ, Bool, true, List, [], ap, subst, sym}
use Rattle.std.proofs.Math.Logic.{∥∥₁_elim}
use Rattle.sqlite_disk.specs.declared.Disk.{Ghosts}
use Rattle.sqlite_disk.specs.declared.Files.{Files}
use Rattle.sqlite_trees.specs.Props.{Trees-set}
use Rattle.sqlite_trees.specs.Tree.{Trees}
use Rattle.sqlite_trees.specs.View.{doubt}
use Rattle.sqlite_store.specs.declared.store.FileStore.{FileStore}
use Rattle.sqlite.specs.Files.{Finds, HoldsDatabase, file_state}
use Rattle.sqlite.specs.Held.{Held}
use Rattle.cli_database_files.specs.OneFile.{HoldsAlone}

-- an open of a database file with no log finds the trees that it holds
pub found_alone : {D : Type 0} {g : Ghosts D} (c : Held (FileStore D g)) (files : Files D) (trees : Trees) → g.seen files.log ≡ [] → Finds files c
    → HoldsAlone (g.seen files.db) trees → (file_state c).committed.trees ≡ trees
found_alone {D} {g} c files trees none found alone =
    ∥∥₁_elim (subst (λ (log : List ℕ). ∥ HoldsDatabase (record { log = log; db = g.seen files.db }) trees ∥₁) (sym none) alone) (Trees-set _ _) (found.holds trees)

-- a connection whose disk told no lie
pub good_disk : (is_clean : Bool) → is_clean ≡ true → doubt is_clean ≡ 0
unfolding doubt
good_disk is_clean e = ap doubt e
