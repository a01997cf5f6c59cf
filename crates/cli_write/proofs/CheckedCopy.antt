-- That the bytes of a copy are checked, and why there is no desk on it, for `checked_copy`.
use Rattle.std.proofs.Common.{◌≡◌, ℕ, List, codes, inl, inr, Result, Ok, Err, subst, sym}
use Rattle.sqlite_trees.specs.Tree.{Trees}
use Rattle.sqlite.specs.Effect.{Database}
use Rattle.desk_service.specs.declared.refused.Refused.TheVariants as refused
use Rattle.cli_output.specs.Failure.{IsUnread}
use Rattle.cli_output.specs.declared.failure.Failure.{Failure}
use Rattle.cli_output.specs.declared.failure.Failure.TheVariants.{Memory}
use Rattle.cli_output.specs.declared.printed.Printed.{Printed}
use Rattle.cli_database_files.specs.OneFile.{HoldsAlone}
use Rattle.cli_desk.specs.Desks.{HasNoCopiedDesk, HasNoDeskOn}
use Rattle.cli_desk.specs.RefusalLines.{IsRefused}
use Rattle.cli_write.specs.CheckedCopy.{IsCheckedCopy, IsOursIn}
use Rattle.cli_write.specs.CopyCommand.{TellsCopied}

-- the bytes of a file that a desk was opened on are a checked copy
pub is_checked : (trees : Trees) (bytes file : List ℕ) → bytes ≡ file → HoldsAlone file trees → IsOursIn trees → IsCheckedCopy trees bytes
is_checked trees bytes file is alone ours = record { alone = subst (λ (b : List ℕ). HoldsAlone b trees) (sym is) alone; ours = ours }

-- out of memory says nothing of a file
unread_memory : (path : List ℕ) (failure : Failure) → failure ≡ Memory → IsUnread (codes "DB") path failure
unread_memory path failure is = subst (IsUnread (codes "DB") path) (sym is) tt

-- SQLite does not open a database
pub not_opened : (path : List ℕ) (result : Result Printed Failure) → IsRefused refused.Store result → HasNoCopiedDesk path result
not_opened path (Ok printed) is = inl is
not_opened path (Err failure) is = unread_memory path failure is

-- there is no desk on a copy of the database at a path
pub no_desk_at : (path : List ℕ) (db : Database) (result : Result Printed Failure) → HasNoDeskOn db result → HasNoCopiedDesk path result
no_desk_at path db (Ok printed) (inl store) = inl store
no_desk_at path db (Ok printed) (inr schema) = inr (schema.0, (db, schema.1))
no_desk_at path db (Err failure) is = unread_memory path failure is

-- the file of a copy cannot be made
pub not_copied : (result : Result Printed Failure) → IsRefused refused.Store result → TellsCopied result
not_copied (Ok printed) is = inr is
not_copied (Err failure) is = is
