-- How the desk of a database is opened, on a copy and for edits, and why there is none; and an edit of it. (this project's own)
use Rattle.std.specs.Prelude.{◌≡◌, ◌⊎◌, ℕ, ◌+◌, List, [], IfOk, IsTrue, Result, Ok, Err, codes}
use Rattle.sqlite_wal.specs.Recovery.{Image}
use Rattle.sqlite_trees.specs.declared.store.Store.{Ghosts}
use Rattle.sqlite.specs.Effect.{Database}
use Rattle.sqlite.specs.Held.{Held, state}
use Rattle.sqlite.specs.Start.{FindsIn}
use Rattle.sqlite.specs.State.{HasCleanDisk, Opens, State, Survives}
use Rattle.desk_core.specs.Edit.{Edit}
use Rattle.desk_core.specs.History.{standing_of}
use Rattle.desk_core.specs.Judging.{entry_of}
use Rattle.desk_core.specs.State.{standing}
use Rattle.desk_core.specs.Views.{Kept}
use Rattle.desk_store.specs.Desk.{AddsNothing, CommitsOne, HasGoodDisk, History, IsJudgedBy, Shown, StepsOn, told}
use Rattle.desk_store.specs.History.{entry_rows}
use Rattle.desk_store.specs.Open.{IsOurs, IsProject, LeavesOpened, MayMigrate, OpensAt}
use Rattle.desk_store.specs.Tables.{LeavesCommit, Stores}
use Rattle.desk_store.specs.declared.desk.Done.{Done}
use Rattle.desk_store.specs.declared.error.DeskError.{DeskError}
use Rattle.desk_service.specs.Edits.{reply_to}
use Rattle.desk_service.specs.declared.edits.Replies.{Replies}
use Rattle.desk_service.specs.declared.refused.Refused.TheVariants.{Schema, Store}
use Rattle.cli_output.specs.Failure.{IsUnread}
use Rattle.cli_output.specs.declared.failure.Failure.{Failure}
use Rattle.cli_output.specs.declared.failure.Failure.TheVariants.{Memory}
use Rattle.cli_output.specs.declared.printed.Printed.{Printed}
use Rattle.cli_desk.specs.RefusalLines.{Says}

-- A command prints that there is no desk at this path: SQLite does not open the database or refused a statement, or the database is
-- not one of this project; or it cannot be read, of which out of memory says nothing.
abbrev pub HasNoDesk : List ℕ → Result Printed Failure → Type 0
HasNoDesk path (Ok printed) = Says Store printed ⊎ Says Schema printed
HasNoDesk path (Err failure) = IsUnread (codes "DB") path failure

-- A command prints that there is no desk on a copy of a database: a statement was refused, or the database is not one of this
-- project. Out of memory says nothing.
abbrev pub HasNoDeskOn : Database → Result Printed Failure → Type 0
HasNoDeskOn db (Ok printed) = Says Store printed ⊎ (Says Schema printed × (IsOurs db → ⊥))
HasNoDeskOn db (Err failure) = failure ≡ Memory

-- The same of the database at a path, of which a copy is made: it cannot be read either, or SQLite does not open it.
abbrev pub HasNoCopiedDesk : List ℕ → Result Printed Failure → Type 0
HasNoCopiedDesk path (Ok printed) = Says Store printed ⊎ (Says Schema printed × ((db : Database) × (IsOurs db → ⊥)))
HasNoCopiedDesk path (Err failure) = IsUnread (codes "DB") path failure

-- a desk on a copy stands at each history that the database of the copy holds, and nothing is pending
abbrev pub IsCopied : {S V : Type 0} → Ghosts S → Shown S V → Type 0
IsCopied g desk = (db : Database) × OpensAt g db desk

-- A desk was opened on the database of a connection: it stands at the history that the tables held, of which a database of version 1 was
-- migrated; and a crash leaves what it could before, or that migration.
pub record OpensOn {S V : Type 0} (g : Ghosts S) (conn : Held S) (desk : Shown S V) : Type 0 where
  pub stands : HasGoodDisk g desk → OpensAt g (state g conn).committed desk
  pub tables : HasGoodDisk g desk → LeavesOpened (state g conn).committed (state g desk.conn).committed
  pub crash : Survives (state g conn) (state g desk.conn) (MayMigrate (state g conn))

-- a desk was opened on files that held this image, on the database that was found in them
pub record OpensDesk {S V : Type 0} (g : Ghosts S) (image : Image) (desk : Shown S V) : Type 0 where
  pub conn : Held S
  pub found : HasCleanDisk (state g conn) → Opens (state g conn) × FindsIn image (state g conn)
  pub on : OpensOn g conn desk

-- An edit was made of the database of a connection, and has this answer: by how files stand in the desk that was opened on it,
-- whatever the disk did. The database is one of this project, and so they stand by the history that it held; it then holds the
-- history after the edit. A database of version 1 is migrated first. A crash at any moment leaves what it could before, the
-- migration, or the edit's one commit. Once the edit is answered as stored or as proposed, its rows are in the tables, and a crash
-- leaves that.
pub record IsPut (V : Type 0) (old new : State) (e : Edit) (answer : Result Done DeskError) : Type 0 where
  -- what the desk that was opened on it kept beside the tables, and the tables when it was opened
  pub before : Kept V
  pub after : Kept V
  pub opened : Database
  pub judged : IsJudgedBy before after e answer
  pub number : IfOk answer (λ done. done.rev ≡ e.base + 1)
  pub ours : HasCleanDisk new → IsOurs old.committed
  pub opening : HasCleanDisk new → LeavesOpened old.committed opened
  pub stood : HasCleanDisk new → (history : History) → IsProject old.committed history → standing before ≡ standing_of history
  pub step : HasCleanDisk new → (history : History) → IsProject old.committed history → StepsOn new after e (told answer) history []
  pub unchanged : HasCleanDisk new → IsTrue new.is_open → AddsNothing before e (told answer) → new.committed ≡ opened
  pub crash : Survives old new (λ trees. MayMigrate old trees ⊎ CommitsOne before e (told answer) opened trees)
  pub live : HasCleanDisk new → (AddsNothing before e (told answer) → ⊥) → IsTrue new.is_open
  pub stored : HasCleanDisk new → (AddsNothing before e (told answer) → ⊥) → Stores (entry_rows (entry_of (standing before) e)) opened new.committed
  pub durable : HasCleanDisk new → (AddsNothing before e (told answer) → ⊥) → LeavesCommit new

-- An edit of a desk is one of the database of each connection on which the desk was opened; its reply is that to the answer.
abbrev pub PutsOver : {S V T : Type 0} → Ghosts S → Shown S V → Shown S V → Edit → Replies T → Result T DeskError → Type 0
PutsOver {S} {V} g old new e replies reply =
    (conn : Held S) → OpensOn g conn old → (answer : Result Done DeskError) × IsPut V (state g conn) (state g new.conn) e answer × (reply ≡ reply_to replies answer)
