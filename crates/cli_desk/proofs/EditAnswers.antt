-- An edit that is made of a desk is made of the database that the desk was opened on, for `desks`.
use Rattle.std.proofs.Common.{◌≡◌, ◌⊎◌, [], Result, arith, inl, inr}
use Rattle.sqlite.specs.Held.{Held, state}
use Rattle.sqlite.specs.State.{HasCleanDisk, State, Survives}
use Rattle.sqlite.proofs.StateLemmas.{survives_then}
use Rattle.sqlite_trees.specs.declared.store.Store.{Ghosts}
use Rattle.desk_core.specs.Edit.{Edit}
use Rattle.desk_store.specs.Desk.{CommitsOne, IsEdited, Shown, told}
use Rattle.desk_store.specs.Open.{LeavesOpened, MayMigrate, OpensAt}
use Rattle.desk_store.specs.declared.desk.Done.{Done}
use Rattle.desk_store.specs.declared.error.DeskError.{DeskError}
use Rattle.desk_service.specs.Edits.{PutsBy, reply_to}
use Rattle.desk_service.specs.declared.edits.Replies.{Replies}
use Rattle.cli_desk.specs.Desks.{IsPut}

-- An edit is made of a desk that was opened on the database of a connection.
module _ {S V : Type 0} (g : Ghosts S) (conn : Held S) (desk after : Shown S V) (e : Edit) (opens : HasCleanDisk (state g desk.conn) → OpensAt g (state g conn).committed desk) (leaves : HasCleanDisk (state g desk.conn) → LeavesOpened (state g conn).committed (state g desk.conn).committed) (crash : Survives (state g conn) (state g desk.conn) (MayMigrate (state g conn))) where
  abbrev first : State
  first = state g conn

  abbrev mid : State
  mid = state g desk.conn

  abbrev last : State
  last = state g after.conn

  is_put : (answer : Result Done DeskError) → IsEdited mid last desk.state after.state e answer → IsPut V first last e answer
  is_put answer edited =
      let clean : HasCleanDisk last → HasCleanDisk mid = λ good. omega (arith, good, edited.crash.clean) in
      record {
        before = desk.state;
        after = after.state;
        opened = mid.committed;
        judged = edited.judged;
        number = edited.number;
        ours = λ good. (opens (clean good)).0;
        opening = λ good. leaves (clean good);
        stood = λ good history project. ((opens (clean good)).1 history project).standing_is;
        step = λ good history project. edited.step good history [] ((opens (clean good)).1 history project);
        unchanged = edited.tables;
        crash = survives_then first mid last (MayMigrate first) (CommitsOne desk.state e (told answer) mid.committed) (λ trees. MayMigrate first trees ⊎ CommitsOne desk.state e (told answer) mid.committed trees)
            (λ good trees may. inl may) (λ good trees commits. inr commits) crash edited.crash;
        live = λ good some. (edited.durable good some).live;
        stored = λ good some. (edited.durable good some).stores;
        durable = λ good some. (edited.durable good some).leaves;
      }

  pub puts_over : {T : Type 0} (replies : Replies T) (reply : Result T DeskError) → PutsBy g desk after e replies reply → (answer : Result Done DeskError) × IsPut V first last e answer × (reply ≡ reply_to replies answer)
  puts_over replies reply (answer, edited, is) = (answer, is_put answer edited, is)
