-- A desk that was opened stands at the history of its database.
use Rattle.std.proofs.Common.{◌≡◌, ◌∙◌, inl, inr, subst, sym, [], codes}
use Rattle.sqlite.specs.Effect.{Database, IsDatabase}
use Rattle.sqlite.specs.State.{State}
use Rattle.desk_core.specs.History.{standing_of}
use Rattle.desk_core.specs.State.{standing}
use Rattle.desk_core.specs.Views.{Kept}
use Rattle.desk_store.specs.Desk.{History, IsDesk, Stands}
use Rattle.desk_store.specs.History.{Holds}
use Rattle.desk_store.specs.Open.{IsProject, LeavesOpened}
use Rattle.desk_store.specs.Tables.{IsAtRest, IsKeyed, LeavesCommit}
use Rattle.desk_store.proofs.OneHistory.{one_history}
use Rattle.desk_store.proofs.SameTables.{two_versions}

-- what an opening leaves holds each history that the database held, of whichever version it was
pub held_after : (old new : Database) (history : History) → LeavesOpened old new → IsProject old history → Holds new history
held_after old new history opened project = elim opened [
  | inl made ↦ elim project.holds [
    | inl second ↦ absurd (two_versions old.schema second.tables made.0.1.first)
    | inr first ↦ made.1.holds history first
  ]
  | inr kept ↦ elim project.holds [
    | inl second ↦ subst (λ (db : Database). Holds db history) (sym kept.1) second
    | inr first ↦ absurd (kept.0 (history, first, project.stored))
  ]
]

module _ {V : Type 0} (old new : State) (kept : Kept V) (opened : LeavesOpened old.committed new.committed) (sound : IsDatabase new.committed) (leaves : LeavesCommit new)
    (found : (history : History) × IsProject old.committed history × (standing kept ≡ standing_of history)) where
  pub stands_opened : (history : History) → IsProject old.committed history → Stands new kept history []
  stands_opened history project =
      let own = held_after old.committed new.committed found.0 opened found.1 in
      let holds = held_after old.committed new.committed history opened project in
      record {
        stored = project.stored;
        standing_is = found.2 ∙ (one_history new.committed found.0 history own holds).1;
        tables = λ _. holds;
        leaves = λ trees may. (new.committed, sound, leaves trees may, inl holds);
      }

  pub desk_opened : IsAtRest new → IsKeyed new.committed (codes "proposal") → IsDesk new kept
  desk_opened rest keyed = record { rest = rest; keyed = λ live. keyed; history = found.0; pending = []; stands = stands_opened found.0 found.1 }
