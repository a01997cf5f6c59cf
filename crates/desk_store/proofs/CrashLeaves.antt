-- What a crash leaves of a desk is a database of this project.
use Rattle.std.proofs.Common.{◌≡◌, ◌⊎◌, ◌∙◌, ◌++◌, inl, inr, refl, [], ◌∷◌, Result, Ok, Err}
use Rattle.sqlite.specs.Effect.{Database, IsDatabase}
use Rattle.sqlite.specs.State.{HasCleanDisk, State, Survives}
use Rattle.sqlite.specs.Tree.{Trees}
use Rattle.desk_policy.specs.Site.{SiteTexts}
use Rattle.desk_core.specs.Views.{Kept}
use Rattle.desk_store.specs.Create.{MakesFirst, MayMake, first_history}
use Rattle.desk_store.specs.declared.error.CreateError.{CreateError}
use Rattle.desk_store.specs.declared.error.CreateError.TheVariants as refused
use Rattle.desk_store.specs.Desk.{History, Stands}
use Rattle.desk_store.specs.Laws.{IsLeft}
use Rattle.desk_store.specs.Open.{IsProject, MayMigrate}
use Rattle.desk_store.specs.Tables.{LeavesCommit}
use Rattle.desk_store.proofs.SameTables.{holds_same, project_same, two_versions}

pub leaves_a_desk : {V : Type 0} (s : State) (kept : Kept V) (history pending : History) (trees : Trees) (later : Database) → Stands s kept history pending → s.may_leave trees
    → IsDatabase later → later.trees ≡ trees → (left : History) × IsLeft history pending left × IsProject later left
leaves_a_desk s kept history pending trees later stands may sound same =
    let it = stands.leaves trees may in
    elim it.3 [
      | inl holds ↦ (history, inl refl, record { holds = inl (holds_same it.0 later it.1 sound (same ∙ it.2) history holds); stored = stands.stored })
      | inr more ↦ (
        history ++ more.0 ∷ [],
        inr (more.0, more.1, refl),
        record { holds = inl (holds_same it.0 later it.1 sound (same ∙ it.2) (history ++ more.0 ∷ []) more.2); stored = more.3 },
      )
    ]

-- what the one commit of a making leaves is a database of this project
first_project : (old : State) (texts : SiteTexts) (trees : Trees) (later : Database) → MakesFirst old texts trees → IsDatabase later → later.trees ≡ trees → IsProject later (first_history texts)
first_project old texts trees later made sound same =
    let it = made.3 in
    record { holds = inl (holds_same it.0 later it.1.sound sound (same ∙ it.2) (first_history texts) it.1.holds); stored = made.2 }

begun : {T : Type 0} (old : State) (texts : SiteTexts) (result : Result T CreateError) (trees : Trees) → MayMake old texts result trees → MakesFirst old texts trees
begun old texts (Ok made) trees h = h
begun old texts (Err (refused.Store fault)) trees h = h
begun old texts (Err refused.Memory) trees h = h
begun old texts (Err refused.Schema) trees h = absurd h
begun old texts (Err (refused.Fault fault)) trees h = absurd h
begun old texts (Err (refused.TooLarge file)) trees h = absurd h

pub leaves_first : {T : Type 0} (old new : State) (texts : SiteTexts) (result : Result T CreateError) (trees : Trees) (later : Database) → Survives old new (MayMake old texts result) → HasCleanDisk new → new.may_leave trees
    → IsDatabase later → later.trees ≡ trees → old.may_leave trees ⊎ IsProject later (first_history texts)
leaves_first old new texts result trees later survives clean may sound same = elim (survives.crash clean trees may) [
  | inl before ↦ inl before
  | inr made ↦ inr (first_project old texts trees later (begun old texts result trees made) sound same)
]

-- what the one commit of an opening leaves is a database with the same histories
migrated : (old : State) (history : History) (trees : Trees) (later : Database) → IsProject old.committed history → MayMigrate old trees → IsDatabase later → later.trees ≡ trees → IsProject later history
migrated old history trees later project may sound same =
    let first = may.1.1 in
    let it = may.2 in
    elim project.holds [
      | inl second ↦ absurd (two_versions old.committed.schema second.tables first.first)
      | inr holds ↦ record { holds = inl (holds_same it.0 later it.1.sound sound (same ∙ it.2) history (it.1.holds history holds)); stored = project.stored }
    ]

pub leaves_opened : (old new : State) (history : History) (trees : Trees) (later : Database) → IsDatabase old.committed → IsProject old.committed history → LeavesCommit old → Survives old new (MayMigrate old)
    → HasCleanDisk new → new.may_leave trees → IsDatabase later → later.trees ≡ trees → IsProject later history
leaves_opened old new history trees later before project leaves survives clean may sound same = elim (survives.crash clean trees may) [
  | inl as_before ↦ project_same old.committed later before sound (same ∙ leaves trees as_before) history project
  | inr made ↦ migrated old history trees later project made sound same
]
