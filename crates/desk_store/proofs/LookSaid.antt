-- What a look tells: SQLite's own words of one of its queries, or a column that cannot be read.
use Rattle.std.proofs.Common.{◌≡◌, ◌⊎◌, inl, inr, refl, sym, subst, Result, Ok, Err, IfErr}
use Rattle.sqlite_trees.specs.declared.store.Store.{Ghosts}
use Rattle.sqlite.specs.Held.{Held, state}
use Rattle.sqlite.specs.State.{Survives}
use Rattle.sqlite.specs.declared.error.Error.{Error}
use Rattle.sqlite.specs.declared.error.Error.TheVariants.{Utf8Error}
use Rattle.desk_store.specs.Error.{IsSaid, Statement}
use Rattle.desk_store.specs.Rows.{IsOfRow, IsOfTask, TellsLook}
use Rattle.desk_store.specs.declared.error.DeskError.{DeskError}
use Rattle.desk_store.specs.declared.error.DeskError.TheVariants as error
use Rattle.desk_store.specs.declared.error.Task.{Task}
use Rattle.desk_store.specs.declared.error.Task.TheVariants as tasks
use Rattle.desk_store.proofs.Inside.{same_survives}
use Rattle.desk_store.proofs.Said.{said_in}

of_row : (e : DeskError) → IsOfRow e → IsOfTask tasks.ReadRevisions e
of_row e (inl is) = inl is
of_row e (inr (column, is)) = inr (record { task = tasks.ReadRevisions; error = Utf8Error column }, (refl, λ same. cc), is)

pub of_rows : {T : Type 0} (result : Result T DeskError) → IfErr result IsOfRow → IfErr result (IsOfTask tasks.ReadRevisions)
of_rows (Ok x) is = tt
of_rows (Err e) is = of_row e is

module _ {S : Type 0} (g : Ghosts S) (Own : Statement → Type 0) (old new : Held S) where
  row_told : (e : DeskError) → IsOfRow e → TellsLook g Own old new e
  row_told e (inl is) = subst (TellsLook g Own old new) (sym is) tt
  row_told e (inr (column, is)) = subst (TellsLook g Own old new) (sym is) (inr (column, refl))

  pub rows_told : {T : Type 0} (result : Result T DeskError) → IfErr result IsOfRow → IfErr result (TellsLook g Own old new)
  rows_told (Ok x) is = tt
  rows_told (Err e) is = row_told e is

  -- a query of the look, which began after others
  pub query_told : (own : Statement) → Own own → (begun : Held S) → Survives (state g old) (state g begun) (λ _. ⊥) → (task : Task) (said : Error) (e : DeskError)
      → (e ≡ error.Memory) ⊎ (e ≡ error.Store (record { task = task; error = said })) → IsSaid g (λ s. s ≡ own) begun new said → TellsLook g Own old new e
  query_told own one begun reaches task said e (inl memory) is = subst (TellsLook g Own old new) (sym memory) tt
  query_told own one begun reaches task said e (inr store) is =
      subst (TellsLook g Own old new) (sym store) (inl (said_in g (λ s. s ≡ own) Own (λ s same. subst Own (sym same) one) old begun new new said reaches is (same_survives (state g new))))
