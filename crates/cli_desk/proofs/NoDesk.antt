-- Why there is no desk, for `desks`.
use Rattle.std.proofs.Common.{◌≡◌, ℕ, Bool, true, false, List, codes, inl, inr, Result, Ok, Err, ap, cond, refl, subst, sym}
use Rattle.sqlite_trees.specs.View.{doubt}
use Rattle.sqlite.specs.Effect.{Database}
use Rattle.desk_store.specs.Open.{IsOfOpening, IsOurs}
use Rattle.desk_store.specs.declared.error.DeskError.{DeskError}
use Rattle.desk_store.specs.declared.error.DeskError.TheVariants as error
use Rattle.desk_store.specs.declared.error.StoreFault.{StoreFault}
use Rattle.desk_service.specs.declared.refused.Refused.TheVariants as refused
use Rattle.cli_output.specs.Failure.{IsUnread}
use Rattle.cli_output.specs.declared.failure.Failure.{Failure}
use Rattle.cli_output.specs.declared.failure.Failure.TheVariants.{Memory}
use Rattle.cli_output.specs.declared.printed.Printed.{Printed}
use Rattle.cli_database_files.specs.Copy.{is_out_of_memory}
use Rattle.cli_desk.specs.Desks.{HasNoCopiedDesk, HasNoDesk, HasNoDeskOn}
use Rattle.cli_desk.specs.RefusalNotes.{IsRefusedBy, copy_error}
use Rattle.cli_desk.specs.RefusalLines.{IsRefused}

-- out of memory says nothing of a file
unread_memory : (path : List ℕ) (failure : Failure) → failure ≡ Memory → IsUnread (codes "DB") path failure
unread_memory path failure is = subst (IsUnread (codes "DB") path) (sym is) tt

-- SQLite does not open a database, or refused a statement
pub by_store : (path : List ℕ) (result : Result Printed Failure) → IsRefused refused.Store result → HasNoDesk path result
by_store path (Ok printed) is = inl is
by_store path (Err failure) is = unread_memory path failure is

-- a database is not one of this project
pub by_schema : (path : List ℕ) (result : Result Printed Failure) → IsRefused refused.Schema result → HasNoDesk path result
by_schema path (Ok printed) is = inr is
by_schema path (Err failure) is = unread_memory path failure is

-- no desk is opened on a database
pub by_opening : (path : List ℕ) (failed : DeskError) (result : Result Printed Failure) → IsOfOpening failed → IsRefusedBy failed result → HasNoDesk path result
by_opening path error.Schema result look tells = by_schema path result tells
by_opening path (error.Store fault) result look tells = by_store path result tells
by_opening path error.Memory result look tells = subst (λ (r : Result Printed Failure). HasNoDesk path r) (sym tells) tt
by_opening path (error.Refused refusal) result (inl schema) tells = absurd (cc)
by_opening path (error.Refused refusal) result (inr (inl memory)) tells = absurd (cc)
by_opening path (error.Refused refusal) result (inr (inr (fault, look, known, is))) tells = absurd (cc)

-- a connection whose disk told no lie
pub good_disk : (is_clean : Bool) → is_clean ≡ true → doubt is_clean ≡ 0
unfolding doubt
good_disk is_clean e = ap doubt e

-- there is no desk on a copy of the database at a path
pub no_desk_at : (path : List ℕ) (db : Database) (result : Result Printed Failure) → HasNoDeskOn db result → HasNoCopiedDesk path result
no_desk_at path db (Ok printed) (inl store) = inl store
no_desk_at path db (Ok printed) (inr schema) = inr (schema.0, (db, schema.1))
no_desk_at path db (Err failure) is = unread_memory path failure is

-- SQLite does not open the copy
pub not_opened : (path : List ℕ) (result : Result Printed Failure) → IsRefused refused.Store result → HasNoCopiedDesk path result
not_opened path (Ok printed) is = inl is
not_opened path (Err failure) is = unread_memory path failure is

-- a statement was refused on a copy
store_refused : (db : Database) (result : Result Printed Failure) → IsRefused refused.Store result → HasNoDeskOn db result
store_refused db (Ok printed) is = inl is
store_refused db (Err failure) is = is

schema_refused : (db : Database) (result : Result Printed Failure) → (IsOurs db → ⊥) → IsRefused refused.Schema result → HasNoDeskOn db result
schema_refused db (Ok printed) none is = inr (is, none)
schema_refused db (Err failure) none is = is

-- a statement was refused on a copy, or there was no memory
fault_refused : (db : Database) (fault : StoreFault) (out : Bool) (result : Result Printed Failure) → IsRefusedBy (cond out error.Memory (error.Store fault)) result → HasNoDeskOn db result
fault_refused db fault true result tells = subst (HasNoDeskOn db) (sym tells) refl
fault_refused db fault false result tells = store_refused db result tells

-- a desk is not opened on a copy of a database
pub refuses_copy : (db : Database) (failed : DeskError) (result : Result Printed Failure) → IsOfOpening failed → (failed ≡ error.Schema → IsOurs db → ⊥) → IsRefusedBy (copy_error failed) result → HasNoDeskOn db result
refuses_copy db error.Schema result look none tells = schema_refused db result (none refl) tells
refuses_copy db (error.Store fault) result look none tells = fault_refused db fault (is_out_of_memory fault.error) result tells
refuses_copy db error.Memory result look none tells = subst (HasNoDeskOn db) (sym tells) refl
refuses_copy db (error.Refused refusal) result (inl schema) none tells = absurd (cc)
refuses_copy db (error.Refused refusal) result (inr (inl memory)) none tells = absurd (cc)
refuses_copy db (error.Refused refusal) result (inr (inr (fault, look, known, is))) none tells = absurd (cc)
