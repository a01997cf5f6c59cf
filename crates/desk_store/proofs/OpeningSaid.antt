-- What opening tells: SQLite's own words of one of its statements, whichever part of the opening ran it.
use Rattle.std.proofs.Common.{◌≡◌, ◌≢◌, ◌⊎◌, ◌∙◌, ap, refl, sym, subst, inl, inr, [], Result, Ok, Err, arith, codes}
use Rattle.std.specs.Prelude.{Contains, IfErr}
use Rattle.sqlite_trees.specs.declared.store.Store.{Ghosts}
use Rattle.sqlite.specs.Effect.{Database}
use Rattle.sqlite.specs.Held.{Held, state}
use Rattle.sqlite.specs.State.{Survives}
use Rattle.sqlite.specs.declared.error.Error.{Error}
use Rattle.sqlite.specs.declared.error.Error.TheVariants.{SqliteFailure}
use Rattle.sqlite.specs.declared.error.ErrorCode.TheVariants as code
use Rattle.desk_store.specs.Create.{HasLaterRoom, insert_version}
use Rattle.desk_store.specs.Error.{Commit, IsSaid, Statement, Step}
use Rattle.desk_store.specs.Open.{HasBadKeys, IsOfRows, IsOpeningError, TellsMemory, TellsOpening, opening_statements, version_queries}
use Rattle.desk_schema.specs.Tables.{create_approval, create_proposal}
use Rattle.desk_store.specs.Tables.{delete_version, rows_of}
use Rattle.desk_store.specs.declared.error.DeskError.{DeskError}
use Rattle.desk_store.specs.declared.error.DeskError.TheVariants as error
use Rattle.desk_store.specs.declared.error.StoreFault.{StoreFault}
use Rattle.desk_store.specs.declared.error.Task.{Task}
use Rattle.desk_store.proofs.Inside.{same_survives}
use Rattle.desk_store.proofs.Said.{said_in, said_widely}

module _ {S : Type 0} (g : Ghosts S) where
  -- what a later part of the opening tells, the opening tells
  module _ (old mid new : Held S) (reaches : Survives (state g old) (state g mid) (λ _. ⊥)) (same : (state g mid).committed ≡ (state g old).committed) where
    pub later_error : (e : Error) → IsOpeningError g mid new e → IsOpeningError g old new e
    later_error e (inl said) = inl (said_in g (Contains opening_statements) (Contains opening_statements) (λ s own. own) old mid new new e reaches said (same_survives (state g new)))
    later_error e (inr (inl twice)) = inr (inl (twice.0, subst HasBadKeys same twice.1))
    later_error e (inr (inr taken)) = inr (inr (taken.0, λ room. taken.1 (subst (λ (db : Database). HasLaterRoom db.schema) (sym same) room)))

    pub later_told : (e : DeskError) → TellsOpening g mid new e → TellsOpening g old new e
    later_told (error.Refused refused) told = tt
    later_told (error.Store fault) told = later_error fault.error told
    later_told error.Schema told = tt
    later_told error.Memory told = tt

    pub later_so : {T : Type 0} (result : Result T DeskError) → IfErr result (TellsOpening g mid new) → IfErr result (TellsOpening g old new)
    later_so (Ok x) told = tt
    later_so (Err e) told = later_told e told

    pub later_memory : TellsMemory g mid new → TellsMemory g old new
    later_memory (inl said) = inl (said_in g (Contains version_queries) (Contains version_queries) (λ s own. own) old mid new new (SqliteFailure code.OutOfMemory) reaches said (same_survives (state g new)))
    later_memory (inr tells) = inr (tells.0, sym (ap (λ (db : Database). rows_of db (codes "meta")) same) ∙ tells.1)

  module _ (old new : Held S) where
    -- an error that is told as it was said, or as out of memory
    pub told_error : (task : Task) (said : Error) (e : DeskError) → (e ≡ error.Memory) ⊎ (e ≡ error.Store (record { task = task; error = said })) → IsOpeningError g old new said → TellsOpening g old new e
    told_error task said e (inl memory) is = subst (TellsOpening g old new) (sym memory) tt
    told_error task said e (inr store) is = subst (TellsOpening g old new) (sym store) is

    pub told_query : (own : Statement) → Contains opening_statements own → (task : Task) (said : Error) (e : DeskError)
        → (e ≡ error.Memory) ⊎ (e ≡ error.Store (record { task = task; error = said })) → IsSaid g (λ s. s ≡ own) old new said → TellsOpening g old new e
    told_query own one task said e told is = told_error task said e told (inl (said_widely g (λ s. s ≡ own) (Contains opening_statements) (λ s same. subst (Contains opening_statements) (sym same) one) old new said is))

    -- what SQLite said of one of the statements is an error of an opening
    pub opening_error : {T : Type 0} (result : Result T Error) → IfErr result (IsSaid g (Contains opening_statements) old new) → IfErr result (IsOpeningError g old new)
    opening_error (Ok x) said = tt
    opening_error (Err e) said = inl said

    -- SQLite said that there is no memory, when it was asked for the version
    pub memory_said : (own : Statement) → Contains version_queries own → (said : Error) → said ≡ SqliteFailure code.OutOfMemory → IsSaid g (λ s. s ≡ own) old new said → TellsMemory g old new
    memory_said own one said memory is =
        inl (subst (IsSaid g (Contains version_queries) old new) memory (said_widely g (λ s. s ≡ own) (Contains version_queries) (λ s same. subst (Contains version_queries) (sym same) one) old new said is))

    pub schema_told : {T : Type 0} (result : Result T DeskError) → IfErr result (λ e. e ≡ error.Schema) → IfErr result (TellsOpening g old new)
    schema_told (Ok x) told = tt
    schema_told (Err e) told = subst (TellsOpening g old new) (sym told) tt

    pub rows_told : {T : Type 0} (result : Result T DeskError) → IfErr result IsOfRows → IfErr result (TellsOpening g old new)
    rows_told (Ok x) told = tt
    rows_told (Err e) (inl schema) = subst (TellsOpening g old new) (sym schema) tt
    rows_told (Err e) (inr memory) = subst (TellsOpening g old new) (sym memory) tt

    same_fault : {a b : StoreFault} → error.Store a ≡ error.Store b → a ≡ b
    same_fault e = cc

    -- rowids that come twice
    twice : (task : Task) (e : DeskError) (Keys : Type 0) → (e ≢ error.Memory → (e ≡ error.Store (record { task = task; error = SqliteFailure code.DatabaseCorrupt })) × (Keys → ⊥))
        → ((Keys → ⊥) → HasBadKeys (state g old).committed) → TellsOpening g old new e
    twice task (error.Refused refused) Keys told has = tt
    twice task (error.Store fault) Keys told has = let it = told (λ same. cc) in inr (inl (ap (λ (f : StoreFault). f.error) (same_fault it.0), has it.1))
    twice task error.Schema Keys told has = tt
    twice task error.Memory Keys told has = tt

    pub twice_told : (task : Task) (result : Result (Unit {0}) DeskError) (Keys : Type 0)
        → IfErr result (λ e. e ≢ error.Memory → (e ≡ error.Store (record { task = task; error = SqliteFailure code.DatabaseCorrupt })) × (Keys → ⊥))
        → ((Keys → ⊥) → HasBadKeys (state g old).committed) → IfErr result (TellsOpening g old new)
    twice_told task (Ok x) Keys told has = tt
    twice_told task (Err e) Keys told has = twice task e Keys told has

-- an error of rows that is `Schema` alone is not out of memory
pub not_memory : {T : Type 0} (result : Result T DeskError) → IfErr result (λ e. e ≡ error.Schema) → result ≡ Err error.Memory → ⊥
not_memory (Ok x) told is = absurd (cc)
not_memory (Err e) told is = absurd (cc)

-- ---- the statements of a migration

pub of_later : (s : Statement) → (s ≡ Step create_approval []) ⊎ (s ≡ Step create_proposal []) → Contains opening_statements s
of_later s (inl is) = (7, omega arith, sym is)
of_later s (inr is) = (8, omega arith, sym is)

pub of_version : (s : Statement) → s ≡ Step delete_version [] → Contains opening_statements s
of_version s is = (9, omega arith, sym is)

pub of_insert : (s : Statement) → s ≡ Step insert_version [] → Contains opening_statements s
of_insert s is = (10, omega arith, sym is)

pub of_commit : Contains opening_statements Commit
of_commit = (11, omega arith, refl)
