-- Errors of desks, by number and name, and the statement that answered the error that is told. (this project's own)
use Rattle.std.specs.Prelude.{ℕ, List, Result, Err, IfErr, IsTrue, codes}
use Rattle.sqlite_trees.specs.declared.store.Store.{Ghosts}
use Rattle.sqlite.specs.Held.{Held, state}
use Rattle.sqlite.specs.Order.{Row}
use Rattle.sqlite.specs.State.{ExecutesInside, FailsToQuery, HasCleanDisk, State, Survives}
use Rattle.sqlite.specs.Steps.{FailsToCommit}
use Rattle.sqlite.specs.declared.error.Error.{Error}
use Rattle.desk_core.specs.Edit.{refusal_name, refusal_number}
use Rattle.desk_core.specs.declared.edit.Refusal.TheVariants as refusal
use Rattle.desk_store.specs.declared.error.CreateError.{CreateError}
use Rattle.desk_store.specs.declared.error.CreateError.TheVariants as create
use Rattle.desk_store.specs.declared.error.DeskError.{DeskError}
use Rattle.desk_store.specs.declared.error.DeskError.TheVariants as desk

-- the number of a refused statement, of a database that is not one of this project, and of too little memory
abbrev pub store_number : ℕ
store_number = 201

abbrev pub schema_number : ℕ
schema_number = 202

abbrev pub memory_number : ℕ
memory_number = 203

-- the number of a desk's error: that of a refused edit is the refusal's
abbrev pub desk_error_number : DeskError → ℕ
desk_error_number (desk.Refused refused) = refusal_number refused
desk_error_number (desk.Store fault) = store_number
desk_error_number desk.Schema = schema_number
desk_error_number desk.Memory = memory_number

-- the name of a desk's error
abbrev pub desk_error_name : DeskError → List ℕ
desk_error_name (desk.Refused refused) = refusal_name refused
desk_error_name (desk.Store fault) = codes "Store"
desk_error_name desk.Schema = codes "Schema"
desk_error_name desk.Memory = codes "Memory"

-- the number of an error of a new database: a site's fault and a text that is too long have those that an edit's have
abbrev pub create_error_number : CreateError → ℕ
create_error_number (create.Store fault) = store_number
create_error_number create.Schema = schema_number
create_error_number create.Memory = memory_number
create_error_number (create.Fault fault) = refusal_number (refusal.Fault fault)
create_error_number (create.TooLarge file) = refusal_number refusal.TooLarge

-- the name of an error of a new database
abbrev pub create_error_name : CreateError → List ℕ
create_error_name (create.Store fault) = codes "Store"
create_error_name create.Schema = codes "Schema"
create_error_name create.Memory = codes "Memory"
create_error_name (create.Fault fault) = refusal_name (refusal.Fault fault)
create_error_name (create.TooLarge file) = refusal_name refusal.TooLarge

-- a statement that a desk runs: a query by itself, one within a transaction, or the commit of that; the former two by text and
-- parameters
pub data Statement : Type 0 where
  Query : List ℕ → Row → Statement
  Step : List ℕ → Row → Statement
  Commit : Statement

-- a statement answers this error, as SQLite may, and leaves a connection so
abbrev pub AnswersError : Statement → State → State → Error → Type 0
AnswersError (Query sql params) before after e = FailsToQuery sql params before after e
AnswersError (Step sql params) before after e = ExecutesInside 0 sql params before after (Err e)
AnswersError Commit before after e = IsTrue before.in_transaction × FailsToCommit before after e

-- What SQLite said in a call that began and ended with these connections: in between, one of these statements answered this error. (A
-- `Held` cannot be made up where the store may be any: it is one that the call went through.)
pub record IsSaid {S : Type 0} (g : Ghosts S) (Own : Statement → Type 0) (old new : Held S) (e : Error) : Type 0 where
  pub before : Held S
  pub after : Held S
  pub statement : Statement
  pub own : Own statement
  pub reaches : Survives (state g old) (state g before) (λ _. ⊥)
  pub answered : AnswersError statement (state g before) (state g after) e
  pub leaves : Survives (state g after) (state g new) (λ _. ⊥)

-- a call that runs a statement by itself, or several, fails by what one of these statements said
abbrev pub FailsAsSaid : {S T : Type 0} (g : Ghosts S) → (Statement → Type 0) → Held S → Held S → Result T Error → Type 0
FailsAsSaid g Own old new result = HasCleanDisk (state g new) → IfErr result (IsSaid g Own old new)

-- a step within a transaction fails by what one of these statements said
abbrev pub FailsInside : {S T : Type 0} (g : Ghosts S) → (Statement → Type 0) → Held S → Held S → Result T Error → Type 0
FailsInside g Own old new result = IsTrue (state g old).in_transaction → FailsAsSaid g Own old new result

-- if it tells a refused statement, it tells such an error
abbrev pub TellsBy : (Error → Type 0) → DeskError → Type 0
TellsBy Is (desk.Refused refused) = Unit {0}
TellsBy Is (desk.Store fault) = Is fault.error
TellsBy Is desk.Schema = Unit {0}
TellsBy Is desk.Memory = Unit {0}

-- a refused statement is told by the error that one of these statements answered
abbrev pub TellsSaid : {S : Type 0} (g : Ghosts S) → (Statement → Type 0) → Held S → Held S → DeskError → Type 0
TellsSaid g Own old new e = TellsBy (IsSaid g Own old new) e
