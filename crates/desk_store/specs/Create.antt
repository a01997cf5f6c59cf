-- What making a database promises. (this project's own)
use Rattle.std.specs.Prelude.{◌≡◌, ◌⊎◌, ℕ, Bool, true, false, List, [], ◌∷◌, ◌++◌, Option, Some, None, Result, Ok, Err, IfErr, IfOk, IsTrue, OnErr, OnOk, codes, pos, find, length, map, nat_lt, ◌||◌}
use Rattle.std.specs.List.{AllByRecursion, filter_map}
use Rattle.std.specs.Option.{option_map, option_map_or}
use Rattle.std.specs.Result.{result_unwrap_or}
use Rattle.std.specs.Str.{IsUtf8}
use Rattle.sqlite.specs.Held.{Held}
use Rattle.sqlite.specs.State.{Executes, HasCleanDisk, KeepsCommit, Shows, State, Survives}
use Rattle.sqlite.specs.Effect.{Database, IsDatabase}
use Rattle.sqlite.specs.Order.{Row}
use Rattle.sqlite.specs.Schema.{Schema}
use Rattle.sqlite.specs.declared.error.Error.{Error}
use Rattle.sqlite.specs.declared.types.Value.TheVariants.{Int}
use Rattle.sqlite.specs.Tree.{Trees}
use Rattle.sqlite.specs.Does.{lacks_sequence}
use Rattle.sqlite.specs.Change.{created}
use Rattle.desk_text.specs.Path.{path_text}
use Rattle.desk_tables.specs.FileSystemsText.{read_filesystems}
use Rattle.desk_tables.specs.declared.filesystems.Mount.{Mount}
use Rattle.desk_policy.specs.Site.{SiteTexts, text_of}
use Rattle.desk_policy.specs.SiteFault.{exports_name}
use Rattle.desk_policy.specs.SiteFile.{file_of}
use Rattle.desk_policy.specs.View.{HasFault}
use Rattle.desk_policy.specs.declared.site_fault.SiteFault.{SiteFault}
use Rattle.desk_policy.specs.SiteFile.{is_of_seven}
use Rattle.desk_core.specs.Head.{Revision, longest_revision, newest_in}
use Rattle.desk_core.specs.History.{IsHistory, newest_of}
use Rattle.desk_core.specs.Judging.{seven}
use Rattle.desk_core.specs.Site.{IsConsistent}
use Rattle.desk_store.specs.Desk.{IsSiteHistory, LeavesTables, Shown, Stands}
use Rattle.desk_store.specs.History.{Holds, approval_of}
use Rattle.desk_core.specs.Views.{Kept}
use Rattle.desk_schema.specs.Tables.{HasTables, IsFree, approval_table, are_referred, file_rev_table, has_later, has_table, meta_table, proposal_table}
use Rattle.desk_store.specs.Tables.{IsAtRest, LeavesCommit, SpareFrozen, Writes, rows_of}
use Rattle.desk_exports.specs.declared.profile.Profile.TheVariants.{Two}
use Rattle.desk_core.specs.declared.entry.Entry.{Entry}
use Rattle.desk_core.specs.declared.entry.Entry.TheVariants.{Revised}
use Rattle.desk_store.specs.Rows.{IsFaultOf}
use Rattle.desk_store.specs.declared.error.StoreFault.{StoreFault}
use Rattle.desk_store.specs.declared.error.Task.TheVariants as task
use Rattle.desk_store.specs.declared.error.CreateError.{CreateError}
use Rattle.desk_store.specs.declared.error.CreateError.TheVariants as refused

-- one of the four tables is there, or a table refers to one of them by a foreign key
abbrev pub has_one : Schema → Bool
has_one schema = has_table schema (codes "meta") || has_table schema (codes "file_rev") || has_later schema || are_referred schema

-- of each of the seven files its text
abbrev pub text_of_seven : SiteTexts → List ℕ → List ℕ
text_of_seven texts name = option_map_or (text_of texts) (file_of name) []

-- a text is longer than a revision's may be
abbrev pub is_long : List ℕ → Bool
is_long text = nat_lt longest_revision (length text)

-- the first of the seven files whose text is too long, in the order in which they are read
abbrev pub first_long : SiteTexts → Option (List ℕ)
first_long texts = find (λ file. is_long (text_of_seven texts file)) seven

-- the mount points that the text of the file systems lists, none if it has a fault
abbrev pub mounts_of : SiteTexts → List Mount
mounts_of texts = result_unwrap_or (read_filesystems texts.files.filesystems) []

-- the first of these mount points whose exports text is too long
abbrev pub first_long_mount : SiteTexts → List Mount → Option Mount
first_long_mount texts mounts = find (λ mount. is_long (texts.exports (path_text mount.path)).body) mounts

-- the first listed exports file whose text is too long
abbrev pub first_long_exports : SiteTexts → Option (List ℕ)
first_long_exports texts = option_map (λ mount. exports_name mount.path) (first_long_mount texts (mounts_of texts))

-- a site whose exports files are read by profile 2: a new database has no other
abbrev pub by_second : SiteTexts → SiteTexts
by_second texts = record texts { exports = λ mount. record { profile = Two; body = (texts.exports mount).body } }

-- the fault is one of the seven files
abbrev pub IsFaultOfSeven : SiteTexts → SiteFault → Type 0
IsFaultOfSeven texts fault = HasFault (by_second texts) fault × (is_of_seven fault.file ≡ true)

-- a refusal is a fault of the site, or there is no memory
abbrev pub IsFaultOrMemory : SiteTexts → CreateError → Type 0
IsFaultOrMemory texts (refused.Fault fault) = HasFault texts fault
IsFaultOrMemory texts refused.Memory = Unit {0}
IsFaultOrMemory texts (refused.TooLarge file) = ⊥
IsFaultOrMemory texts (refused.Store fault) = ⊥
IsFaultOrMemory texts refused.Schema = ⊥

-- a refusal is the fault of one of the seven files, or there is no memory
abbrev pub IsSevenOrMemory : SiteTexts → CreateError → Type 0
IsSevenOrMemory texts (refused.Fault fault) = IsFaultOfSeven texts fault
IsSevenOrMemory texts refused.Memory = Unit {0}
IsSevenOrMemory texts (refused.TooLarge file) = ⊥
IsSevenOrMemory texts (refused.Store fault) = ⊥
IsSevenOrMemory texts refused.Schema = ⊥

-- a refusal tells that the text of this file is too long, or there is no memory
abbrev pub TellsTooLarge : List ℕ → CreateError → Type 0
TellsTooLarge file e = (e ≡ refused.TooLarge file) ⊎ (e ≡ refused.Memory)

-- What a site is refused for, in this order: a text of the seven is too long; the fault of one of the seven; a listed exports
-- text is too long; another fault. Memory may stand in place of any.
abbrev pub RefusesSite : SiteTexts → CreateError → Type 0
RefusesSite texts (refused.TooLarge file) =
    (first_long texts ≡ Some file)
    ⊎ ((first_long texts ≡ None) × ((fault : SiteFault) → IsFaultOfSeven texts fault → ⊥) × (first_long_exports texts ≡ Some file))
RefusesSite texts (refused.Fault fault) =
    (first_long texts ≡ None) × HasFault (by_second texts) fault × ((is_of_seven fault.file ≡ true) ⊎ (first_long_exports texts ≡ None))
RefusesSite texts (refused.Store fault) = ⊥
RefusesSite texts refused.Memory = Unit {0}
RefusesSite texts refused.Schema = ⊥

-- What making a database is refused for: one of the tables is there, and else what its site is refused for. Memory may stand in
-- place of any, and so may Store, which tells that a statement that makes the tables was refused for another cause.
abbrev pub RefusesToCreate : Schema → SiteTexts → CreateError → Type 0
RefusesToCreate schema texts refused.Schema = has_one schema ≡ true
RefusesToCreate schema texts (refused.TooLarge file) = (has_one schema ≡ false) × RefusesSite texts (refused.TooLarge file)
RefusesToCreate schema texts (refused.Fault fault) = (has_one schema ≡ false) × RefusesSite texts (refused.Fault fault)
RefusesToCreate schema texts (refused.Store fault) = IsFaultOf task.MakeTables fault
RefusesToCreate schema texts refused.Memory = Unit {0}

-- revision 1 of a file, by `site`
abbrev pub first_revision : List ℕ → List ℕ → Revision
first_revision file text = record { file = file; rev = 1; author = codes "site"; approver = None; profile = Two; body = text }

-- that of one of the seven files, and that of the exports file of a mount point
abbrev pub revision_of_seven : SiteTexts → List ℕ → Revision
revision_of_seven texts file = first_revision file (text_of_seven texts file)

abbrev pub revision_of_mount : SiteTexts → Mount → Revision
revision_of_mount texts mount = first_revision (exports_name mount.path) (texts.exports (path_text mount.path)).body

-- revision 1 of the seven files and of the exports files of these mount points
abbrev pub revisions_with : SiteTexts → List Mount → List Revision
revisions_with texts mounts = map (revision_of_seven texts) seven ++ map (revision_of_mount texts) mounts

-- revision 1 of the seven files and of each listed exports file, by `site`; a new database holds these, and no proposal
abbrev pub first_revisions : SiteTexts → List Revision
first_revisions texts = revisions_with texts (mounts_of texts)

abbrev pub first_history : SiteTexts → List Entry
first_history texts = map Revised (first_revisions texts)

-- the heads of a state are the first revisions of a site, which is consistent, and they are the history of a site
pub record IsFirstState (texts : SiteTexts) (heads : List Revision) : Type 0 where
  pub heads_are : heads ≡ first_revisions texts
  pub stored : IsSiteHistory (first_history texts)
  pub newest : newest_in heads ≡ newest_of (first_history texts)
  pub consistent : IsConsistent (by_second texts)

-- what a revision stores is UTF-8
pub record IsUtf8Revision (revision : Revision) : Type 0 where
  pub file : IsUtf8 revision.file
  pub author : IsUtf8 revision.author
  pub body : IsUtf8 revision.body

abbrev pub insert_version : List ℕ
insert_version = codes "INSERT INTO meta(version) VALUES(2)"

-- the two later tables can be made: their names are free, and `sqlite_sequence` is there if a table counts
pub record HasLaterRoom (schema : Schema) : Type 0 where
  pub approval : IsFree schema (codes "approval")
  pub proposal : IsFree schema (codes "proposal")
  pub whole : lacks_sequence schema ≡ false

-- the four tables can be made, and no table refers to them
pub record HasRoom (schema : Schema) : Type 0 where
  pub meta : IsFree schema (codes "meta")
  pub file_rev : IsFree schema (codes "file_rev")
  pub later : HasLaterRoom schema
  pub unreferred : are_referred schema ≡ false

-- a schema with `meta` behind its tables, and the other three, each with the index of its key, behind that
abbrev pub with_meta : Schema → Schema
with_meta schema = created schema (meta_table 0)

abbrev pub with_four : Schema → Schema
with_four schema = created (created (created (with_meta schema) (file_rev_table 0)) (approval_table 0)) (proposal_table 0)

-- a database that holds this history in the four tables and that has else what it had: its tables, views and indexes with
-- their rows, and all that SQL here does not understand. It is a database that can be opened.
pub record Makes (history : List Entry) (old after : Database) : Type 0 where
  pub holds : Holds after history
  pub sound : IsDatabase after
  pub schema : after.schema ≡ with_four old.schema
  pub others : AllByRecursion (λ t. after.trees t.tree ≡ old.trees t.tree) old.schema.tables
  pub steps : List Database
  pub frozen : SpareFrozen old steps after

-- the four tables are made, with the version, and there is no other row yet
pub record MakesEmpty (old after : Database) : Type 0 where
  pub tables : HasTables after.schema
  pub version : rows_of after (codes "meta") ≡ (Int (pos 2) ∷ []) ∷ []
  pub empty : rows_of after (codes "file_rev") ≡ []
  pub no_approvals : rows_of after (codes "approval") ≡ []
  pub no_proposals : rows_of after (codes "proposal") ≡ []
  pub sound : IsDatabase after
  pub schema : after.schema ≡ with_four old.schema
  pub others : AllByRecursion (λ t. after.trees t.tree ≡ old.trees t.tree) old.schema.tables
  pub steps : List Database
  pub frozen : SpareFrozen old steps after

-- What a step within a transaction leaves: nothing is committed, and a crash leaves what it could before; if it succeeded, the
-- transaction goes on, and this was done.
pub record RunsInside {T : Type 0} (old new : State) (result : Result T Error) (Did : State → State → Type 0) : Type 0 where
  pub kept : HasCleanDisk new → KeepsCommit old new
  pub crash : Survives old new (λ _. ⊥)
  pub done : HasCleanDisk new → OnOk result (Shows old new new.now old.committed true × Did old new)

-- a statement without parameters was run
abbrev pub Ran : List ℕ → State → State → Type 0
Ran text old new = (count : ℕ) × Executes text [] old new (Ok count)

-- the tables are made, if there is room for them
abbrev pub MakesRoom : State → State → Type 0
MakesRoom old new = HasRoom old.now.schema → MakesEmpty old.now new.now

-- the two later tables are made: they are behind the others, with no row, and all else is as before
pub record LaterAreMade (old new : Database) : Type 0 where
  pub schema : new.schema ≡ created (created old.schema (approval_table 0)) (proposal_table 0)
  pub no_approvals : rows_of new (codes "approval") ≡ []
  pub no_proposals : rows_of new (codes "proposal") ≡ []
  pub others : AllByRecursion (λ t. new.trees t.tree ≡ old.trees t.tree) old.schema.tables
  pub steps : List Database
  pub frozen : SpareFrozen old steps new
  pub sound : IsDatabase new

-- they are made, if there is room for them
abbrev pub MakesLater : State → State → Type 0
MakesLater old new = HasLaterRoom old.now.schema → LaterAreMade old.now new.now

-- a revision's row is added, if the tables are there
abbrev pub AddsRow : Row → State → State → Type 0
AddsRow row old new = HasTables old.now.schema → Writes (row ∷ []) [] (λ proposals. proposals) old.now new.now

-- a transaction is open
pub record IsInside (s : State) : Type 0 where
  pub is_open : IsTrue s.is_open
  pub mode : s.in_transaction ≡ true

-- the rows are added, if the tables are there (without a row there is no statement after which the database could be opened)
abbrev pub AddsRows : List Row → State → State → Type 0
AddsRows rows old new = HasTables old.now.schema → IsDatabase old.now → Writes rows [] (λ proposals. proposals) old.now new.now

-- revisions that nobody approved are stored in new tables, if there is room for them
abbrev pub Fills : List Revision → State → State → Type 0
Fills revisions old new = HasRoom old.now.schema → IsHistory (map Revised revisions) → filter_map approval_of revisions ≡ [] → Makes (map Revised revisions) old.now new.now

-- the trees are those of such a database
abbrev pub MakesTables : List Entry → Database → Trees → Type 0
MakesTables history old trees = (after : Database) × Makes history old after × (trees ≡ after.trees)

-- What storing a first history in new tables leaves, in one commit, which is the last thing that it does: a crash leaves what
-- it could before, or that commit; after a success only that commit; and after a refusal the last commit is as it was.
pub record StoresAll {T : Type 0} (old new : State) (history : List Entry) (result : Result T Error) : Type 0 where
  pub crash : (IsTrue old.is_open → HasRoom old.now.schema) → Survives old new (λ trees. IsTrue old.is_open × MakesTables history old.now trees)
  pub stored : HasCleanDisk new → HasRoom old.now.schema → OnOk result (Makes history old.now new.committed)
  pub settled : HasCleanDisk new → OnOk result (IsTrue new.is_open × (new.now ≡ new.committed))
  pub autocommit : new.in_transaction ≡ false
  pub unchanged : HasCleanDisk new → IsTrue new.is_open → OnErr result (IsTrue old.is_open × (new.committed ≡ old.committed))

-- a statement was refused, or there is no memory
abbrev pub IsOfMaking : CreateError → Type 0
IsOfMaking e = (e ≡ refused.Memory) ⊎ ((fault : StoreFault) × IsFaultOf task.MakeTables fault × (e ≡ refused.Store fault))

-- what a look for room is refused for: one of the tables is there; or a statement was refused, or there is no memory
abbrev pub RefusesRoom : Schema → CreateError → Type 0
RefusesRoom schema refused.Schema = has_one schema ≡ true
RefusesRoom schema (refused.Store fault) = IsFaultOf task.MakeTables fault
RefusesRoom schema refused.Memory = Unit {0}
RefusesRoom schema (refused.TooLarge file) = ⊥
RefusesRoom schema (refused.Fault fault) = ⊥

-- what a look for room is refused for, whatever the disk does: not for the site
abbrev pub IsOfRoom : CreateError → Type 0
IsOfRoom refused.Schema = Unit {0}
IsOfRoom (refused.Store fault) = IsFaultOf task.MakeTables fault
IsOfRoom refused.Memory = Unit {0}
IsOfRoom (refused.TooLarge file) = ⊥
IsOfRoom (refused.Fault fault) = ⊥

pub record HasSeenRoom (old new : State) : Type 0 where
  pub was_open : IsTrue old.is_open
  pub is_open : IsTrue new.is_open
  pub committed : new.committed ≡ old.committed
  pub settled : new.now ≡ old.committed
  pub none : has_one old.committed.schema ≡ false
  pub room : HasRoom old.committed.schema

pub record LooksForRoom {T : Type 0} (old new : State) (result : Result T CreateError) : Type 0 where
  pub leaves : LeavesTables old new
  pub mode : new.in_transaction ≡ false
  pub found : HasCleanDisk new → OnOk result (HasSeenRoom old new)
  pub kind : IfErr result IsOfRoom
  pub refused : HasCleanDisk new → IfErr result (RefusesRoom old.committed.schema)

-- made: none of the tables was there; a state stands at revision 1 of each file, by `site`, in tables beside what was there;
-- and a crash leaves just that
pub record IsMade {V : Type 0} (old new : State) (texts : SiteTexts) (state : Kept V) : Type 0 where
  pub none : has_one old.committed.schema ≡ false
  pub made : Makes (first_history texts) old.committed new.committed
  pub rest : IsAtRest new
  pub stands : Stands new state (first_history texts) []
  pub is_open : IsTrue new.is_open
  pub durable : LeavesCommit new

-- the one commit: the connection was open, none of the tables was there, and what is stored is the history of a site
abbrev pub MakesFirst : State → SiteTexts → Trees → Type 0
MakesFirst old texts trees =
    IsTrue old.is_open × (has_one old.committed.schema ≡ false) × IsSiteHistory (first_history texts) × MakesTables (first_history texts) old.committed trees

-- The one commit, where it may have been begun. A refusal that comes before commits nothing.
abbrev pub MayMake : {T : Type 0} → State → SiteTexts → Result T CreateError → Trees → Type 0
MayMake old texts (Ok made) trees = MakesFirst old texts trees
MayMake old texts (Err (refused.Store fault)) trees = MakesFirst old texts trees
MayMake old texts (Err refused.Memory) trees = MakesFirst old texts trees
MayMake old texts (Err refused.Schema) trees = ⊥
MayMake old texts (Err (refused.Fault fault)) trees = ⊥
MayMake old texts (Err (refused.TooLarge file)) trees = ⊥

-- How a site is judged when a database is made of it, whatever the disk does: that is done only of a consistent site, whose first
-- revisions are the history of a site; and a fault, or a text that is too long, is told only of a site that is refused for it.
abbrev pub JudgesSite : {T : Type 0} → SiteTexts → Result T CreateError → Type 0
JudgesSite texts (Ok made) = IsConsistent (by_second texts) × IsSiteHistory (first_history texts)
JudgesSite texts (Err (refused.Fault fault)) = RefusesSite texts (refused.Fault fault)
JudgesSite texts (Err (refused.TooLarge file)) = RefusesSite texts (refused.TooLarge file)
JudgesSite texts (Err (refused.Store fault)) = IsFaultOf task.MakeTables fault
JudgesSite texts (Err refused.Schema) = Unit {0}
JudgesSite texts (Err refused.Memory) = Unit {0}

-- what making a database did, all together (each part is a clause of `create`)
pub record IsCreated {V : Type 0} (old new : State) (texts : SiteTexts) (result : Result (Kept V) CreateError) : Type 0 where
  pub judged : JudgesSite texts result
  pub heads : IfOk result (λ made. (made.heads ≡ first_revisions texts) × (made.proposals ≡ []))
  pub made : HasCleanDisk new → IfOk result (IsMade old new texts)
  pub refused : HasCleanDisk new → IfErr result (RefusesToCreate old.committed.schema texts)
  pub unchanged : HasCleanDisk new → IsTrue new.is_open → OnErr result (new.committed ≡ old.committed)
  pub crash : Survives old new (MayMake old texts result)
  pub mode : new.in_transaction ≡ false

-- the answer without the connection that is handed back
abbrev pub answer_of : {S V : Type 0} → Result (Shown S V) (CreateError × Held S) → Result (Kept V) CreateError
answer_of (Ok desk) = Ok desk.state
answer_of (Err both) = Err both.0
