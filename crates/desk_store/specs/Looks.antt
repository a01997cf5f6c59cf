-- What a look changes, which is nothing, and what the queries read. (this project's own)
use Rattle.std.specs.Prelude.{◌≡◌, ◌&&◌, ℕ, Bool, true, false, List, [], ◌∷◌, Option, Some, None, IfOk, IsPermutation, IsTrue, Ok, OnOk, Result, Vec, codes, filter, map, pos}
use Rattle.std.specs.Ordering.{is_eq}
use Rattle.sqlite_trees.specs.declared.store.Store.{Ghosts}
use Rattle.sqlite.specs.Held.{Held, state}
use Rattle.sqlite.specs.Effect.{Database, IsDatabase, Reads}
use Rattle.sqlite.specs.Given.{IsPlain}
use Rattle.sqlite.specs.Listing.{reads_listing, understood}
use Rattle.sqlite.specs.Schema.{Schema}
use Rattle.sqlite.specs.State.{HasCleanDisk, State}
use Rattle.sqlite.specs.declared.error.Error.{Error}
use Rattle.sqlite_resolve.specs.declared.compiled.Compiled.{Compiled}
use Rattle.sqlite.specs.Order.{Row, column, value_cmp}
use Rattle.sqlite.specs.declared.types.Value.{Value}
use Rattle.sqlite.specs.declared.types.Value.TheVariants.{Int, Text as Words}
use Rattle.desk_store.specs.Desk.{LeavesTables}
use Rattle.desk_store.specs.Error.{FailsAsSaid, Query, Statement}
use Rattle.desk_schema.specs.Tables.{DeclaresVersion, HasThese, has_later}
use Rattle.desk_store.specs.Tables.{IsAtRestWith, rows_of}
use Rattle.desk_schema.specs.declared.declared.Version.{Version}
use Rattle.desk_schema.specs.declared.declared.Version.TheVariants as version

-- A look changes nothing: the tables are as before, and a crash leaves what it could before. A connection that was at rest, with the
-- tables of version 1 or with all four, still is, and one that is open was.
pub record ChangesNothing (old new : State) : Type 0 where
  pub mode : old.in_transaction ≡ false → new.in_transaction ≡ false
  pub rest : HasCleanDisk new → (all : Bool) → IsAtRestWith all old → IsAtRestWith all new
  pub opened : HasCleanDisk new → IsTrue new.is_open → IsTrue old.is_open
  pub leaves : LeavesTables old new

-- this query changes nothing, and reads these rows of the database, in some order, over a connection that is open; or it fails by
-- what it said
pub record ReadsRows {S Y : Type 0} (g : Ghosts S) (of : Database → List Row) (query : Statement) (old new : Held S) (result : Result (Vec Row Y) Error) : Type 0 where
  pub look : ChangesNothing (state g old) (state g new)
  pub live : HasCleanDisk (state g new) → OnOk result (IsTrue (state g new).is_open)
  pub rows : HasCleanDisk (state g new) → IfOk result (λ rows. IsPermutation (of (state g old).committed) rows.items)
  pub said : FailsAsSaid g (λ s. s ≡ query) old new result

-- a query that writes nothing, and that shows these rows of a database with the tables of version 1, or with all four, in some order
pub record IsLook (all : Bool) (sql : List ℕ) (params : Row) (of : Database → List Row) : Type 0 where
  pub plain : (schema : Schema) → HasThese all schema → IsPlain (understood schema sql)
  pub unlisted : (schema : Schema) → HasThese all schema → reads_listing schema sql ≡ false
  pub rows : (db : Database) (rows : List Row) (c : Compiled) → HasThese all db.schema → understood db.schema sql ≡ Ok c → Reads c.command db params rows → IsPermutation (of db) rows

-- The tables that are seen: all four; or those of version 1, and none with the name of a later one; or neither.
abbrev pub SeesTables : State → State → Option Version → Type 0
SeesTables old new (Some version.Second) = IsAtRestWith true new × IsDatabase old.committed
SeesTables old new (Some version.First) = IsAtRestWith false new × (has_later old.committed.schema ≡ false) × IsDatabase old.committed
SeesTables old new None = DeclaresVersion old.committed.schema None

-- a query that reads nothing
abbrev pub select_nothing : List ℕ
select_nothing = codes "SELECT 1"

abbrev pub select_numbers : List ℕ
select_numbers = codes "SELECT rev, author, profile FROM file_rev WHERE file = ?1"

abbrev pub select_revision : List ℕ
select_revision = codes "SELECT author, profile, body FROM file_rev WHERE file = ?1 AND rev = ?2"

abbrev pub select_approver : List ℕ
select_approver = codes "SELECT approver FROM approval WHERE file = ?1 AND rev = ?2"

abbrev pub select_approvers : List ℕ
select_approvers = codes "SELECT rev, approver FROM approval WHERE file = ?1"

-- SQL takes two values for equal
abbrev pub are_equal : Value → Value → Bool
are_equal a b = is_eq (value_cmp a b)

-- a row of `file_rev` or of `approval` is of this file, or of the revision of this file with this number
abbrev pub is_of : List ℕ → Row → Bool
is_of file row = are_equal (column row 0) (Words file)

abbrev pub is_at : List ℕ → ℕ → Row → Bool
is_at file rev row = is_of file row && are_equal (column row 1) (Int (pos rev))

-- of a row of `file_rev` the number, the author and the profile, or the author, the profile and the text; of a row of `approval` the
-- approver, or the number and the approver
abbrev pub number_author_and_profile : Row → Row
number_author_and_profile row = column row 1 ∷ column row 2 ∷ column row 3 ∷ []

abbrev pub author_profile_and_text : Row → Row
author_profile_and_text row = column row 2 ∷ column row 3 ∷ column row 4 ∷ []

abbrev pub approver_of : Row → Row
approver_of row = column row 2 ∷ []

abbrev pub number_and_approver : Row → Row
number_and_approver row = column row 1 ∷ column row 2 ∷ []

-- the numbers, authors and profiles of a file's revisions, in rows; the author, the profile and the text of one revision, in a row
abbrev pub numbers_in : List ℕ → Database → List Row
numbers_in file db = map number_author_and_profile (filter (is_of file) (rows_of db (codes "file_rev")))

abbrev pub revision_in : List ℕ → ℕ → Database → List Row
revision_in file rev db = map author_profile_and_text (filter (is_at file rev) (rows_of db (codes "file_rev")))

-- who approved one revision, in a row; the numbers of the approved revisions of a file and who approved them, in rows
abbrev pub approver_in : List ℕ → ℕ → Database → List Row
approver_in file rev db = map approver_of (filter (is_at file rev) (rows_of db (codes "approval")))

abbrev pub approvers_in : List ℕ → Database → List Row
approvers_in file db = map number_and_approver (filter (is_of file) (rows_of db (codes "approval")))

-- the queries of a look for one revision, for the revisions of a file, and for who signed them
abbrev pub revision_queries : List ℕ → ℕ → List Statement
revision_queries file rev = Query select_revision (Words file ∷ Int (pos rev) ∷ []) ∷ Query select_approver (Words file ∷ Int (pos rev) ∷ []) ∷ []

abbrev pub numbers_queries : List ℕ → List Statement
numbers_queries file = Query select_numbers (Words file ∷ []) ∷ []

abbrev pub signature_queries : List ℕ → List Statement
signature_queries file = Query select_numbers (Words file ∷ []) ∷ Query select_approvers (Words file ∷ []) ∷ []
