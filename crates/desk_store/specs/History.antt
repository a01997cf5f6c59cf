-- What the tables stand for: a history, as far as the newest proposal of each file.
use Rattle.std.specs.Prelude.{◌≡◌, List, [], ◌∷◌, Option, false, map, codes, option_map, pos, IsPermutation}
use Rattle.std.specs.List.{cons_option, filter_map}
use Rattle.sqlite.specs.declared.types.Value.TheVariants.{Int}
use Rattle.sqlite.specs.Order.{Row}
use Rattle.sqlite.specs.Effect.{Database}
use Rattle.desk_exports.specs.Profile.{profile_number}
use Rattle.desk_core.specs.Head.{Revision}
use Rattle.desk_core.specs.History.{IsHistory, pending_in, revision_in}
use Rattle.desk_core.specs.declared.entry.Entry.{Entry}
use Rattle.desk_core.specs.declared.entry.Entry.TheVariants.{Revised, Proposed}
use Rattle.desk_core.specs.declared.proposal.Proposal.{Proposal}
use Rattle.desk_schema.specs.Tables.{HasFirstTables, HasTables, has_later}
use Rattle.desk_store.specs.Tables.{EntryRows, approval_row, proposal_row, revision_row, rows_of}

-- the row of a revision, that of its approval if it has one, and that of a proposal
abbrev pub row_of : Revision → Row
row_of r = revision_row r.file r.rev r.author (profile_number r.profile) r.body

abbrev pub approval_of : Revision → Option Row
approval_of r = option_map (approval_row r.file r.rev) r.approver

abbrev pub proposed_row : Proposal → Row
proposed_row p = proposal_row p.file p.base p.author p.body

-- the rows of an entry
abbrev pub entry_rows : Entry → EntryRows
entry_rows (Revised r) = record { file = r.file; revisions = row_of r ∷ []; approvals = cons_option (approval_of r) []; proposals = [] }
entry_rows (Proposed p) = record { file = p.file; revisions = []; approvals = []; proposals = proposed_row p ∷ [] }

-- the revisions of a history
abbrev pub revisions_in : List Entry → List Revision
revisions_in history = filter_map revision_in history

-- The database holds just this history, in the four tables of this schema: its revisions, who approved them, and the proposals that
-- are pending. (Of a proposal that another entry followed there is nothing.)
pub record Holds (db : Database) (history : List Entry) : Type 0 where
  pub tables : HasTables db.schema
  pub version : rows_of db (codes "meta") ≡ (Int (pos 2) ∷ []) ∷ []
  pub revisions : IsPermutation (map row_of (revisions_in history)) (rows_of db (codes "file_rev"))
  pub approvals : IsPermutation (filter_map approval_of (revisions_in history)) (rows_of db (codes "approval"))
  pub proposals : IsPermutation (map proposed_row (pending_in history)) (rows_of db (codes "proposal"))
  pub numbers : IsHistory history

-- A database of version 1 holds just this history in its two tables, and there is none with the name of a later one, whether or not
-- SQL here understands it. So nobody approved any of its revisions, and nothing is pending.
pub record HoldsFirst (db : Database) (history : List Entry) : Type 0 where
  pub tables : HasFirstTables db.schema
  pub first : has_later db.schema ≡ false
  pub version : rows_of db (codes "meta") ≡ (Int (pos 1) ∷ []) ∷ []
  pub revisions : IsPermutation (map row_of (revisions_in history)) (rows_of db (codes "file_rev"))
  pub approvals : filter_map approval_of (revisions_in history) ≡ []
  pub proposals : pending_in history ≡ []
  pub numbers : IsHistory history
