-- What is read of the rows of revisions and of approvals. (this project's own)
use Rattle.std.specs.Prelude.{◌≡◌, ◌-◌, ◌==◌, ◌&&◌, ℕ, Bool, false, List, [], ◌∷◌, Option, None, Some, All, IsPermutation, codes, length, map, slice_get, if◌then◌else◌}
use Rattle.std.specs.List.{filter_map}
use Rattle.std.specs.Cmp.Lexicographic.{slice_cmp}
use Rattle.std.specs.Option.{option_map_or}
use Rattle.std.specs.Ordering.{is_lt, nat_cmp, ordering_then}
use Rattle.std.specs.Str.{IsUtf8, bytes_eq}
use Rattle.sqlite.specs.Effect.{Database}
use Rattle.sqlite.specs.Order.{Row}
use Rattle.desk_exports.specs.declared.profile.Profile.{Profile}
use Rattle.desk_core.specs.Head.{Newest, Revision, newest_in, newest_number}
use Rattle.desk_core.specs.History.{IsHistory, newest_of, pending_in}
use Rattle.desk_core.specs.Standing.{PendOnce}
use Rattle.desk_core.specs.declared.entry.Entry.{Entry}
use Rattle.desk_core.specs.declared.entry.Entry.TheVariants.{Revised}
use Rattle.desk_core.specs.declared.proposal.Proposal.{Proposal}
use Rattle.desk_store.specs.Desk.{IsStorable}
use Rattle.desk_store.specs.History.{approval_of, proposed_row, revisions_in, row_of}
use Rattle.desk_store.specs.Tables.{approval_row, rows_of}
use Rattle.desk_store.specs.declared.stored_rows.Approval.{Approval}

-- a revision with these parts that nobody approved
abbrev pub unapproved : List ℕ → ℕ → List ℕ → Profile → List ℕ → Revision
unapproved file rev author profile body = record { file = file; rev = rev; author = author; approver = None; profile = profile; body = body }

-- nobody approved a revision
abbrev pub IsUnapproved : Revision → Type 0
IsUnapproved r = r.approver ≡ None

-- the name of an approver is UTF-8 (the file is that of a revision)
abbrev pub HasUtf8Approver : Approval → Type 0
HasUtf8Approver approval = IsUtf8 approval.approver

-- an approval is of this revision
abbrev pub is_approval_of : Revision → Approval → Bool
is_approval_of revision approval = approval.rev == revision.rev && bytes_eq approval.file revision.file

-- the last approval
abbrev pub last_of : List Approval → Option Approval
last_of approvals = slice_get approvals (length approvals - 1)

-- the last approval, if it is of this revision
abbrev pub own_approval : Revision → List Approval → Option Approval
own_approval revision approvals = if option_map_or (is_approval_of revision) (last_of approvals) false then last_of approvals else None

-- a revision with its approval, if there is one
abbrev pub with_approval : Option Approval → Revision → Revision
with_approval None revision = revision
with_approval (Some approval) revision = record revision { approver = Some approval.approver }

-- the row of an approval
abbrev pub row_of_approval : Approval → Row
row_of_approval approval = approval_row approval.file approval.rev approval.approver

-- what the order of revisions and of their approvals is by: the file, and then the number
abbrev pub Key : Type 0
Key = List ℕ × ℕ

abbrev pub revision_key : Revision → Key
revision_key revision = (revision.file, revision.rev)

abbrev pub approval_key : Approval → Key
approval_key approval = (approval.file, approval.rev)

abbrev pub is_below : Key → Key → Bool
is_below one other = is_lt (ordering_then (slice_cmp nat_cmp one.0 other.0) (nat_cmp one.1 other.1))

-- the first approval, if it is of this revision; and the approvals without it
abbrev pub own_first : Revision → List Approval → Option Approval
own_first revision [] = None
own_first revision (approval ∷ later) = if is_approval_of revision approval then Some approval else None

abbrev pub left_by : Revision → List Approval → List Approval
left_by revision [] = []
left_by revision (approval ∷ later) = if is_approval_of revision approval then later else approval ∷ later

-- revisions, one after another, each with the first of the approvals that are left, if it is of it; and the approvals left behind them
abbrev pub approved_all : List Revision → List Approval → List Revision
approved_all [] approvals = []
approved_all (revision ∷ later) approvals = with_approval (own_first revision approvals) revision ∷ approved_all later (left_by revision approvals)

abbrev pub left_after : List Revision → List Approval → List Approval
left_after [] approvals = approvals
left_after (revision ∷ later) approvals = left_after later (left_by revision approvals)

-- The rows of revisions, of approvals and of proposals are those of a history.
pub record AreRowsOf (history : List Entry) (revisions approvals proposals : List Row) : Type 0 where
  pub revised : IsPermutation (map row_of (revisions_in history)) revisions
  pub approved : IsPermutation (filter_map approval_of (revisions_in history)) approvals
  pub proposed : IsPermutation (map proposed_row (pending_in history)) proposals

-- a database has just the rows of a history, of all three kinds
abbrev pub AreRowsIn : Database → List Entry → Type 0
AreRowsIn db history = AreRowsOf history (rows_of db (codes "file_rev")) (rows_of db (codes "approval")) (rows_of db (codes "proposal"))

-- Heads are the newest of revisions that rows say, with those who approved them as other rows say; these may be the revisions of a
-- database of this project.
pub record AreNewestOf (revisions approvals : List Row) (heads history : List Revision) : Type 0 where
  pub revised : IsPermutation (map row_of history) revisions
  pub approved : IsPermutation (filter_map approval_of history) approvals
  pub storable : All IsStorable history
  pub numbered : IsHistory (map Revised history)
  pub newest : newest_in heads ≡ newest_of (map Revised history)

-- Proposals may be pending behind these newest revisions: no two are of one file, and each follows the newest revision of its file.
pub record MayFollow (newest : Newest) (proposals : List Proposal) : Type 0 where
  pub once : PendOnce proposals
  pub follow : All (λ proposal. newest_number (newest proposal.file) ≡ proposal.base) proposals
