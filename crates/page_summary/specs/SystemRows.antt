-- The rows of the file systems. (this project's own)
use Rattle.std.specs.Prelude.{◌≡◌, ℕ, ◌+◌, ◌<◌, ◌==◌, ◌&&◌, not, Bool, List, [], Option, Some, count_by, length, slice_get, slice_index_or}
use Rattle.std.specs.Option.{option_copied}
use Rattle.desk_text.specs.Path.{path_text}
use Rattle.desk_tables.specs.declared.filesystems.Mount.{Mount}
use Rattle.desk_policy.specs.Policy.{Content}
use Rattle.desk_who.specs.Runs.{Run}
use Rattle.desk_core.specs.declared.head.Head.{Head}
use Rattle.desk_core.specs.declared.proposal.Proposal.{Proposal}
use Rattle.page_data.specs.Classes.{AreClassesOfSite}
use Rattle.page_data.specs.Systems.{SystemValue}
use Rattle.page_data.specs.declared.class.Class.{Class}
use Rattle.page_data.specs.declared.lines.LineReasons.{LineReasons}
use Rattle.page_data.specs.Reasons.{is_first_level, level_of_all}
use Rattle.page_summary.specs.Overview.{overview}
use Rattle.page_summary.specs.declared.overview.Reach.{Reach}
use Rattle.page_summary.specs.declared.overview.SystemRow.{SystemRow}
use Rattle.page_summary.specs.Files.{file_of, has_proposal, newest_of}
use Rattle.page_summary.specs.Reaching.{IsReachOf}

-- a line is to be looked at first, or to be checked
abbrev pub is_first_line : LineReasons → Bool
is_first_line one = is_first_level (level_of_all one.reasons)

abbrev pub is_check_line : LineReasons → Bool
is_check_line one = not (length one.reasons == 0) && not (is_first_line one)

-- what is given of a site: what is found of each file system, why their lines stand out, the newest revisions, the proposals, and the
-- images of the maps of all file systems together and of each
pub record SiteParts : Type 0 where
  pub content : Content
  pub systems : List SystemValue
  pub reasons : List (List LineReasons)
  pub heads : List Head
  pub proposals : List Proposal
  pub maps : List (List (List ℕ))

-- The row of the file system at a place, given the newest revision of the exports file of each, and whether a proposal for it waits.
pub record IsRowWith (content : Content) (systems : List SystemValue) (reasons : List (List LineReasons)) (maps : List (List (List ℕ)))
    (newest : Mount → Option Head) (waiting : Mount → Bool) (place : ℕ) (row : SystemRow) : Type 0 where
  pub mount : Mount
  pub listed : slice_get content.table place ≡ Some mount
  pub system : SystemValue
  pub found : slice_get systems place ≡ Some system
  pub fs : row.fs.0 ≡ place
  pub name : row.name.now ≡ path_text mount.path
  pub reach : IsReachOf system.classes (slice_index_or maps (place + 1) []) row.reach
  pub custodians : row.custodians.now ≡ mount.custodians
  pub guarded : row.guarded ≡ mount.guarded
  pub head : option_copied row.head ≡ newest mount
  pub waits : row.has_proposal ≡ waiting mount
  pub first : row.first ≡ count_by is_first_line (slice_index_or reasons place [])
  pub check : row.check ≡ count_by is_check_line (slice_index_or reasons place [])

abbrev pub IsRowOf : SiteParts → ℕ → SystemRow → Type 0
IsRowOf site place row =
    IsRowWith site.content site.systems site.reasons site.maps (newest_of site.heads) (λ mount. has_proposal site.proposals (file_of mount)) place row

-- The rows of all file systems, in the order of their table.
pub record AreSystemRows (site : SiteParts) (rows : List SystemRow) : Type 0 where
  pub count : length rows ≡ length site.content.table
  pub each : (place : ℕ) (default : SystemRow) → place < length rows → IsRowOf site place (slice_index_or rows place default)

-- the row for all file systems together, and those for each
pub record OverviewRows : Type 0 where
  pub together : Reach
  pub rows : List SystemRow

abbrev pub overview_text : OverviewRows → List ℕ
overview_text made = overview made.together made.rows

-- The overview of a site.
pub record AreOverviewRows (site : SiteParts) (made : OverviewRows) : Type 0 where
  pub classes : List (Run Class)
  pub are_classes : AreClassesOfSite site.content classes
  pub together : IsReachOf classes (slice_index_or site.maps 0 []) made.together
  pub rows : AreSystemRows site made.rows
