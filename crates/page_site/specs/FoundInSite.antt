-- What is found of a site before its page is written. (this project's own)
use Rattle.std.specs.Prelude.{◌≡◌, ℕ, ◌+◌, ◌<◌, List, [], length, slice_index_or}
use Rattle.desk_policy.specs.Policy.{Content}
use Rattle.desk_policy.specs.declared.parsing.SiteTables.{SiteTables}
use Rattle.desk_who.specs.Runs.{Run}
use Rattle.desk_core.specs.declared.head.Head.{Head}
use Rattle.desk_impact.specs.Sections.{PlaceFound}
use Rattle.page_data.specs.declared.opening.Opening.{Opening}
use Rattle.desk_core.specs.declared.proposal.Proposal.{Proposal}
use Rattle.page_data.specs.Classes.{AreClassesOfSite}
use Rattle.page_data.specs.Systems.{AreSystems, SystemValue}
use Rattle.page_data.specs.declared.class.Class.{Class}
use Rattle.page_data.specs.declared.lines.LineReasons.{LineReasons}
use Rattle.page_findings.specs.Lines.{AreLinesOfSite, AreReasonsOfSite, LineValue}
use Rattle.page_findings.specs.Deciding.{AreDecidedFor, DecidedFor}
use Rattle.page_maps.specs.Figures.{AreOverviewMaps}
use Rattle.page_summary.specs.Proposals.{ProposalValue}
use Rattle.page_site.specs.WaitingProposals.{Waiting}

-- what a page is made of: the policy in force and its tables, the newest revisions and the proposals, in no order, those of these for
-- exports files of listed file systems, with what would be in force, and where the server grants what is denied by the policy
pub record Source : Type 0 where
  pub content : Content
  pub tables : SiteTables
  pub heads : List Head
  pub proposals : List Proposal
  pub waiting : List Waiting
  pub openings : List (PlaceFound Opening)

-- what is found of it: of each file system; why each line stands out, and which lines decide in place of those that never do, by file
-- system; the lines of the whole site; the images of small maps, of all file systems together and then of each; and the proposals by which
-- clients may do more
pub record Found : Type 0 where
  pub systems : List SystemValue
  pub reasons : List (List LineReasons)
  pub decided : List (List DecidedFor)
  pub lines : List LineValue
  pub maps : List (List (List ℕ))
  pub widening : List ProposalValue

-- which lines decide in place of those that never do, by file system, in the order of their table
pub record AreDecidedOfSite (content : Content) (reasons : List (List LineReasons)) (decided : List (List DecidedFor)) : Type 0 where
  pub count : length decided ≡ length content.table
  pub each : (fs : ℕ) → fs < length content.table → AreDecidedFor content fs (slice_index_or reasons fs []) (slice_index_or decided fs [])

-- the images of small maps, of all file systems together and then of each
pub record AreSmallMaps (content : Content) (systems : List SystemValue) (maps : List (List (List ℕ))) : Type 0 where
  pub count : length maps ≡ length content.table + 1
  pub classes : List (Run Class)
  pub together : AreClassesOfSite content classes
  pub first : AreOverviewMaps classes (slice_index_or maps 0 [])
  pub each : (fs : ℕ) (default : SystemValue) → fs < length content.table → AreOverviewMaps (slice_index_or systems fs default).classes (slice_index_or maps (fs + 1) [])

-- This is found of a policy.
pub record IsFound (content : Content) (found : Found) : Type 0 where
  pub systems : AreSystems content found.systems
  pub reasons : AreReasonsOfSite content found.reasons
  pub decided : AreDecidedOfSite content found.reasons found.decided
  pub lines : AreLinesOfSite content found.lines
  pub maps : AreSmallMaps content found.systems found.maps
