-- The part of the page on each file system. (this project's own)
use Rattle.std.specs.Prelude.{◌≡◌, ℕ, ◌+◌, ◌==◌, List, [], ◌∷◌, Option, Some, None, Result, Ok, Err, find, map, slice_get}
use Rattle.std.specs.Option.{option_copied}
use Rattle.desk_text.specs.Path.{path_text}
use Rattle.desk_tables.specs.declared.filesystems.Mount.{Mount}
use Rattle.desk_policy.specs.Policy.{Content}
use Rattle.desk_policy.specs.SiteFault.{fault_line}
use Rattle.desk_policy.specs.SiteFile.{exports_file_name}
use Rattle.desk_policy.specs.declared.site_fault.SiteFault.{SiteFault}
use Rattle.desk_core.specs.Head.{newest_in}
use Rattle.desk_core.specs.declared.head.Head.{Head}
use Rattle.desk_impact.specs.Sections.{PlaceBreaches, PlaceFound}
use Rattle.page_data.specs.declared.opening.Opening.{Opening}
use Rattle.page_data.specs.Classes.{class_run}
use Rattle.page_data.specs.Systems.{SystemValue}
use Rattle.page_findings.specs.Lines.{LineValue, line_value}
use Rattle.page_findings.specs.Deciding.{DecidedFor}
use Rattle.page_filesystem.specs.Parts.{file_system}
use Rattle.page_filesystem.specs.declared.outcomes.Outcome.{Outcome}
use Rattle.page_filesystem.specs.declared.outcomes.Outcome.TheVariants.{Changes, Refused}
use Rattle.page_filesystem.specs.declared.parts.FileSystemPart.{FileSystemPart}
use Rattle.page_filesystem.specs.declared.parts.ProposalPart.{ProposalPart}
use Rattle.page_maps.specs.Figures.{GainsFileSystemMaps}
use Rattle.page_findings.specs.declared.finding_words.Finding.{Finding}
use Rattle.page_filesystem.specs.OwnLines.{lines_in}
use Rattle.page_filesystem.specs.OwnParts.{IsPartOf}
use Rattle.page_filesystem.specs.declared.own_parts.FileSystemData.{FileSystemData}
use Rattle.page_summary.specs.SiteFinding.{findings_among, site_finding_value}
use Rattle.page_summary.specs.declared.site_finding.SiteFinding.{SiteFinding}
use Rattle.page_places.specs.Changes.{AreChangesIn, ChangesValue, row_value}
use Rattle.page_places.specs.ListedGroups.{AreListedGroups, listed_value}
use Rattle.page_places.specs.declared.listing.ListedGroups.{ListedGroups}
use Rattle.page_site.specs.FoundInSite.{Found, Source}
use Rattle.page_site.specs.Pieces.{Then}
use Rattle.page_site.specs.WaitingProposals.{Waiting}

-- what the parts of all file systems are made of: the policy in force, the newest revisions, what waits, the lines of the whole site,
-- which lines decide in place of those that never do, by file system, and where the server grants what is denied
pub record TellingValue : Type 0 where
  pub content : Content
  pub heads : List Head
  pub waiting : List Waiting
  pub lines : List LineValue
  pub decided : List (List DecidedFor)
  pub openings : List (PlaceFound Opening)

abbrev pub telling_of : Source → Found → TellingValue
telling_of source found = record {
  content = source.content;
  heads = source.heads;
  waiting = source.waiting;
  lines = found.lines;
  decided = found.decided;
  openings = source.openings;
}

-- what waits for a file system, if something does
abbrev pub waiting_for : List Waiting → ℕ → Option Waiting
waiting_for waiting fs = find (λ one. one.fs == fs) waiting

-- a fault that the site would have with a proposal, in words
abbrev pub IsFaultIn : Result Content SiteFault → List ℕ → Type 0
IsFaultIn (Ok lines) words = ⊥
IsFaultIn (Err fault) words = words ≡ fault_line fault

-- the changes that the lines of a proposal make at the places of a file system
abbrev pub AreChangesBy : Content → ℕ → Result Content SiteFault → ChangesValue → Type 0
AreChangesBy content fs (Ok lines) changes = AreChangesIn content lines fs changes
AreChangesBy content fs (Err fault) changes = ⊥

-- what comes of a proposal, as it is told
abbrev pub TellsOutcome : Content → Waiting → Outcome → Type 0
TellsOutcome content waiting (Changes rows silent) = AreChangesBy content waiting.fs waiting.outcome (record { rows = map row_value rows.now; silent = silent })
TellsOutcome content waiting (Refused words) = IsFaultIn waiting.outcome words.now

-- a proposal, as it is told
pub record TellsWaiting (content : Content) (waiting : Waiting) (part : ProposalPart) : Type 0 where
  pub author : part.author.now ≡ waiting.proposal.author
  pub revision : part.revision ≡ waiting.proposal.base + 1
  pub text : part.text.now ≡ waiting.proposal.body
  pub outcome : TellsOutcome content waiting part.outcome

-- the same, if there is one
abbrev pub TellsIfAny : Content → Option Waiting → Option ProposalPart → Type 0
TellsIfAny content None None = Unit {0}
TellsIfAny content (Some waiting) (Some part) = TellsWaiting content waiting part
TellsIfAny content None (Some part) = ⊥
TellsIfAny content (Some waiting) None = ⊥

-- the lines of a file system that stand out, as they are told
pub record AreFindingsIn (telling : TellingValue) (fs : ℕ) (findings : List Finding) : Type 0 where
  pub counted : List SiteFinding
  pub are : map site_finding_value counted ≡ findings_among telling.decided (lines_in telling.lines fs)
  pub findings_are : findings ≡ map (λ one. one.finding) counted

-- the groups of a file system's directories, as they are given
pub record AreGroupsIn (openings : List (PlaceFound Opening)) (sections : List PlaceBreaches) (given : FileSystemData) : Type 0 where
  pub listed : ListedGroups
  pub are : AreListedGroups openings sections (listed_value listed)
  pub groups : given.groups.now ≡ listed.groups
  pub count : given.group_count ≡ listed.count
  pub unlisted : given.unlisted ≡ listed.unlisted
  pub others : given.has_unlisted_others ≡ listed.has_unlisted_others

-- the newest revision of the exports file of a file system
abbrev pub head_in : List Head → Option Mount → Option Head
head_in heads None = None
head_in heads (Some mount) = newest_in heads (exports_file_name (path_text mount.path))

-- What is given of a file system is found of it.
pub record IsDataOf (telling : TellingValue) (fs : ℕ) (system : SystemValue) (given : FileSystemData) : Type 0 where
  pub policy : given.policy.now ≡ telling.content
  pub fs_is : given.fs.0 ≡ fs
  pub classes : map class_run given.classes.now ≡ system.classes
  pub lines : map line_value given.lines.now ≡ telling.lines
  pub head : option_copied given.head ≡ head_in telling.heads (slice_get telling.content.table fs)
  pub findings : AreFindingsIn telling fs given.findings.now
  pub proposal : TellsIfAny telling.content (waiting_for telling.waiting fs) given.proposal
  pub maps : GainsFileSystemMaps system.classes [] given.maps.now
  pub groups : AreGroupsIn telling.openings system.sections given

-- the part of the page on a file system
pub record IsSystemText (telling : TellingValue) (fs : ℕ) (system : SystemValue) (text : List ℕ) : Type 0 where
  pub given : FileSystemData
  pub is_data : IsDataOf telling fs system given
  pub part : FileSystemPart
  pub is_part : IsPartOf given part
  pub text_is : text ≡ file_system part

-- those on some file systems, numbered from this number on, one behind the other
abbrev pub AreTextsFrom : TellingValue → ℕ → List SystemValue → List ℕ → Type 0
AreTextsFrom telling fs [] text = text ≡ []
AreTextsFrom telling fs (system ∷ others) text = Then (IsSystemText telling fs system) (AreTextsFrom telling (fs + 1) others) text

-- The parts on file systems, numbered from this number on.
abbrev pub AreSystemTexts : Source → Found → ℕ → List SystemValue → List ℕ → Type 0
AreSystemTexts source found = AreTextsFrom (telling_of source found)
