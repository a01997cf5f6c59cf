-- What the part on each file system is made of, by value, and how it is put together.
use Rattle.std.specs.Prelude.{◌≡◌, ℕ, ◌<◌, All, List, Option, length, map, slice_get}
use Rattle.std.specs.Option.{option_copied}
use Rattle.desk_policy.specs.Policy.{Content}
use Rattle.desk_core.specs.Head.{CanBeKept, newest_in}
use Rattle.desk_impact.specs.Sections.{PlaceBreaches}
use Rattle.page_data.specs.Classes.{AreClassesIn, class_run}
use Rattle.page_data.specs.Laws.{IsSoundSite}
use Rattle.page_data.specs.Sections.{AreSections}
use Rattle.page_data.specs.Systems.{IsSystem, SystemValue}
use Rattle.page_findings.specs.Lines.{AreLinesOfSite, line_value}
use Rattle.page_findings.specs.Deciding.{AreInLineOrder, deciding_value}
use Rattle.page_data.specs.Opening.{opening_section}
use Rattle.page_places.specs.Groups.{HasToldSizes}
use Rattle.page_filesystem.specs.Parts.{file_system}
use Rattle.page_filesystem.specs.declared.parts.FileSystemPart.{FileSystemPart}
use Rattle.page_filesystem.specs.declared.parts.ProposalPart.{ProposalPart}
use Rattle.page_filesystem.specs.OwnParts.{IsPartOf}
use Rattle.page_filesystem.specs.declared.own_parts.FileSystemData.{FileSystemData}
use Rattle.page_site.specs.SystemParts.{TellingValue, TellsIfAny, head_in}
use Rattle.page_site.specs.Given.{HasReadableText}
use Rattle.page_site.specs.WaitingProposals.{IsWaiting, Waiting, waiting_value}
use Rattle.page_site.specs.declared.system_parts.Telling.{Telling}
use Rattle.page_site.specs.declared.system_parts.ToldSystem.{ToldSystem}

-- what the parts are made of, by value
abbrev pub telling_value : {V : Type 0} → (V → Content) → Telling V → TellingValue
telling_value in_force telling = record {
  content = in_force telling.view.now;
  heads = telling.heads.now;
  waiting = map (waiting_value in_force) telling.waiting.now;
  lines = map line_value telling.lines.now;
  decided = map deciding_value telling.deciding.now;
  openings = map opening_section telling.openings.now;
}

-- All of it is of one sound site, and its texts are not too long to be read.
pub record IsOfSite (telling : TellingValue) : Type 0 where
  pub sound : IsSoundSite telling.content
  pub kept : All CanBeKept telling.heads
  pub waiting : All (IsWaiting (newest_in telling.heads) telling.content) telling.waiting
  pub readable : All HasReadableText telling.waiting
  pub lines : AreLinesOfSite telling.content telling.lines
  pub decided : All AreInLineOrder telling.decided

-- this is found of a file system of the table
pub record IsSystemOf (content : Content) (fs : ℕ) (system : SystemValue) : Type 0 where
  pub listed : fs < length content.table
  pub all : List PlaceBreaches
  pub are_all : AreSections content all
  pub is : IsSystem content all fs system

-- what is told of a file system beside its lines is of one of the table, and can be told
pub record CanBeTold (content : Content) (told : ToldSystem) : Type 0 where
  pub listed : told.fs.0 < length content.table
  pub classes : AreClassesIn content told.fs.0 (map class_run told.classes.now)
  pub groups : All HasToldSizes told.listed.now.groups

-- what waits is of the site, and can be told
pub record CanWait (telling : TellingValue) (waiting : Waiting) : Type 0 where
  pub is : IsWaiting (newest_in telling.heads) telling.content waiting
  pub readable : HasReadableText waiting

-- the part on a file system is made of just what is told of it, and of its lines and its newest revision
pub record IsMadeOf (telling : TellingValue) (told : ToldSystem) (given : FileSystemData) : Type 0 where
  pub policy : given.policy.now ≡ telling.content
  pub fs : given.fs ≡ told.fs
  pub classes : given.classes.now ≡ told.classes.now
  pub lines : map line_value given.lines.now ≡ telling.lines
  pub head : option_copied given.head ≡ head_in telling.heads (slice_get telling.content.table told.fs.0)
  pub findings : given.findings.now ≡ told.findings.now
  pub maps : given.maps.now ≡ told.maps.now
  pub groups : given.groups.now ≡ told.listed.now.groups
  pub count : given.group_count ≡ told.listed.now.count
  pub unlisted : given.unlisted ≡ told.listed.now.unlisted
  pub others : given.has_unlisted_others ≡ told.listed.now.has_unlisted_others

-- the part on a file system, with this proposal
pub record IsTextWith (telling : TellingValue) (told : ToldSystem) (proposal : Option ProposalPart) (text : List ℕ) : Type 0 where
  pub given : FileSystemData
  pub made : IsMadeOf telling told given
  pub proposal_is : given.proposal ≡ proposal
  pub part : FileSystemPart
  pub is_part : IsPartOf given part
  pub text_is : text ≡ file_system part

-- the part on a file system, with what waits, if something does
pub record IsTextFor (telling : TellingValue) (told : ToldSystem) (waiting : Option Waiting) (text : List ℕ) : Type 0 where
  pub proposal : Option ProposalPart
  pub tells : TellsIfAny telling.content waiting proposal
  pub is : IsTextWith telling told proposal text
