-- What the page tells of a site is told in one way: what waits, by which of it clients may do more, and the part on each file system.
-- (this project's own)
use Rattle.std.specs.Prelude.{◌≡◌, ℕ, All, List, Ok}
use Rattle.desk_policy.specs.Parsing.{read_site}
use Rattle.desk_policy.specs.Policy.{Content}
use Rattle.desk_core.specs.Head.{Newest, StandOnce}
use Rattle.desk_core.specs.Site.{site_in}
use Rattle.desk_core.specs.Standing.{PendOnce, standing_in}
use Rattle.desk_core.specs.declared.head.Head.{Head}
use Rattle.desk_core.specs.declared.proposal.Proposal.{Proposal}
use Rattle.page_data.specs.Laws.{IsSoundSite, TellVerdicts}
use Rattle.page_data.specs.Systems.{AreSystems, SystemValue}
use Rattle.page_data.specs.Values.{AreRunsOfSome}
use Rattle.page_data.specs.declared.lines.LineReasons.{LineReasons}
use Rattle.page_findings.specs.Deciding.{DecidedFor}
use Rattle.page_findings.specs.Lines.{AreReasonsOfSite}
use Rattle.page_findings.specs.UniqueLaws.{AreAlike}
use Rattle.page_summary.specs.Proposals.{ProposalValue}
use Rattle.page_site.specs.FoundInSite.{AreDecidedOfSite, AreSmallMaps, Found, Source}
use Rattle.page_site.specs.Page.{IsPageOf}
use Rattle.page_site.specs.SystemParts.{AreSystemTexts}
use Rattle.page_site.specs.WaitingProposals.{AreWaiting, Waiting}
use Rattle.page_site.specs.WideningProposals.{AreWidening}

-- what is told of a file system goes by runs of classes, and by all verdicts at its places
pub record HasOneText (system : SystemValue) : Type 0 where
  pub classes : AreRunsOfSome system.classes
  pub verdicts : TellVerdicts system.sections

-- Of a policy that is read there is one list of what waits; of that there is one list of the proposals by which clients may do more; there is
-- one list of the small maps, and one of the lines that decide in place of others; and given these lines, and those of the site by value,
-- the parts on file systems have one text.
pub record SystemsAreToldInOneWay : Type 0 where
  pub waiting : (newest : Newest) (content : Content) (proposals : List Proposal) (waiting others : List Waiting) → read_site (site_in newest) ≡ Ok content
      → AreWaiting newest content proposals waiting → AreWaiting newest content proposals others → waiting ≡ others
  pub widening : (content : Content) (waiting : List Waiting) (rows others : List ProposalValue) → AreWidening content waiting rows → AreWidening content waiting others
      → rows ≡ others
  pub maps : (content : Content) (systems : List SystemValue) (maps others : List (List (List ℕ))) → IsSoundSite content → AreSystems content systems
      → AreSmallMaps content systems maps → AreSmallMaps content systems others → maps ≡ others
  pub decided : (content : Content) (reasons others : List (List LineReasons)) (found second : List (List DecidedFor)) → IsSoundSite content
      → AreReasonsOfSite content reasons → AreReasonsOfSite content others → AreDecidedOfSite content reasons found → AreDecidedOfSite content others second
      → found ≡ second
  pub told : (content : Content) (systems : List SystemValue) → IsSoundSite content → AreSystems content systems → All HasOneText systems
  pub texts : (source : Source) (found other : Found) (fs : ℕ) (systems : List SystemValue) (text second : List ℕ) → All HasOneText systems
      → AreAlike found.lines other.lines → found.decided ≡ other.decided → AreSystemTexts source found fs systems text → AreSystemTexts source other fs systems second
      → text ≡ second

-- So the page is: there is at most one page of how files stand, for a word, in whatever order newest revisions and proposals are listed.
abbrev pub PagesAreToldInOneWay : Type 0
PagesAreToldInOneWay =
    (heads others : List Head) (proposals waits : List Proposal) (word page other : List ℕ) → standing_in heads proposals ≡ standing_in others waits
    → StandOnce heads → StandOnce others → PendOnce proposals → PendOnce waits → IsPageOf heads proposals word page → IsPageOf others waits word other
    → page ≡ other
