-- The summary of the page is told in one way. (this project's own)
use Rattle.std.specs.Prelude.{◌≡◌, ℕ, All, List}
use Rattle.desk_core.specs.Standing.{Standing}
use Rattle.desk_core.specs.declared.head.Head.{Head}
use Rattle.desk_core.specs.declared.proposal.Proposal.{Proposal}
use Rattle.desk_policy.specs.Policy.{Content}
use Rattle.desk_tables.specs.declared.filesystems.Mount.{Mount}
use Rattle.page_data.specs.Laws.{IsSoundSite}
use Rattle.page_data.specs.Systems.{AreSystems}
use Rattle.page_data.specs.declared.lines.LineReasons.{LineReasons}
use Rattle.page_findings.specs.Deciding.{DecidedFor}
use Rattle.page_findings.specs.Lines.{AreLinesOfSite, LineValue}
use Rattle.page_findings.specs.UniqueLaws.{AllHaveLikeReasons, AreAlike, HasFewFlavours}
use Rattle.page_summary.specs.FindingRows.{AreFindingRows, FindingTable, findings_text}
use Rattle.page_summary.specs.FlavoursRows.{AreFlavoursRows}
use Rattle.page_summary.specs.FlavoursTable.{flavours_table}
use Rattle.page_summary.specs.Header.{header}
use Rattle.page_summary.specs.KeyFigures.{AreKeyFigures}
use Rattle.page_summary.specs.State.{IsStateDigest}
use Rattle.page_summary.specs.SystemRows.{AreOverviewRows, OverviewRows, SiteParts, overview_text}
use Rattle.page_summary.specs.declared.figures.KeyFigures.{KeyFigures}
use Rattle.page_summary.specs.declared.flavours.FlavoursRow.{FlavoursRow}
use Rattle.page_summary.specs.declared.header.Header.{Header}

-- what is given of a site, with these reasons why its lines stand out
abbrev pub with_reasons : SiteParts → List (List LineReasons) → SiteParts
with_reasons site reasons = record {
  content = site.content;
  systems = site.systems;
  reasons = reasons;
  heads = site.heads;
  proposals = site.proposals;
  maps = site.maps;
}

-- The summary says one thing of one site, wherever what is told of its lines is kept: one digest of its state, one header, one list of key
-- figures, one table of the lines that stand out and one of the flavours of lines, and one overview.
pub record SummaryIsToldInOneWay : Type 0 where
  pub state : (standing : Standing) (digest other : List ℕ) → IsStateDigest standing digest → IsStateDigest standing other → digest ≡ other
  pub heading : (told other : Header) → told.database.now ≡ other.database.now → told.revisions ≡ other.revisions → told.files ≡ other.files
      → told.state.now ≡ other.state.now → header told ≡ header other
  pub figures : (content : Content) (lines others : List LineValue) (proposals : List Proposal) (counted other : KeyFigures) → AreAlike lines others
      → AreKeyFigures content lines proposals counted → AreKeyFigures content others proposals other → counted ≡ other
  pub findings : (content : Content) (table : List Mount) (heads : List Head) (decided : List (List DecidedFor)) (lines others : List LineValue)
      (findings other : FindingTable) → IsSoundSite content → AreLinesOfSite content lines → AreLinesOfSite content others
      → AreFindingRows table heads decided lines findings → AreFindingRows table heads decided others other → findings_text findings ≡ findings_text other
  pub flavours : (table : List Mount) (lines others : List LineValue) (rows other_rows : List FlavoursRow) → AreAlike lines others
      → All HasFewFlavours lines → AreFlavoursRows table lines rows → AreFlavoursRows table others other_rows
      → flavours_table rows ≡ flavours_table other_rows
  pub overview : (site : SiteParts) (reasons : List (List LineReasons)) (made other : OverviewRows) → AreSystems site.content site.systems
      → AllHaveLikeReasons site.reasons reasons → AreOverviewRows site made → AreOverviewRows (with_reasons site reasons) other
      → overview_text made ≡ overview_text other
