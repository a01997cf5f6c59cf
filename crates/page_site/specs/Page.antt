-- The page of a report. (this project's own)
use Rattle.std.specs.Prelude.{◌≡◌, ℕ, List, [], Ok, length}
use Rattle.desk_policy.specs.Contradiction.{HasNoContradiction}
use Rattle.desk_policy.specs.Parsing.{read_site, read_site_tables}
use Rattle.desk_policy.specs.Policy.{Content}
use Rattle.desk_policy.specs.declared.parsing.SiteTables.{SiteTables}
use Rattle.desk_core.specs.Head.{newest_in}
use Rattle.desk_core.specs.Site.{site_in}
use Rattle.desk_core.specs.Standing.{Standing, standing_in}
use Rattle.desk_core.specs.declared.head.Head.{Head}
use Rattle.desk_core.specs.declared.proposal.Proposal.{Proposal}
use Rattle.page_data.specs.Laws.{IsSoundSite}
use Rattle.page_data.specs.Opening.{AreOpenings}
use Rattle.page_lists.specs.MakingAgain.{make_again}
use Rattle.page_lists.specs.Reading.{how_to_read}
use Rattle.page_maps.specs.Shapes.{shapes}
use Rattle.page_maps.specs.NetworkTable.{GainsNetworks}
use Rattle.page_summary.specs.Figures.{figures}
use Rattle.page_summary.specs.FlavoursTable.{flavours_table}
use Rattle.page_summary.specs.Header.{header}
use Rattle.page_summary.specs.Sections.{footer, section_end, section_start}
use Rattle.page_summary.specs.declared.header.Header.{Header}
use Rattle.page_summary.specs.declared.sections.Section.{Section}
use Rattle.page_summary.specs.declared.sections.Section.TheVariants.{Each, Files, Names, Networks, Systems, Warnings}
use Rattle.page_html.specs.Head.{page_head}
use Rattle.page_summary.specs.Amounts.{revisions_of}
use Rattle.page_lists.specs.Files.{AddsFiles}
use Rattle.page_lists.specs.Hosts.{AddsHosts}
use Rattle.page_lists.specs.Netgroups.{AddsNetgroups}
use Rattle.page_summary.specs.State.{IsStateDigest}
use Rattle.page_lists.specs.Warnings.{AddsWarnings}
use Rattle.page_summary.specs.FindingRows.{AreFindingRows, findings_text}
use Rattle.page_summary.specs.FlavoursRows.{AreFlavoursRows}
use Rattle.page_summary.specs.KeyFigures.{AreKeyFigures}
use Rattle.page_summary.specs.Proposals.{standing_proposals}
use Rattle.page_summary.specs.SystemRows.{AreOverviewRows, SiteParts, overview_text}
use Rattle.page_site.specs.SystemParts.{AreSystemTexts}
use Rattle.page_site.specs.FoundInSite.{Found, IsFound, Source}
use Rattle.page_site.specs.Pieces.{Just, Then, Told}
use Rattle.page_site.specs.WaitingProposals.{AreWaiting}
use Rattle.page_site.specs.WideningProposals.{AreWidening}

-- the header: the word for the database, how many revisions and files it has, and the digest of its state
pub record IsHeader (heads : List Head) (proposals : List Proposal) (word : List ℕ) (told : Header) : Type 0 where
  pub database : told.database.now ≡ word
  pub revisions : told.revisions ≡ revisions_of heads
  pub files : told.files ≡ length heads
  pub state : IsStateDigest (standing_in heads proposals) told.state.now

-- the beginning of the page: its head, the shapes that maps refer to, and its header
abbrev pub IsBeginning : List Head → List Proposal → List ℕ → List ℕ → Type 0
IsBeginning heads proposals word = Then (Just (page_head word)) (Then (Just shapes) (Told (IsHeader heads proposals word) header))

-- the summary, which its key figures begin: these, the proposals and the lines that stand out, and the security flavours
abbrev pub IsSummary : Content → List Head → List Proposal → Found → List ℕ → Type 0
IsSummary content heads proposals found =
    Then (Told (AreKeyFigures content found.lines proposals) figures)
    (Then (Just (standing_proposals content.table found.widening))
    (Then (Told (AreFindingRows content.table heads found.decided found.lines) findings_text)
    (Then (Told (AreFlavoursRows content.table found.lines) flavours_table) (Just section_end))))

-- a section with its heading
abbrev pub InSection : Section → (List ℕ → Type 0) → List ℕ → Type 0
InSection section Is = Then (Just (section_start section)) (Then Is (Just section_end))

-- what is given of the file systems
abbrev pub parts_of : Content → List Head → List Proposal → Found → SiteParts
parts_of content heads proposals found = record {
  content = content;
  systems = found.systems;
  reasons = found.reasons;
  heads = heads;
  proposals = proposals;
  maps = found.maps;
}

-- the tables of the file systems and of the networks
abbrev pub AreTables : Content → List Head → List Proposal → Found → List ℕ → Type 0
AreTables content heads proposals found =
    Then (InSection Systems (Told (AreOverviewRows (parts_of content heads proposals found)) overview_text))
    (InSection Networks (GainsNetworks content []))

-- what stands before the parts on each file system
abbrev pub IsFront : Content → List Head → List Proposal → Found → List ℕ → List ℕ → Type 0
IsFront content heads proposals found word =
    Then (IsBeginning heads proposals word) (Then (IsSummary content heads proposals found) (AreTables content heads proposals found))

-- the netgroups, and the names of hosts that lines write
abbrev pub AreNames : Content → SiteTables → List ℕ → Type 0
AreNames content tables = Then (AddsNetgroups content tables []) (AddsHosts content tables [])

-- the files with their newest revisions, and how the page is made again
abbrev pub AreFiles : Content → Standing → List ℕ → List ℕ → Type 0
AreFiles content standing word = Then (AddsFiles content.table standing []) (Just (make_again word))

-- the lists: warnings, names and files
abbrev pub AreLists : Content → SiteTables → Standing → List ℕ → List ℕ → Type 0
AreLists content tables standing word =
    Then (InSection Warnings (AddsWarnings content []))
    (Then (InSection Names (AreNames content tables)) (InSection Files (AreFiles content standing word)))

-- what stands behind the parts on each file system: the lists, how the page is read, and its end
abbrev pub IsBack : Content → SiteTables → Standing → List ℕ → List ℕ → Type 0
IsBack content tables standing word = Then (AreLists content tables standing word) (Then (Just how_to_read) (Just footer))

-- The page, given what is found of the site.
abbrev pub IsPage : Source → Found → List ℕ → List ℕ → Type 0
IsPage source found word =
    Then (IsFront source.content source.heads source.proposals found word)
    (Then (InSection Each (AreSystemTexts source found 0 found.systems))
    (IsBack source.content source.tables (standing_in source.heads source.proposals) word))

-- The policy, with its warnings, and the tables are those that the texts of the newest revisions write, and no two of its lines contradict
-- each other; of each proposal for the exports file of a listed file system it is told what would be in force; and it is told where the
-- server grants what is denied.
pub record IsSource (source : Source) : Type 0 where
  pub policy_is : read_site (site_in (newest_in source.heads)) ≡ Ok source.content
  pub consistent : HasNoContradiction source.content
  pub tables_are : read_site_tables (site_in (newest_in source.heads)) ≡ Ok source.tables
  pub are_waiting : AreWaiting (newest_in source.heads) source.content source.proposals source.waiting
  pub are_openings : AreOpenings source.content source.openings

-- The page of newest revisions and proposals, for a word that names their database; the policy that they write is sound.
pub record IsPageOf (heads : List Head) (proposals : List Proposal) (word page : List ℕ) : Type 0 where
  pub source : Source
  pub heads_are : source.heads ≡ heads
  pub proposals_are : source.proposals ≡ proposals
  pub is_source : IsSource source
  pub sound : IsSoundSite source.content
  pub found : Found
  pub is_found : IsFound source.content found
  pub widening : AreWidening source.content source.waiting found.widening
  pub is : IsPage source found word page
