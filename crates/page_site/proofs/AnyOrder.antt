-- The page goes by how files stand, in whatever order they are listed.
use Rattle.std.proofs.Common.{◌≡◌, ℕ, ◌+◌, ◌∙◌, Bool, List, [], ◌∷◌, Option, Some, None, ap, length, map, refl, subst, sym}
use Rattle.std.specs.Prelude.{slice_get, slice_index_or}
use Rattle.desk_text.specs.Path.{path_text}
use Rattle.desk_tables.specs.declared.filesystems.Mount.{Mount}
use Rattle.desk_policy.specs.Policy.{Content}
use Rattle.desk_policy.specs.SiteFile.{exports_file_name}
use Rattle.desk_policy.specs.declared.parsing.SiteTables.{SiteTables}
use Rattle.desk_core.specs.Head.{newest_in}
use Rattle.desk_core.specs.Standing.{Standing, proposals_in, standing_in}
use Rattle.desk_core.specs.declared.head.Head.{Head}
use Rattle.desk_core.specs.declared.proposal.Proposal.{Proposal}
use Rattle.desk_impact.specs.Sections.{PlaceFound}
use Rattle.page_data.specs.Systems.{SystemValue}
use Rattle.page_data.specs.declared.opening.Opening.{Opening}
use Rattle.page_findings.specs.Deciding.{DecidedFor}
use Rattle.page_findings.specs.Lines.{LineValue}
use Rattle.page_html.specs.Head.{page_head}
use Rattle.page_maps.specs.NetworkTable.{GainsNetworks}
use Rattle.page_maps.specs.Shapes.{shapes}
use Rattle.page_summary.specs.Amounts.{revisions_of}
use Rattle.page_summary.specs.Figures.{figures}
use Rattle.page_summary.specs.Files.{file_of, has_proposal, lines_by, newest_of}
use Rattle.page_summary.specs.FindingRows.{AreFindingRows, FindingTable, findings_text, row_of}
use Rattle.page_summary.specs.Findings.{row_value}
use Rattle.page_summary.specs.FlavoursRows.{AreFlavoursRows}
use Rattle.page_summary.specs.FlavoursTable.{flavours_table}
use Rattle.page_summary.specs.Header.{header}
use Rattle.page_summary.specs.KeyFigures.{AreFiguresWith, AreKeyFigures}
use Rattle.page_summary.specs.Proposals.{ProposalValue, standing_proposals}
use Rattle.page_summary.specs.Sections.{section_end, section_start}
use Rattle.page_summary.specs.SiteFinding.{findings_among}
use Rattle.page_summary.specs.State.{IsStateDigest}
use Rattle.page_summary.specs.SystemRows.{AreOverviewRows, IsRowOf, IsRowWith, OverviewRows, overview_text}
use Rattle.page_summary.specs.declared.figures.KeyFigures.{KeyFigures}
use Rattle.page_summary.specs.declared.header.Header.{Header}
use Rattle.page_summary.specs.declared.overview.SystemRow.{SystemRow}
use Rattle.page_summary.specs.declared.sections.Section.{Section}
use Rattle.page_summary.specs.declared.sections.Section.TheVariants.{Each, Networks, Systems}
use Rattle.page_site.specs.FoundInSite.{Found, Source}
use Rattle.page_site.specs.Page.{AreTables, InSection, IsBack, IsBeginning, IsFront, IsHeader, IsPage, IsSummary, parts_of}
use Rattle.page_site.specs.Pieces.{Just, Then, Told}
use Rattle.page_site.specs.SystemParts.{AreSystemTexts, AreTextsFrom, IsSystemText, TellingValue, TellsIfAny, head_in, telling_of, waiting_for}
use Rattle.page_site.specs.WaitingProposals.{Waiting}
use Rattle.page_site.specs.WideningProposals.{AreWidening, IsToldFor}

-- ---- texts one behind the other
abbrev Moved : (List ℕ → Type 0) → (List ℕ → Type 0) → Type 0
Moved Is Others = (text : List ℕ) → Is text → Others text

same : (Is : List ℕ → Type 0) → Moved Is Is
same Is text is = is

then_moved : (First Second Third Fourth : List ℕ → Type 0) → Moved First Third → Moved Second Fourth → Moved (Then First Second) (Then Third Fourth)
then_moved First Second Third Fourth first second text is = record {
  first = is.first;
  second = is.second;
  is_first = first is.first is.is_first;
  is_second = second is.second is.is_second;
  text_is = is.text_is;
}

told_moved : {A : Type 0} (Is Others : A → Type 0) (words : A → List ℕ) → ((one : A) → Is one → Others one) → Moved (Told Is words) (Told Others words)
told_moved Is Others words moved text is = record { value = is.value; is = moved is.value is.is; text_is = is.text_is }

section_moved : (section : Section) (Is Others : List ℕ → Type 0) → Moved Is Others → Moved (InSection section Is) (InSection section Others)
section_moved section Is Others moved =
    let Start : List ℕ → Type 0 = Just (section_start section) in
    let End : List ℕ → Type 0 = Just section_end in
    then_moved Start (Then Is End) Start (Then Others End) (same Start) (then_moved Is End Others End moved (same End))

module _ (heads others : List Head) (proposals waits : List Proposal) (newest : newest_in heads ≡ newest_in others)
    (pending : proposals_in proposals ≡ proposals_in waits) (revisions : revisions_of heads ≡ revisions_of others) (files : length heads ≡ length others)
    (count : length proposals ≡ length waits) (has : (file : List ℕ) → has_proposal proposals file ≡ has_proposal waits file) where
  standing : standing_in others waits ≡ standing_in heads proposals
  standing =
      let made : (List ℕ → Option Head) → (List ℕ → Option Proposal) → Standing = λ first second. record { newest = first; proposals = second } in
      ap (λ first. made first (proposals_in waits)) (sym newest) ∙ ap (made (newest_in heads)) (sym pending)

  newest_moved : (file : List ℕ) → newest_in others file ≡ newest_in heads file
  newest_moved file = sym (ap (λ (find_in : List ℕ → Option Head). find_in file) newest)

  -- ---- the beginning
  header_moved : (word : List ℕ) (told : Header) → IsHeader others waits word told → IsHeader heads proposals word told
  header_moved word told is = record {
    database = is.database;
    revisions = is.revisions ∙ sym revisions;
    files = is.files ∙ sym files;
    state = subst (λ some. IsStateDigest some told.state.now) standing is.state;
  }

  beginning_moved : (word : List ℕ) → Moved (IsBeginning others waits word) (IsBeginning heads proposals word)
  beginning_moved word =
      let First : List ℕ → Type 0 = Just (page_head word) in
      let Second : List ℕ → Type 0 = Just shapes in
      let Heading : List ℕ → Type 0 = Told (IsHeader others waits word) header in
      let Heading' : List ℕ → Type 0 = Told (IsHeader heads proposals word) header in
      then_moved First (Then Second Heading) First (Then Second Heading') (same First)
      (then_moved Second Heading Second Heading' (same Second)
      (told_moved (IsHeader others waits word) (IsHeader heads proposals word) header (header_moved word)))

  -- ---- the summary
  figures_moved : (content : Content) (lines : List LineValue) (counted : KeyFigures) → AreKeyFigures content lines waits counted
      → AreKeyFigures content lines proposals counted
  figures_moved content lines counted is = subst (λ (many : ℕ). AreFiguresWith content lines many counted) (sym count) is

  findings_moved : (table : List Mount) (decided : List (List DecidedFor)) (lines : List LineValue) (made : FindingTable)
      → AreFindingRows table others decided lines made → AreFindingRows table heads decided lines made
  findings_moved table decided lines made is = record {
    found = is.found;
    are = is.are;
    told =
        subst (λ (find_in : List ℕ → Option Head). map row_value made.lines
        ≡ map (row_of table (map (λ mount. lines_by (find_in (file_of mount))) table)) (findings_among decided is.found))
        (sym newest) is.told;
    shared = is.shared;
  }

  summary_moved : (content : Content) (found : Found) → Moved (IsSummary content others waits found) (IsSummary content heads proposals found)
  summary_moved content found =
      let Counted : List ℕ → Type 0 = Told (AreKeyFigures content found.lines waits) figures in
      let Counted' : List ℕ → Type 0 = Told (AreKeyFigures content found.lines proposals) figures in
      let Waits : List ℕ → Type 0 = Just (standing_proposals content.table found.widening) in
      let Lines : List ℕ → Type 0 = Told (AreFindingRows content.table others found.decided found.lines) findings_text in
      let Lines' : List ℕ → Type 0 = Told (AreFindingRows content.table heads found.decided found.lines) findings_text in
      let Used : List ℕ → Type 0 = Then (Told (AreFlavoursRows content.table found.lines) flavours_table) (Just section_end) in
      then_moved Counted (Then Waits (Then Lines Used)) Counted' (Then Waits (Then Lines' Used))
      (told_moved (AreKeyFigures content found.lines waits) (AreKeyFigures content found.lines proposals) figures (figures_moved content found.lines))
      (then_moved Waits (Then Lines Used) Waits (Then Lines' Used) (same Waits)
      (then_moved Lines Used Lines' Used
      (told_moved (AreFindingRows content.table others found.decided found.lines) (AreFindingRows content.table heads found.decided found.lines) findings_text
      (findings_moved content.table found.decided found.lines))
      (same Used)))

  -- ---- the tables
  row_moved : (content : Content) (found : Found) (place : ℕ) (row : SystemRow) → IsRowOf (parts_of content others waits found) place row
      → IsRowOf (parts_of content heads proposals found) place row
  row_moved content found place row is =
      let Is = IsRowWith content found.systems found.reasons found.maps in
      let waiting : Mount → Bool = λ mount. has_proposal waits (file_of mount) in
      subst (λ (test : Mount → Bool). Is (newest_of heads) test place row) (λ i mount. sym (has (file_of mount)) i)
      (subst (λ (find : Mount → Option Head). Is find waiting place row) (λ i mount. newest_moved (file_of mount) i) is)

  overview_moved : (content : Content) (found : Found) (made : OverviewRows) → AreOverviewRows (parts_of content others waits found) made
      → AreOverviewRows (parts_of content heads proposals found) made
  overview_moved content found made is = record {
    classes = is.classes;
    are_classes = is.are_classes;
    together = is.together;
    rows = record {
      count = is.rows.count;
      each = λ place default within. row_moved content found place (slice_index_or made.rows place default) (is.rows.each place default within);
    };
  }

  tables_moved : (content : Content) (found : Found) → Moved (AreTables content others waits found) (AreTables content heads proposals found)
  tables_moved content found =
      let Rows : OverviewRows → Type 0 = AreOverviewRows (parts_of content others waits found) in
      let Rows' : OverviewRows → Type 0 = AreOverviewRows (parts_of content heads proposals found) in
      let Nets : List ℕ → Type 0 = InSection Networks (GainsNetworks content []) in
      then_moved (InSection Systems (Told Rows overview_text)) Nets (InSection Systems (Told Rows' overview_text)) Nets
      (section_moved Systems (Told Rows overview_text) (Told Rows' overview_text) (told_moved Rows Rows' overview_text (overview_moved content found)))
      (same Nets)

  -- ---- the parts on each file system, where the same waits for each
  head_moved : (mount : Option Mount) → head_in others mount ≡ head_in heads mount
  head_moved None = refl
  head_moved (Some mount) = newest_moved (exports_file_name (path_text mount.path))

  module _ (content : Content) (tables : SiteTables) (openings : List (PlaceFound Opening)) (waiting second : List Waiting)
      (alike : (fs : ℕ) → waiting_for waiting fs ≡ waiting_for second fs) where
    abbrev given : List Head → List Proposal → List Waiting → Source
    given some pend told = record {
      content = content;
      tables = tables;
      heads = some;
      proposals = pend;
      waiting = told;
      openings = openings;
    }

    module _ (found : Found) where
      abbrev told : TellingValue
      told = telling_of (given heads proposals waiting) found

      abbrev other : TellingValue
      other = telling_of (given others waits second) found

      system_moved : (fs : ℕ) (system : SystemValue) → Moved (IsSystemText other fs system) (IsSystemText told fs system)
      system_moved fs system text is =
          let all = is.is_data in
          record {
            given = is.given;
            is_data = record {
              policy = all.policy;
              fs_is = all.fs_is;
              classes = all.classes;
              lines = all.lines;
              head = all.head ∙ head_moved (slice_get content.table fs);
              findings = record { counted = all.findings.counted; are = all.findings.are; findings_are = all.findings.findings_are };
              proposal = subst (λ some. TellsIfAny content some is.given.proposal) (sym (alike fs)) all.proposal;
              maps = all.maps;
              groups = all.groups;
            };
            part = is.part;
            is_part = is.is_part;
            text_is = is.text_is;
          }

      texts_moved : (fs : ℕ) (systems : List SystemValue) → Moved (AreTextsFrom other fs systems) (AreTextsFrom told fs systems)
      texts_moved fs [] text is = is
      texts_moved fs (system ∷ systems) text is =
          then_moved (IsSystemText other fs system) (AreTextsFrom other (fs + 1) systems) (IsSystemText told fs system) (AreTextsFrom told (fs + 1) systems)
          (system_moved fs system) (texts_moved (fs + 1) systems) text is

      pub page_moved : (word : List ℕ) → Moved (IsPage (given others waits second) found word) (IsPage (given heads proposals waiting) found word)
      page_moved word =
          let Begun : List ℕ → Type 0 = IsBeginning others waits word in
          let Begun' : List ℕ → Type 0 = IsBeginning heads proposals word in
          let Summed : List ℕ → Type 0 = IsSummary content others waits found in
          let Summed' : List ℕ → Type 0 = IsSummary content heads proposals found in
          let Tabled : List ℕ → Type 0 = AreTables content others waits found in
          let Tabled' : List ℕ → Type 0 = AreTables content heads proposals found in
          let Parts : List ℕ → Type 0 = AreSystemTexts (given others waits second) found 0 found.systems in
          let Parts' : List ℕ → Type 0 = AreSystemTexts (given heads proposals waiting) found 0 found.systems in
          let Back : List ℕ → Type 0 = IsBack content tables (standing_in others waits) word in
          let Back' : List ℕ → Type 0 = IsBack content tables (standing_in heads proposals) word in
          then_moved (IsFront content others waits found word) (Then (InSection Each Parts) Back)
          (IsFront content heads proposals found word) (Then (InSection Each Parts') Back')
          (then_moved Begun (Then Summed Tabled) Begun' (Then Summed' Tabled') (beginning_moved word)
          (then_moved Summed Tabled Summed' Tabled' (summary_moved content found) (tables_moved content found)))
          (then_moved (InSection Each Parts) Back (InSection Each Parts') Back' (section_moved Each Parts Parts' (texts_moved 0 found.systems))
          (λ text. subst (λ some. IsBack content tables some word text) standing))

    pub widening_moved : (rows : List ProposalValue) → AreWidening content second rows → AreWidening content waiting rows
    widening_moved rows are = record {
      told = are.told;
      count = are.count;
      each = λ fs within. subst (λ some. IsToldFor content some (slice_index_or are.told fs [])) (sym (alike fs)) (are.each fs within);
      rows_are = are.rows_are;
    }
