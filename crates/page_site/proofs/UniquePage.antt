-- The page of a state has one text for a word.
use Rattle.std.proofs.Common.{◌≡◌, ℕ, ◌++◌, ◌∙◌, List, [], Result, Ok, ap, refl, subst, sym}
use Rattle.std.specs.Prelude.{All}
use Rattle.desk_policy.specs.Parsing.{read_site, read_site_tables}
use Rattle.desk_policy.specs.Policy.{Content}
use Rattle.desk_policy.specs.declared.parsing.SiteTables.{SiteTables}
use Rattle.desk_policy.specs.declared.site_fault.SiteFault.{SiteFault}
use Rattle.desk_impact.specs.Sections.{PlaceFound}
use Rattle.desk_core.specs.Head.{Newest, StandOnce, newest_in}
use Rattle.desk_core.specs.Site.{site_in}
use Rattle.desk_core.specs.Standing.{PendOnce, Standing, proposals_in, standing_in}
use Rattle.desk_core.specs.declared.head.Head.{Head}
use Rattle.desk_core.specs.declared.proposal.Proposal.{Proposal}
use Rattle.page_data.specs.Laws.{IsSoundSite}
use Rattle.page_data.specs.Opening.{AreOpenings}
use Rattle.page_data.specs.Systems.{SystemValue}
use Rattle.page_data.specs.Unique.{WhatIsFoundIsUnique}
use Rattle.page_data.specs.declared.opening.Opening.{Opening}
use Rattle.page_findings.specs.Lines.{AreLinesOfSite}
use Rattle.page_findings.specs.UniqueLaws.{AllHaveLikeReasons, AreAlike, HasFewFlavours, LinesAreToldInOneWay, ReadLinesHaveFewFlavours}
use Rattle.page_html.specs.Head.{page_head}
use Rattle.page_lists.specs.Files.{AddsFiles}
use Rattle.page_lists.specs.Hosts.{AddsHosts}
use Rattle.page_lists.specs.MakingAgain.{make_again}
use Rattle.page_lists.specs.Netgroups.{AddsNetgroups}
use Rattle.page_lists.specs.Reading.{how_to_read}
use Rattle.page_lists.specs.UniqueLaws.{ListsAreToldInOneWay}
use Rattle.page_lists.specs.Warnings.{AddsWarnings}
use Rattle.page_maps.specs.Laws.{NetworksAreToldInOneWay}
use Rattle.page_maps.specs.NetworkTable.{GainsNetworks}
use Rattle.page_maps.specs.Shapes.{shapes}
use Rattle.page_summary.specs.FindingRows.{AreFindingRows, FindingTable, findings_text}
use Rattle.page_summary.specs.Header.{header}
use Rattle.page_summary.specs.KeyFigures.{AreKeyFigures}
use Rattle.page_summary.specs.Figures.{figures}
use Rattle.page_summary.specs.FlavoursRows.{AreFlavoursRows}
use Rattle.page_summary.specs.FlavoursTable.{flavours_table}
use Rattle.page_summary.specs.Proposals.{standing_proposals}
use Rattle.page_summary.specs.Sections.{footer, section_end, section_start}
use Rattle.page_summary.specs.SystemRows.{AreOverviewRows, OverviewRows, SiteParts, overview_text}
use Rattle.page_summary.specs.UniqueLaws.{SummaryIsToldInOneWay}
use Rattle.page_summary.specs.declared.figures.KeyFigures.{KeyFigures}
use Rattle.page_summary.specs.declared.flavours.FlavoursRow.{FlavoursRow}
use Rattle.page_summary.specs.declared.header.Header.{Header}
use Rattle.page_summary.specs.declared.sections.Section.{Section}
use Rattle.page_summary.specs.declared.sections.Section.TheVariants.{Each, Files, Names, Networks, Systems, Warnings}
use Rattle.page_site.specs.FoundInSite.{AreSmallMaps, Found, IsFound, Source}
use Rattle.page_site.specs.Page.{AreFiles, AreLists, AreNames, AreTables, InSection, IsBack, IsBeginning, IsFront, IsHeader, IsPage, IsSource, IsSummary, parts_of}
use Rattle.page_site.specs.Pieces.{Just, Then, Told}
use Rattle.page_site.specs.SystemParts.{AreSystemTexts, waiting_for}
use Rattle.page_site.specs.UniqueLaws.{PagesAreToldInOneWay, SystemsAreToldInOneWay}
use Rattle.page_site.specs.WaitingProposals.{AreWaiting}
use Rattle.page_site.specs.WideningProposals.{AreWidening}
use Rattle.page_site.proofs.AnyOrder.{page_moved, widening_moved}
use Rattle.page_site.proofs.OneStanding.{as_many_heads, as_many_proposals, same_revisions, same_waits}
use Rattle.page_site.proofs.OneWaiting.{waits_alike}

-- ---- texts one behind the other
abbrev AreOne : (List ℕ → Type 0) → (List ℕ → Type 0) → Type 0
AreOne Is Others = (text other : List ℕ) → Is text → Others other → text ≡ other

one_then : (First Second Third Fourth : List ℕ → Type 0) → AreOne First Third → AreOne Second Fourth → AreOne (Then First Second) (Then Third Fourth)
one_then First Second Third Fourth first second text other is its =
    is.text_is ∙ ap (λ words. words ++ is.second) (first is.first its.first is.is_first its.is_first)
    ∙ ap (λ words. its.first ++ words) (second is.second its.second is.is_second its.is_second) ∙ sym its.text_is

one_just : (words others : List ℕ) → words ≡ others → AreOne (Just words) (Just others)
one_just words others same text other is its = is ∙ same ∙ sym its

one_told : {A : Type 0} (Is Others : A → Type 0) (words : A → List ℕ) → ((one other : A) → Is one → Others other → words one ≡ words other)
    → AreOne (Told Is words) (Told Others words)
one_told Is Others words same text other is its = is.text_is ∙ same is.value its.value is.is its.is ∙ sym its.text_is

one_section : (section : Section) (Is Others : List ℕ → Type 0) → AreOne Is Others → AreOne (InSection section Is) (InSection section Others)
one_section section Is Others same =
    let start : List ℕ = section_start section in
    one_then (Just start) (Then Is (Just section_end)) (Just start) (Then Others (Just section_end)) (one_just start start refl)
    (one_then Is (Just section_end) Others (Just section_end) same (one_just section_end section_end refl))

module _ (lists : ListsAreToldInOneWay) (summary : SummaryIsToldInOneWay) (lines : LinesAreToldInOneWay) (networks : NetworksAreToldInOneWay) (parts : SystemsAreToldInOneWay) where
  -- ---- the beginning
  one_header : (heads : List Head) (proposals : List Proposal) (word : List ℕ) (told other : Header) → IsHeader heads proposals word told
      → IsHeader heads proposals word other → header told ≡ header other
  one_header heads proposals word told other is its =
      summary.heading told other (is.database ∙ sym its.database) (is.revisions ∙ sym its.revisions) (is.files ∙ sym its.files)
      (summary.state (standing_in heads proposals) told.state.now other.state.now is.state its.state)

  one_beginning : (heads : List Head) (proposals : List Proposal) (word : List ℕ) → AreOne (IsBeginning heads proposals word) (IsBeginning heads proposals word)
  one_beginning heads proposals word =
      let Heading : List ℕ → Type 0 = Told (IsHeader heads proposals word) header in
      let Rest : List ℕ → Type 0 = Then (Just shapes) Heading in
      one_then (Just (page_head word)) Rest (Just (page_head word)) Rest (one_just (page_head word) (page_head word) refl)
      (one_then (Just shapes) Heading (Just shapes) Heading (one_just shapes shapes refl)
      (one_told (IsHeader heads proposals word) (IsHeader heads proposals word) header (one_header heads proposals word)))

  -- ---- the lists
  one_back : (content : Content) (tables : SiteTables) (standing : Standing) (word : List ℕ)
      → AreOne (IsBack content tables standing word) (IsBack content tables standing word)
  one_back content tables standing word =
      let Warned : List ℕ → Type 0 = InSection Warnings (AddsWarnings content []) in
      let Groups : List ℕ → Type 0 = AddsNetgroups content tables [] in
      let Hosts : List ℕ → Type 0 = AddsHosts content tables [] in
      let Named : List ℕ → Type 0 = InSection Names (AreNames content tables) in
      let Table : List ℕ → Type 0 = AddsFiles content.table standing [] in
      let Again : List ℕ → Type 0 = Just (make_again word) in
      let Held : List ℕ → Type 0 = InSection Files (AreFiles content standing word) in
      let Lists : List ℕ → Type 0 = AreLists content tables standing word in
      let End : List ℕ → Type 0 = Then (Just how_to_read) (Just footer) in
      one_then Lists End Lists End
      (one_then Warned (Then Named Held) Warned (Then Named Held)
      (one_section Warnings (AddsWarnings content []) (AddsWarnings content []) (lists.warnings content []))
      (one_then Named Held Named Held
      (one_section Names (AreNames content tables) (AreNames content tables)
      (one_then Groups Hosts Groups Hosts (lists.netgroups content tables []) (lists.hosts content tables [])))
      (one_section Files (AreFiles content standing word) (AreFiles content standing word)
      (one_then Table Again Table Again (lists.files content.table standing []) (one_just (make_again word) (make_again word) refl)))))
      (one_then (Just how_to_read) (Just footer) (Just how_to_read) (Just footer) (one_just how_to_read how_to_read refl) (one_just footer footer refl))

  -- ---- what is found of one site, twice
  module _ (source : Source) (sound : IsSoundSite source.content) (few : (some : Found) → AreLinesOfSite source.content some.lines → All HasFewFlavours some.lines)
      (found other : Found) (is_found : IsFound source.content found) (is_other : IsFound source.content other)
      (are_widening : AreWidening source.content source.waiting found.widening) (are_others : AreWidening source.content source.waiting other.widening)
      (same_systems : found.systems ≡ other.systems) where
    reasons_alike : AllHaveLikeReasons found.reasons other.reasons
    reasons_alike = lines.reasons source.content found.reasons other.reasons sound is_found.reasons is_other.reasons

    same_decided : found.decided ≡ other.decided
    same_decided =
        parts.decided source.content found.reasons other.reasons found.decided other.decided sound is_found.reasons is_other.reasons is_found.decided
        is_other.decided

    lines_alike : AreAlike found.lines other.lines
    lines_alike = lines.lines source.content found.lines other.lines sound is_found.lines is_other.lines

    same_maps : found.maps ≡ other.maps
    same_maps =
        parts.maps source.content found.systems found.maps other.maps sound is_found.systems is_found.maps
        (subst (λ systems. AreSmallMaps source.content systems other.maps) (sym same_systems) is_other.maps)

    same_widening : found.widening ≡ other.widening
    same_widening = parts.widening source.content source.waiting found.widening other.widening are_widening are_others

    -- ---- the summary
    one_figures : (one two : KeyFigures) → AreKeyFigures source.content found.lines source.proposals one
        → AreKeyFigures source.content other.lines source.proposals two → figures one ≡ figures two
    one_figures one two is its = ap figures (summary.figures source.content found.lines other.lines source.proposals one two lines_alike is its)

    one_findings : (one two : FindingTable) → AreFindingRows source.content.table source.heads found.decided found.lines one
        → AreFindingRows source.content.table source.heads other.decided other.lines two → findings_text one ≡ findings_text two
    one_findings one two is its =
        summary.findings source.content source.content.table source.heads found.decided found.lines other.lines one two sound is_found.lines is_other.lines is
        (subst (λ told. AreFindingRows source.content.table source.heads told other.lines two) (sym same_decided) its)

    one_flavours : (rows others : List FlavoursRow) → AreFlavoursRows source.content.table found.lines rows
        → AreFlavoursRows source.content.table other.lines others → flavours_table rows ≡ flavours_table others
    one_flavours rows others is its =
        summary.flavours source.content.table found.lines other.lines rows others lines_alike (few found is_found.lines) is its

    one_summary : AreOne (IsSummary source.content source.heads source.proposals found) (IsSummary source.content source.heads source.proposals other)
    one_summary =
        let Counted : List ℕ → Type 0 = Told (AreKeyFigures source.content found.lines source.proposals) figures in
        let Counted' : List ℕ → Type 0 = Told (AreKeyFigures source.content other.lines source.proposals) figures in
        let Waits : List ℕ → Type 0 = Just (standing_proposals source.content.table found.widening) in
        let Waits' : List ℕ → Type 0 = Just (standing_proposals source.content.table other.widening) in
        let Lines : List ℕ → Type 0 = Told (AreFindingRows source.content.table source.heads found.decided found.lines) findings_text in
        let Lines' : List ℕ → Type 0 = Told (AreFindingRows source.content.table source.heads other.decided other.lines) findings_text in
        let Used : List ℕ → Type 0 = Told (AreFlavoursRows source.content.table found.lines) flavours_table in
        let Used' : List ℕ → Type 0 = Told (AreFlavoursRows source.content.table other.lines) flavours_table in
        let End : List ℕ → Type 0 = Just section_end in
        one_then Counted (Then Waits (Then Lines (Then Used End))) Counted' (Then Waits' (Then Lines' (Then Used' End)))
        (one_told (AreKeyFigures source.content found.lines source.proposals) (AreKeyFigures source.content other.lines source.proposals) figures one_figures)
        (one_then Waits (Then Lines (Then Used End)) Waits' (Then Lines' (Then Used' End))
        (one_just (standing_proposals source.content.table found.widening) (standing_proposals source.content.table other.widening)
        (ap (standing_proposals source.content.table) same_widening))
        (one_then Lines (Then Used End) Lines' (Then Used' End)
        (one_told (AreFindingRows source.content.table source.heads found.decided found.lines)
        (AreFindingRows source.content.table source.heads other.decided other.lines) findings_text one_findings)
        (one_then Used End Used' End
        (one_told (AreFlavoursRows source.content.table found.lines) (AreFlavoursRows source.content.table other.lines) flavours_table one_flavours)
        (one_just section_end section_end refl))))

    -- ---- the tables
    abbrev given : List SystemValue → List (List (List ℕ)) → SiteParts
    given systems maps = record {
      content = source.content;
      systems = systems;
      reasons = other.reasons;
      heads = source.heads;
      proposals = source.proposals;
      maps = maps;
    }

    one_overview : (one two : OverviewRows) → AreOverviewRows (parts_of source.content source.heads source.proposals found) one
        → AreOverviewRows (parts_of source.content source.heads source.proposals other) two → overview_text one ≡ overview_text two
    one_overview one two is its =
        summary.overview (parts_of source.content source.heads source.proposals found) other.reasons one two is_found.systems reasons_alike is
        (subst (λ maps. AreOverviewRows (given found.systems maps) two) (sym same_maps)
        (subst (λ systems. AreOverviewRows (given systems other.maps) two) (sym same_systems) its))

    one_tables : AreOne (AreTables source.content source.heads source.proposals found) (AreTables source.content source.heads source.proposals other)
    one_tables =
        let Rows : OverviewRows → Type 0 = AreOverviewRows (parts_of source.content source.heads source.proposals found) in
        let Rows' : OverviewRows → Type 0 = AreOverviewRows (parts_of source.content source.heads source.proposals other) in
        let Nets : List ℕ → Type 0 = GainsNetworks source.content [] in
        one_then (InSection Systems (Told Rows overview_text)) (InSection Networks Nets) (InSection Systems (Told Rows' overview_text)) (InSection Networks Nets)
        (one_section Systems (Told Rows overview_text) (Told Rows' overview_text) (one_told Rows Rows' overview_text one_overview))
        (one_section Networks Nets Nets ((networks source.content).same []))

    -- ---- the parts on each file system
    one_parts : AreOne (AreSystemTexts source found 0 found.systems) (AreSystemTexts source other 0 other.systems)
    one_parts text second are its =
        parts.texts source found other 0 found.systems text second (parts.told source.content found.systems sound is_found.systems) lines_alike same_decided
        are (subst (λ systems. AreSystemTexts source other 0 systems second) (sym same_systems) its)

    -- ---- the page
    one_page : (word : List ℕ) → AreOne (IsPage source found word) (IsPage source other word)
    one_page word =
        let standing : Standing = standing_in source.heads source.proposals in
        let Begun : List ℕ → Type 0 = IsBeginning source.heads source.proposals word in
        let Summed : List ℕ → Type 0 = IsSummary source.content source.heads source.proposals found in
        let Summed' : List ℕ → Type 0 = IsSummary source.content source.heads source.proposals other in
        let Tabled : List ℕ → Type 0 = AreTables source.content source.heads source.proposals found in
        let Tabled' : List ℕ → Type 0 = AreTables source.content source.heads source.proposals other in
        let Parts : List ℕ → Type 0 = AreSystemTexts source found 0 found.systems in
        let Parts' : List ℕ → Type 0 = AreSystemTexts source other 0 other.systems in
        let Back : List ℕ → Type 0 = IsBack source.content source.tables standing word in
        one_then (IsFront source.content source.heads source.proposals found word) (Then (InSection Each Parts) Back)
        (IsFront source.content source.heads source.proposals other word) (Then (InSection Each Parts') Back)
        (one_then Begun (Then Summed Tabled) Begun (Then Summed' Tabled') (one_beginning source.heads source.proposals word)
        (one_then Summed Tabled Summed' Tabled' one_summary one_tables))
        (one_then (InSection Each Parts) Back (InSection Each Parts') Back (one_section Each Parts Parts' one_parts)
        (one_back source.content source.tables standing word))

  -- ---- what two pages of one state are made of
  module _ (found_once : WhatIsFoundIsUnique) (few_flavours : ReadLinesHaveFewFlavours) (a b : Source) (is_a : IsSource a) (is_b : IsSource b)
      (newest : newest_in a.heads ≡ newest_in b.heads) (pending : proposals_in a.proposals ≡ proposals_in b.proposals) (once_a : StandOnce a.heads)
      (once_b : StandOnce b.heads) (pend_a : PendOnce a.proposals) (pend_b : PendOnce b.proposals) (sound : IsSoundSite a.content) where
    same_content : a.content ≡ b.content
    same_content =
        let both : ◌≡◌ {A = Result Content SiteFault} (Ok a.content) (Ok b.content) =
        sym is_a.policy_is ∙ ap (λ (some : Newest). read_site (site_in some)) newest ∙ is_b.policy_is in
        cc

    same_tables : a.tables ≡ b.tables
    same_tables =
        let both : ◌≡◌ {A = Result SiteTables SiteFault} (Ok a.tables) (Ok b.tables) =
        sym is_a.tables_are ∙ ap (λ (some : Newest). read_site_tables (site_in some)) newest ∙ is_b.tables_are in
        cc

    same_openings : a.openings ≡ b.openings
    same_openings =
        found_once.places.openings b.content a.openings b.openings (subst (λ content. AreOpenings content a.openings) same_content is_a.are_openings)
        is_b.are_openings

    alike : (fs : ℕ) → waiting_for a.waiting fs ≡ waiting_for b.waiting fs
    alike =
        waits_alike (newest_in a.heads) a.content a.proposals b.proposals a.waiting b.waiting is_a.policy_is pending is_a.are_waiting
        (subst (λ some. AreWaiting some a.content b.proposals b.waiting) (sym newest)
        (subst (λ content. AreWaiting (newest_in b.heads) content b.proposals b.waiting) (sym same_content) is_b.are_waiting))

    abbrev with_parts : Content → SiteTables → List (PlaceFound Opening) → Source
    with_parts content tables openings = record {
      content = content;
      tables = tables;
      heads = b.heads;
      proposals = b.proposals;
      waiting = b.waiting;
      openings = openings;
    }

    source_moved : b ≡ with_parts a.content a.tables a.openings
    source_moved =
        ap (λ content. with_parts content b.tables b.openings) (sym same_content)
        ∙ ap (λ tables. with_parts a.content tables b.openings) (sym same_tables)
        ∙ ap (λ openings. with_parts a.content a.tables openings) (sym same_openings)

    pub one_page_of : (word page second : List ℕ) (found other : Found) → IsFound a.content found → IsFound b.content other
        → AreWidening a.content a.waiting found.widening → AreWidening b.content b.waiting other.widening → IsPage a found word page
        → IsPage b other word second → page ≡ second
    one_page_of word page second found other is_found is_other widening widenings is its =
        let its_found : IsFound a.content other = subst (λ content. IsFound content other) (sym same_content) is_other in
        one_page a sound (λ some are. few_flavours (site_in (newest_in a.heads)) a.content is_a.policy_is some.lines are) found other is_found its_found widening
        (widening_moved a.heads b.heads a.proposals b.proposals newest pending (same_revisions a.heads b.heads once_a once_b newest)
        (as_many_heads a.heads b.heads once_a once_b newest) (as_many_proposals a.proposals b.proposals pend_a pend_b pending)
        (same_waits a.proposals b.proposals pending) a.content a.tables a.openings a.waiting b.waiting alike other.widening
        (subst (λ content. AreWidening content b.waiting other.widening) (sym same_content) widenings))
        (found_once.grants.systems a.content found.systems other.systems is_found.systems its_found.systems) word page second is
        (page_moved a.heads b.heads a.proposals b.proposals newest pending (same_revisions a.heads b.heads once_a once_b newest)
        (as_many_heads a.heads b.heads once_a once_b newest) (as_many_proposals a.proposals b.proposals pend_a pend_b pending)
        (same_waits a.proposals b.proposals pending) a.content a.tables a.openings a.waiting b.waiting alike other word second
        (subst (λ source. IsPage source other word second) source_moved its))

module _ (lists : ListsAreToldInOneWay) (summary : SummaryIsToldInOneWay) (lines : LinesAreToldInOneWay) (networks : NetworksAreToldInOneWay)
    (parts : SystemsAreToldInOneWay) (found : WhatIsFoundIsUnique) (few : ReadLinesHaveFewFlavours) where
  pub pages_are_told_in_one_way : PagesAreToldInOneWay
  pages_are_told_in_one_way heads others proposals waits word page other same once once_others pend pend_waits is its =
      let newest : newest_in is.source.heads ≡ newest_in its.source.heads =
      ap newest_in is.heads_are ∙ ap (λ (some : Standing). some.newest) same ∙ sym (ap newest_in its.heads_are) in
      let pending : proposals_in is.source.proposals ≡ proposals_in its.source.proposals =
      ap proposals_in is.proposals_are ∙ ap (λ (some : Standing). some.proposals) same ∙ sym (ap proposals_in its.proposals_are) in
      one_page_of lists summary lines networks parts found few is.source its.source is.is_source its.is_source newest pending
      (subst StandOnce (sym is.heads_are) once) (subst StandOnce (sym its.heads_are) once_others) (subst PendOnce (sym is.proposals_are) pend)
      (subst PendOnce (sym its.proposals_are) pend_waits) is.sound word page other is.found its.found is.is_found its.is_found is.widening its.widening
      is.is its.is
