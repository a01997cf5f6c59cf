-- The parts on file systems have one text.
use Rattle.std.proofs.Common.{◌≡◌, ℕ, ◌+◌, ◌<◌, ◌==◌, ◌++◌, ◌∙◌, Bool, List, [], ◌∷◌, Option, Some, None, Result, Ok, Err, ap, arith, get_or, length, map, subst, sym}
use Rattle.std.specs.Prelude.{All, filter}
use Rattle.std.proofs.lemmas.List.Elements.{All-head, All-tail}
use Rattle.desk_policy.specs.Policy.{Content}
use Rattle.desk_policy.specs.declared.site_fault.SiteFault.{SiteFault}
use Rattle.desk_impact.specs.Sections.{PlaceBreaches, PlaceFound}
use Rattle.desk_impact.proofs.Telling.{map-filter}
use Rattle.page_data.specs.Laws.{IsSoundSite, OrdersTellVerdicts, TellVerdicts}
use Rattle.page_data.specs.Systems.{AreSystems, SystemValue}
use Rattle.page_data.specs.Unique.{CountsAreUnique}
use Rattle.page_data.specs.Values.{AreRunsOfSome}
use Rattle.page_data.specs.declared.opening.Opening.{Opening}
use Rattle.page_findings.specs.Deciding.{DecidedFor}
use Rattle.page_findings.specs.FindingWords.{FindingValue, finding_value}
use Rattle.page_findings.specs.Lines.{KnownLine, LineValue, known_line}
use Rattle.page_findings.specs.UniqueLaws.{AreAlike, LinesAreToldInOneWay}
use Rattle.page_findings.specs.declared.finding_words.Finding.{Finding}
use Rattle.page_findings.proofs.Alike.{stands_by}
use Rattle.page_findings.proofs.Mapped.{map_twice}
use Rattle.page_html.specs.Blocks.{element_html}
use Rattle.page_html.specs.declared.blocks.Element.TheVariants.{Paragraph}
use Rattle.page_maps.specs.Laws.{MapsAreToldInOneWay}
use Rattle.page_places.specs.ChangeRows.{changes_block}
use Rattle.page_places.specs.Changes.{ChangesValue, row_value}
use Rattle.page_places.specs.Groups.{groups_text}
use Rattle.page_places.specs.UniqueLaws.{AreToldAlike, ChangesAreToldInOneWay, PlacesAreToldInOneWay}
use Rattle.page_places.specs.declared.change_rows.ChangeRow.{ChangeRow}
use Rattle.page_filesystem.specs.OwnLines.{lines_in}
use Rattle.page_filesystem.specs.OwnParts.{own_lines, runs_in}
use Rattle.page_filesystem.specs.Outcomes.{outcome_text, refused}
use Rattle.page_filesystem.specs.UniqueLaws.{AreAlikeIfAny, AreGivenAlike, FileSystemsAreToldInOneWay}
use Rattle.page_filesystem.specs.declared.outcomes.Outcome.{Outcome}
use Rattle.page_filesystem.specs.declared.outcomes.Outcome.TheVariants.{Changes, Refused}
use Rattle.page_filesystem.specs.declared.own_parts.FileSystemData.{FileSystemData}
use Rattle.page_filesystem.specs.declared.parts.ProposalPart.{ProposalPart}
use Rattle.page_summary.specs.SiteFinding.{SiteFindingValue, site_finding_value}
use Rattle.page_summary.specs.declared.site_finding.SiteFinding.{SiteFinding}
use Rattle.page_summary.proofs.UniqueFindings.{findings_by, made_by}
use Rattle.page_site.specs.FoundInSite.{Found, Source}
use Rattle.page_site.specs.SystemParts.{AreChangesBy, AreFindingsIn, AreGroupsIn, AreTextsFrom, IsDataOf, IsFaultIn, IsSystemText, TellingValue, TellsIfAny, TellsOutcome, telling_of, waiting_for}
use Rattle.page_site.specs.UniqueLaws.{HasOneText, SystemsAreToldInOneWay}
use Rattle.page_site.specs.WaitingProposals.{Waiting}
use Rattle.page_site.proofs.UniqueFound.{decided_in_one_way, maps_in_one_way}
use Rattle.page_site.proofs.UniqueWaiting.{waiting_in_one_way, widening_in_one_way}

-- ---- the lines of a file system
lines_alike : (lines others : List LineValue) (fs : ℕ) → AreAlike lines others → AreAlike (lines_in lines fs) (lines_in others fs)
lines_alike lines others fs alike =
    let own : KnownLine → Bool = λ line. line.fs == fs in
    map-filter known_line own lines ∙ ap (filter own) alike ∙ sym (map-filter known_line own others)

-- ---- those that stand out
abbrev finding_by : List (List DecidedFor) → KnownLine → FindingValue
finding_by decided line = made_by decided (λ (value : SiteFindingValue). value.finding) line

findings_in : (telling : TellingValue) (fs : ℕ) (findings : List Finding) → AreFindingsIn telling fs findings
    → map finding_value findings ≡ map (finding_by telling.decided) (filter stands_by (map known_line (lines_in telling.lines fs)))
findings_in telling fs findings are =
    ap (map finding_value) are.findings_are ∙ map_twice (λ (one : SiteFinding). one.finding) finding_value are.counted
    ∙ sym (map_twice site_finding_value (λ (value : SiteFindingValue). value.finding) are.counted)
    ∙ ap (map (λ (value : SiteFindingValue). value.finding)) are.are
    ∙ findings_by telling.decided (λ (value : SiteFindingValue). value.finding) (lines_in telling.lines fs)

-- ---- what waits
module _ (changes : ChangesAreToldInOneWay) (content : Content) where
  changes_alike : (fs : ℕ) (outcome : Result Content SiteFault) (rows others : List ChangeRow) (silent count : ℕ)
      → AreChangesBy content fs outcome (record { rows = map row_value rows; silent = silent }) → AreChangesBy content fs outcome (record { rows = map row_value others; silent = count })
      → changes_block rows silent ≡ changes_block others count
  changes_alike fs (Ok lines) rows others silent count are its =
      let own : ChangesValue = record { rows = map row_value rows; silent = silent } in
      let second : ChangesValue = record { rows = map row_value others; silent = count } in
      let same : own ≡ second = changes.changes content lines fs own second are its in
      changes.text rows others silent (ap (λ (value : ChangesValue). value.rows) same) ∙ ap (changes_block others) (ap (λ (value : ChangesValue). value.silent) same)
  changes_alike fs (Err fault) rows others silent count are its = absurd are

  not_both : (fs : ℕ) (outcome : Result Content SiteFault) (value : ChangesValue) (words : List ℕ) → AreChangesBy content fs outcome value → IsFaultIn outcome words → ⊥
  not_both fs (Ok lines) value words are is = is
  not_both fs (Err fault) value words are is = are

  same_words : (outcome : Result Content SiteFault) (words others : List ℕ) → IsFaultIn outcome words → IsFaultIn outcome others → words ≡ others
  same_words (Ok lines) words others is its = absurd is
  same_words (Err fault) words others is its = is ∙ sym its

  outcomes_alike : (waiting : Waiting) (outcome other : Outcome) → TellsOutcome content waiting outcome → TellsOutcome content waiting other → outcome_text outcome ≡ outcome_text other
  outcomes_alike waiting (Changes rows silent) (Changes others count) is its = changes_alike waiting.fs waiting.outcome rows.now others.now silent count is its
  outcomes_alike waiting (Changes rows silent) (Refused words) is its = absurd (not_both waiting.fs waiting.outcome (record { rows = map row_value rows.now; silent = silent }) words.now is its)
  outcomes_alike waiting (Refused words) (Changes rows silent) is its = absurd (not_both waiting.fs waiting.outcome (record { rows = map row_value rows.now; silent = silent }) words.now its is)
  outcomes_alike waiting (Refused words) (Refused others) is its = ap (λ fault. element_html Paragraph (refused fault)) (same_words waiting.outcome words.now others.now is its)

  proposals_alike : (waiting : Option Waiting) (proposal other : Option ProposalPart) → TellsIfAny content waiting proposal → TellsIfAny content waiting other → AreAlikeIfAny proposal other
  proposals_alike None None None is its = tt
  proposals_alike None None (Some other) is its = its
  proposals_alike None (Some proposal) other is its = absurd is
  proposals_alike (Some waiting) None other is its = absurd is
  proposals_alike (Some waiting) (Some proposal) None is its = its
  proposals_alike (Some waiting) (Some proposal) (Some other) is its = record {
    author = is.author ∙ sym its.author;
    revision = is.revision ∙ sym its.revision;
    text = is.text ∙ sym its.text;
    outcome = outcomes_alike waiting proposal.outcome other.outcome is.outcome its.outcome;
  }

-- ---- the parts
module _ (places : PlacesAreToldInOneWay) (parts : FileSystemsAreToldInOneWay) (maps_told : MapsAreToldInOneWay) where
  module _ (openings : List (PlaceFound Opening)) (sections : List PlaceBreaches) (tell : TellVerdicts sections) (given other : FileSystemData) (are : AreGroupsIn openings sections given)
      (its : AreGroupsIn openings sections other) where
    groups_alike : AreToldAlike are.listed its.listed
    groups_alike = places.groups openings sections are.listed its.listed tell are.are its.are

  module _ (source : Source) (found second : Found) (alike : AreAlike found.lines second.lines) (decided : found.decided ≡ second.decided) where
    abbrev telling : TellingValue
    telling = telling_of source found

    abbrev telling_too : TellingValue
    telling_too = telling_of source second

    data_alike : (fs : ℕ) (system : SystemValue) (given other : FileSystemData) → HasOneText system → IsDataOf telling fs system given → IsDataOf telling_too fs system other
        → AreGivenAlike given other
    data_alike fs system given other one is its =
        let told = groups_alike source.openings system.sections one.verdicts given other is.groups its.groups in
        let own : own_lines given ≡ lines_in found.lines fs = λ i. lines_in (is.lines i) (is.fs_is i) in
        let own_too : own_lines other ≡ lines_in second.lines fs = λ i. lines_in (its.lines i) (its.fs_is i) in
        let lines : AreAlike (lines_in found.lines fs) (lines_in second.lines fs) = lines_alike found.lines second.lines fs alike in
        let known : map (finding_by found.decided) (filter stands_by (map known_line (lines_in found.lines fs))) ≡ map (finding_by second.decided) (filter stands_by (map known_line (lines_in second.lines fs))) =
        λ i. map (finding_by (decided i)) (filter stands_by (lines i)) in
        record {
          policy = is.policy ∙ sym its.policy;
          fs = is.fs_is ∙ sym its.fs_is;
          classes = is.classes ∙ sym its.classes;
          lines = ap (map known_line) own ∙ lines ∙ sym (ap (map known_line) own_too);
          head = is.head ∙ sym its.head;
          findings = findings_in telling fs given.findings.now is.findings ∙ known ∙ sym (findings_in telling_too fs other.findings.now its.findings);
          proposal = proposals_alike places.changes source.content (waiting_for source.waiting fs) given.proposal other.proposal is.proposal its.proposal;
          maps = (maps_told system.classes one.classes).of_file_system.same [] given.maps.now other.maps.now is.maps its.maps;
          groups = λ n. ap (groups_text n) is.groups.groups ∙ told.text n ∙ sym (ap (groups_text n) its.groups.groups);
          group_count = is.groups.count ∙ told.count ∙ sym its.groups.count;
          unlisted = is.groups.unlisted ∙ told.unlisted ∙ sym its.groups.unlisted;
          has_unlisted_others = is.groups.others ∙ told.others ∙ sym its.groups.others;
        }

    one_text : (fs : ℕ) (system : SystemValue) (text other : List ℕ) → HasOneText system → IsSystemText telling fs system text → IsSystemText telling_too fs system other → text ≡ other
    one_text fs system text other one is its =
        let some : AreRunsOfSome (runs_in is.given) = subst AreRunsOfSome (sym is.is_data.classes) one.classes in
        is.text_is
        ∙ parts.parts is.given its.given is.part its.part some (data_alike fs system is.given its.given one is.is_data its.is_data) is.is_part its.is_part
        ∙ sym its.text_is

    all_texts : (fs : ℕ) (systems : List SystemValue) (text other : List ℕ) → All HasOneText systems → AreTextsFrom telling fs systems text → AreTextsFrom telling_too fs systems other → text ≡ other
    all_texts fs [] text other each are its = are ∙ sym its
    all_texts fs (system ∷ systems) text other each are its =
        let first = one_text fs system are.first its.first (All-head HasOneText system systems each) are.is_first its.is_first in
        let rest = all_texts (fs + 1) systems are.second its.second (All-tail HasOneText system systems each) are.is_second its.is_second in
        are.text_is ∙ ap (λ words. words ++ are.second) first ∙ ap (λ words. its.first ++ words) rest ∙ sym its.text_is

have_one_text : OrdersTellVerdicts → (content : Content) (systems : List SystemValue) → IsSoundSite content → AreSystems content systems → All HasOneText systems
have_one_text tell content systems sound are = λ fs default within.
    let many = are.count in
    let listed : fs < length content.table = omega arith in
    let is = are.each fs default listed in
    record {
      classes = record { value_at = is.classes.class_at; are = is.classes.are };
      verdicts = tell content fs are.all (get_or systems fs default) (sound.each fs listed) are.are_all is;
    }

pub systems_are_told_in_one_way : PlacesAreToldInOneWay → FileSystemsAreToldInOneWay → MapsAreToldInOneWay → OrdersTellVerdicts → CountsAreUnique → LinesAreToldInOneWay
    → SystemsAreToldInOneWay
systems_are_told_in_one_way places parts maps_told tell counts lines = record {
  waiting = waiting_in_one_way;
  widening = widening_in_one_way places.changes;
  maps = λ content systems maps others sound are own its. maps_in_one_way counts maps_told content systems (have_one_text tell content systems sound are) are.count maps others own its;
  decided = decided_in_one_way lines;
  told = have_one_text tell;
  texts = λ source found other fs systems text second each alike decided. all_texts places parts maps_told source found other alike decided fs systems text second each;
}
