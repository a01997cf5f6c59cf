-- There is one list of the small maps of a site, and one of the lines that decide in place of those that never do.
use Rattle.std.proofs.Common.{◌≡◌, ℕ, zero, suc, ◌+◌, ◌<◌, ◌∙◌, true, List, [], ap, arith, get_or, length, subst, sym}
use Rattle.std.specs.Prelude.{All}
use Rattle.std.proofs.lemmas.List.{ext_get_or, get_or-map}
use Rattle.desk_policy.specs.Policy.{Content}
use Rattle.desk_who.specs.Runs.{Run}
use Rattle.page_data.specs.Laws.{IsSoundSite}
use Rattle.page_data.specs.Systems.{SystemValue}
use Rattle.page_data.specs.ReasonValues.{ReasonsValue}
use Rattle.page_data.specs.Unique.{CountsAreUnique}
use Rattle.page_data.specs.Values.{AreRunsOfSome}
use Rattle.page_data.specs.declared.class.Class.{Class}
use Rattle.page_data.specs.declared.lines.LineReasons.{LineReasons}
use Rattle.page_findings.specs.Deciding.{DecidedFor}
use Rattle.page_findings.specs.Lines.{AreReasonsOfSite}
use Rattle.page_findings.specs.UniqueLaws.{LinesAreToldInOneWay, known_reasons}
use Rattle.page_maps.specs.Figures.{AreOverviewMaps}
use Rattle.page_maps.specs.Laws.{MapsAreToldInOneWay}
use Rattle.page_site.specs.FoundInSite.{AreDecidedOfSite, AreSmallMaps}
use Rattle.page_site.specs.UniqueLaws.{HasOneText}

module _ (counts : CountsAreUnique) (maps_told : MapsAreToldInOneWay) (content : Content) (systems : List SystemValue) (each : All HasOneText systems)
    (many : length systems ≡ length content.table) (maps others : List (List (List ℕ))) (are : AreSmallMaps content systems maps) (its : AreSmallMaps content systems others) where
  abbrev no_system : SystemValue
  no_system = record { sections = []; classes = []; grants = [] }

  map_of : (i : ℕ) → i < length maps → get_or maps i [] ≡ get_or others i []
  map_of zero within =
      let together = counts.classes content (λ path. true) are.classes its.classes are.together its.together in
      let some : AreRunsOfSome are.classes = record { value_at = are.together.class_at; are = are.together.are } in
      (maps_told are.classes some).in_overview (get_or maps 0 []) (get_or others 0 []) are.first
      (subst (λ (runs : List (Run Class)). AreOverviewMaps runs (get_or others 0 [])) (sym together) its.first)
  map_of (suc fs) within =
      let count = are.count in
      let listed : fs < length content.table = omega arith in
      let next : fs + 1 ≡ suc fs = omega arith in
      let system = get_or systems fs no_system in
      let one = each fs no_system (omega arith) in
      subst (λ n. get_or maps n [] ≡ get_or others n []) next
      ((maps_told system.classes one.classes).in_overview (get_or maps (fs + 1) []) (get_or others (fs + 1) []) (are.each fs no_system listed) (its.each fs no_system listed))

  pub maps_in_one_way : maps ≡ others
  maps_in_one_way = ext_get_or [] maps others (are.count ∙ sym its.count) map_of

module _ (lines : LinesAreToldInOneWay) (content : Content) (reasons others : List (List LineReasons)) (found second : List (List DecidedFor)) (sound : IsSoundSite content)
    (reasons_are : AreReasonsOfSite content reasons) (others_are : AreReasonsOfSite content others) (are : AreDecidedOfSite content reasons found) (its : AreDecidedOfSite content others second) where
  decided_in : (fs : ℕ) → fs < length found → get_or found fs [] ≡ get_or second fs []
  decided_in fs within =
      let count = are.count in
      let own = reasons_are.count in
      let too = others_are.count in
      let listed : fs < length content.table = omega arith in
      let alike = lines.reasons content reasons others sound reasons_are others_are in
      let same : known_reasons (get_or reasons fs []) ≡ known_reasons (get_or others fs []) =
      sym (get_or-map known_reasons reasons fs [] [] (omega arith)) ∙ ap (λ (all : List (List ReasonsValue)). get_or all fs []) alike
      ∙ get_or-map known_reasons others fs [] [] (omega arith) in
      lines.decided content fs (get_or reasons fs []) (get_or others fs []) (get_or found fs []) (get_or second fs []) (sound.each fs listed) same (are.each fs listed) (its.each fs listed)

  pub decided_in_one_way : found ≡ second
  decided_in_one_way = ext_get_or [] found second (are.count ∙ sym its.count) decided_in
