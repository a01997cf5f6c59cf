-- The overview is told in one way.
use Rattle.std.proofs.Common.{◌≡◌, ℕ, zero, suc, ◌+◌, ◌-◌, ◌^◌, ◌<◌, ◌==◌, ◌&&◌, ◌++◌, ◌∙◌, not, true, Bool, List, [], ◌∷◌, Option, Some, ap, arith, get_or, length, map, not-suc-le-zero, refl, sym, slice_get, subst, unwrap_or}
use Rattle.std.specs.Prelude.{count_by}
use Rattle.std.proofs.lemmas.List.{ext_get_or, get_or-map, length-map}
use Rattle.desk_tables.specs.declared.filesystems.Mount.{Mount}
use Rattle.desk_text.specs.Path.{path_text}
use Rattle.desk_who.specs.Runs.{Run}
use Rattle.page_data.specs.Counts.{granted_of}
use Rattle.page_data.specs.Reasons.{is_first_level}
use Rattle.page_data.specs.Systems.{AreSystems, SystemValue}
use Rattle.page_data.specs.ReasonValues.{ReasonsValue, reason_value, reasons_value}
use Rattle.page_data.specs.Unique.{WhatIsFoundIsUnique}
use Rattle.page_data.specs.Values.{AreRunsOfSome}
use Rattle.page_data.specs.declared.class.Class.{Class}
use Rattle.page_data.specs.declared.lines.LineReasons.{LineReasons}
use Rattle.page_html.specs.Blocks.{tag_html}
use Rattle.page_html.specs.Tables.{rows_html, short_row_html}
use Rattle.page_html.specs.declared.blocks.Tag.TheVariants.{TableEnd}
use Rattle.page_findings.specs.UniqueLaws.{AllHaveLikeReasons, known_reasons}
use Rattle.page_findings.proofs.Alike.{level_known, level_of_known}
use Rattle.page_findings.proofs.Mapped.{count_mapped}
use Rattle.page_lists.proofs.Lent.{lend}
use Rattle.page_summary.specs.Files.{file_of, has_proposal, newest_of}
use Rattle.page_summary.specs.Overview.{any_cells, any_with, cells, cells_with, legend, overview_frame, overview_start}
use Rattle.page_summary.specs.Reaching.{IsReachOf, MaySomething}
use Rattle.page_summary.specs.SystemRows.{AreOverviewRows, AreSystemRows, IsRowOf, OverviewRows, SiteParts, is_check_line, is_first_line, overview_text}
use Rattle.page_summary.specs.UniqueLaws.{with_reasons}
use Rattle.page_summary.specs.declared.overview.Reach.{Reach}
use Rattle.page_summary.specs.declared.overview.SystemRow.{SystemRow}

some_is : {X : Type 0} (x y : X) → Some x ≡ Some y → x ≡ y
some_is {X = X} x y same = ap (λ (o : Option X). unwrap_or o x) same

may_of_runs : WhatIsFoundIsUnique → (runs : List (Run Class)) (count other : ℕ) → AreRunsOfSome runs → MaySomething runs count → MaySomething runs other → count ≡ other
may_of_runs unique runs count other some may its =
    may.count_is ∙ ap granted_of (unique.counts.counts_from runs 0 (2 ^ 32 - 1) may.counts its.counts some may.are its.are) ∙ sym its.count_is

one_any_row : WhatIsFoundIsUnique → (runs : List (Run Class)) (maps : List (List ℕ)) (reach other : Reach) → AreRunsOfSome runs → IsReachOf runs maps reach
    → IsReachOf runs maps other → any_cells reach ≡ any_cells other
one_any_row unique runs maps reach other some is its =
    let drawn = is.maps_are ∙ sym its.maps_are in
    λ i. any_with (drawn i) (record {
      most = (is.most ∙ sym its.most) i;
      maps = reach.maps;
      addresses = may_of_runs unique runs reach.addresses other.addresses some is.addresses its.addresses i;
    })

-- a list at a place
got : {X : Type 0} (xs : List X) (place : ℕ) (x : X) → slice_get xs place ≡ Some x → get_or xs place x ≡ x
got [] place x is = refl
got (y ∷ ys) zero x is = some_is y x is
got (y ∷ ys) (suc place) x is = got ys place x is

reasons_at : (reasons : List (List LineReasons)) (place : ℕ) → get_or (map known_reasons reasons) place [] ≡ known_reasons (get_or reasons place [])
reasons_at [] place = refl
reasons_at (one ∷ reasons) zero = refl
reasons_at (one ∷ reasons) (suc place) = reasons_at reasons place

abbrev first_by : ReasonsValue → Bool
first_by one = is_first_level (level_of_known one.reasons)

abbrev check_by : ReasonsValue → Bool
check_by one = not (length one.reasons == 0) && not (first_by one)

counted_first : (reasons : List LineReasons) → count_by is_first_line reasons ≡ count_by first_by (known_reasons reasons)
counted_first reasons =
    let by_value : is_first_line ≡ (λ (one : LineReasons). first_by (reasons_value one)) = λ i one. is_first_level (level_known one.reasons i) in
    ap (λ test. count_by test reasons) by_value ∙ count_mapped reasons_value first_by reasons

counted_check : (reasons : List LineReasons) → count_by is_check_line reasons ≡ count_by check_by (known_reasons reasons)
counted_check reasons =
    let by_value : is_check_line ≡ (λ (one : LineReasons). check_by (reasons_value one)) =
    λ i one. not (sym (length-map one.reasons reason_value) i == 0) && not (is_first_level (level_known one.reasons i)) in
    ap (λ test. count_by test reasons) by_value ∙ count_mapped reasons_value check_by reasons

module _ (unique : WhatIsFoundIsUnique) (site : SiteParts) (reasons : List (List LineReasons)) (systems : AreSystems site.content site.systems) (alike : AllHaveLikeReasons site.reasons reasons) where
  runs_of : (place : ℕ) → place < length site.content.table → (system : SystemValue) → slice_get site.systems place ≡ Some system → AreRunsOfSome system.classes
  runs_of place within system found =
      let classes = (systems.each place system within).classes in
      subst (λ (s : SystemValue). AreRunsOfSome s.classes) (got site.systems place system found) (record { value_at = classes.class_at; are = classes.are })

  same_reasons : (place : ℕ) → known_reasons (get_or site.reasons place []) ≡ known_reasons (get_or reasons place [])
  same_reasons place = sym (reasons_at site.reasons place) ∙ ap (λ all. get_or all place []) alike ∙ reasons_at reasons place

  alike_counted : (by_value : ReasonsValue → Bool) (test : LineReasons → Bool)
      → ((lines : List LineReasons) → count_by test lines ≡ count_by by_value (known_reasons lines)) → (place : ℕ)
      → count_by test (get_or site.reasons place []) ≡ count_by test (get_or reasons place [])
  alike_counted by_value test counted place =
      counted (get_or site.reasons place []) ∙ ap (count_by by_value) (same_reasons place) ∙ sym (counted (get_or reasons place []))

  one_row : (place : ℕ) (system other : SystemRow) → place < length site.content.table → IsRowOf site place system → IsRowOf (with_reasons site reasons) place other → cells system ≡ cells other
  one_row place system other within is its =
      let mount : is.mount ≡ its.mount = some_is is.mount its.mount (sym is.listed ∙ its.listed) in
      let found : is.system ≡ its.system = some_is is.system its.system (sym is.found ∙ its.found) in
      let reach = subst (λ (s : SystemValue). IsReachOf s.classes (get_or site.maps (place + 1) []) other.reach) (sym found) its.reach in
      let some = runs_of place within is.system is.found in
      let drawn = is.reach.maps_are ∙ sym reach.maps_are in
      let head = is.head ∙ ap (newest_of site.heads) mount ∙ sym its.head in
      λ i. cells_with (drawn i) (head i) (record {
        fs = record { 0 = (is.fs ∙ sym its.fs) i };
        name = lend ((is.name ∙ ap (λ (m : Mount). path_text m.path) mount ∙ sym its.name) i);
        reach = record {
          most = (is.reach.most ∙ sym reach.most) i;
          maps = system.reach.maps;
          addresses = may_of_runs unique is.system.classes system.reach.addresses other.reach.addresses some is.reach.addresses reach.addresses i;
        };
        custodians = lend ((is.custodians ∙ ap (λ (m : Mount). m.custodians) mount ∙ sym its.custodians) i);
        guarded = (is.guarded ∙ ap (λ (m : Mount). m.guarded) mount ∙ sym its.guarded) i;
        head = system.head;
        has_proposal = (is.waits ∙ ap (λ (m : Mount). has_proposal site.proposals (file_of m)) mount ∙ sym its.waits) i;
        first = (is.first ∙ alike_counted first_by is_first_line counted_first place ∙ sym its.first) i;
        check = (is.check ∙ alike_counted check_by is_check_line counted_check place ∙ sym its.check) i;
      })

  all_rows : (rows others : List SystemRow) → AreSystemRows site rows → AreSystemRows (with_reasons site reasons) others → map cells rows ≡ map cells others
  all_rows rows others are its =
      ext_get_or [] (map cells rows) (map cells others) (length-map rows cells ∙ are.count ∙ sym its.count ∙ sym (length-map others cells)) (at rows others are its)
    where
      at : (rows others : List SystemRow) → AreSystemRows site rows → AreSystemRows (with_reasons site reasons) others → (place : ℕ) → place < length (map cells rows)
          → get_or (map cells rows) place [] ≡ get_or (map cells others) place []
      at [] others are its place inside = absurd (not-suc-le-zero inside)
      at (one ∷ rows) others are its place inside =
          let many = length-map (one ∷ rows) cells in
          let own : length (one ∷ rows) ≡ length site.content.table = are.count in
          let as_many : length others ≡ length site.content.table = its.count in
          get_or-map cells (one ∷ rows) place one [] (omega arith)
          ∙ one_row place (get_or (one ∷ rows) place one) (get_or others place one) (omega arith) (are.each place one (omega arith)) (its.each place one (omega arith))
          ∙ sym (get_or-map cells others place one [] (omega arith))

pub one_overview : WhatIsFoundIsUnique → (site : SiteParts) (reasons : List (List LineReasons)) (made other : OverviewRows) → AreSystems site.content site.systems
    → AllHaveLikeReasons site.reasons reasons → AreOverviewRows site made → AreOverviewRows (with_reasons site reasons) other → overview_text made ≡ overview_text other
one_overview unique site reasons made other systems alike are its =
    let classes = unique.counts.classes site.content (λ path. true) its.classes are.classes its.are_classes are.are_classes in
    let together = subst (λ (runs : List (Run Class)). IsReachOf runs (get_or site.maps 0 []) other.together) classes its.together in
    let some : AreRunsOfSome are.classes = record { value_at = are.are_classes.class_at; are = are.are_classes.are } in
    let first = one_any_row unique are.classes (get_or site.maps 0 []) made.together other.together some are.together together in
    let all = all_rows unique site reasons systems alike made.rows other.rows are.rows its.rows in
    λ i. legend ++ overview_start ++ short_row_html overview_frame (first i) ++ rows_html overview_frame (all i) ++ tag_html TableEnd
