-- What is told of the file systems of a site, with one more.
use Rattle.std.proofs.Common.{◌≡◌, ℕ, ◌+◌, ◌<◌, ◌++◌, ◌∙◌, List, [], ◌∷◌, ap, arith, get_or, inl, inr, length, map, refl, subst, sym}
use Rattle.std.specs.Prelude.{All, Bool}
use Rattle.std.proofs.lemmas.Bool.{cases_eq}
use Rattle.std.proofs.lemmas.List.{get_or-map, get_or_append_left, get_or_default, get_or_push, length-append, length-map}
use Rattle.desk_who.specs.Runs.{Run}
use Rattle.desk_impact.specs.Sections.{section_value}
use Rattle.desk_tables.specs.FileSystems.{fs_of}
use Rattle.desk_policy.specs.Policy.{Content}
use Rattle.desk_policy.specs.Verdict.{is_in}
use Rattle.page_data.specs.Classes.{AreClassesIn, AreClassesOfSite, AreClassesOn, class_run}
use Rattle.page_data.specs.Systems.{AreSystems, IsSystem, SystemValue, system_value}
use Rattle.page_data.specs.Values.{AreRunsOfSome}
use Rattle.page_data.specs.declared.class.Class.{Class}
use Rattle.page_data.specs.declared.lines.LineReasons.{LineReasons}
use Rattle.page_data.specs.declared.systems.FileSystemReport.{FileSystemReport}
use Rattle.page_findings.specs.Deciding.{AreDecidedFor, AreInLineOrder, AreSectionsOf, DecidedFor}
use Rattle.page_maps.specs.Figures.{AreOverviewMaps}
use Rattle.page_site.specs.FoundInSite.{AreDecidedOfSite, AreSmallMaps}

-- so many items, of each of which this holds at its place
pub record AreFirst {X : Type 0} (Is : ℕ → X → Type 0) (default : X) (count : ℕ) (items : List X) : Type 0 where
  pub many : length items ≡ count
  pub each : (place : ℕ) → place < count → Is place (get_or items place default)

pub first_none : {X : Type 0} (Is : ℕ → X → Type 0) (default : X) → AreFirst Is default 0 []
first_none Is default = record { many = refl; each = λ place within. absurd (omega arith) }

pub first_more : {X : Type 0} (Is : ℕ → X → Type 0) (default : X) (count : ℕ) (items new : List X) (one : X) → AreFirst Is default count items → new ≡ items ++ one ∷ [] → Is count one
    → AreFirst Is default (count + 1) new
first_more Is default count items new one so_far pushed told = record {
  many = ap length pushed ∙ length-append items (one ∷ []) ∙ ap (λ n. n + 1) so_far.many;
  each = λ place within. elim (cases_eq place count) as (λ _. Is place (get_or new place default)) [
    | inl last ↦ subst (λ n. Is n (get_or new n default)) (sym last) (subst (Is count) (sym (ap (λ xs. get_or xs count default) pushed ∙ get_or_push items one default count so_far.many)) told)
    | inr earlier ↦
        let below : place < count = omega arith in
        subst (Is place) (sym (ap (λ xs. get_or xs place default) pushed ∙ get_or_append_left items (one ∷ []) default place (omega (arith, so_far.many)))) (so_far.each place below)
  ];
}

-- which lines decide in a file system, given why its lines stand out
abbrev pub IsDecidedAt : Content → List (List LineReasons) → ℕ → List DecidedFor → Type 0
IsDecidedAt content reasons fs decided = AreDecidedFor content fs (get_or reasons fs []) decided

pub all_decided : (content : Content) (reasons : List (List LineReasons)) (count : ℕ) (decided : List (List DecidedFor)) → AreFirst (IsDecidedAt content reasons) [] count decided → count ≡ length content.table
    → AreDecidedOfSite content reasons decided
all_decided content reasons count decided so_far all = record { count = so_far.many ∙ all; each = λ fs within. so_far.each fs (omega (arith, all)) }

-- They stand in the order of their numbers, in each file system.
pub in_line_order : (content : Content) (reasons : List (List LineReasons)) (decided : List (List DecidedFor)) → AreDecidedOfSite content reasons decided → All AreInLineOrder decided
in_line_order content reasons decided are =
    λ place default within. subst AreInLineOrder (get_or_default decided place [] default within) (are.each place (omega (arith, are.count))).order

pub reasons_at : (reasons : List (List LineReasons)) (place : ℕ) (own : List LineReasons) → place < length reasons → own ≡ get_or reasons place own → own ≡ get_or reasons place []
reasons_at reasons place own within is = is ∙ get_or_default reasons place own [] within

-- the most that clients may on some paths comes in runs
pub some_runs : (content : Content) (is_here : List (List ℕ) → Bool) (runs : List (Run Class)) → AreClassesOn content is_here runs → AreRunsOfSome runs
some_runs content is_here runs are = record { value_at = are.class_at; are = are.are }

-- what is known of a file system
module _ (content : Content) (systems : List FileSystemReport) (are : AreSystems content (map system_value systems)) where
  pub as_many : length systems ≡ length content.table
  as_many = sym (length-map systems system_value) ∙ are.count

  pub found_at : (place : ℕ) (default : FileSystemReport) → place < length systems → IsSystem content are.all place (system_value (get_or systems place default))
  found_at place default within =
      let many = as_many in
      subst (IsSystem content are.all place) (get_or-map system_value systems place default (system_value default) within) (are.each place (system_value default) (omega arith))

  pub sections_at : (place : ℕ) (default : FileSystemReport) → place < length systems → AreSectionsOf content place (map section_value (get_or systems place default).sections)
  sections_at place default within = record { all = are.all; are_all = are.are_all; are = (found_at place default within).sections }

  pub classes_at : (place : ℕ) (system : FileSystemReport) → place < length systems → system ≡ get_or systems place system → AreRunsOfSome (map class_run system.classes)
  classes_at place system within is =
      some_runs content (λ path. is_in (fs_of content.table path) place) (map class_run system.classes)
      (subst (λ (one : FileSystemReport). AreClassesIn content place (map class_run one.classes)) (sym is) (found_at place system within).classes)

-- the small maps at a place: the first are those of all file systems together, and the others those of each
pub record AreMapsAt (classes : List (Run Class)) (systems : List SystemValue) (place : ℕ) (images : List (List ℕ)) : Type 0 where
  pub first : place ≡ 0 → AreOverviewMaps classes images
  pub later : (fs : ℕ) (default : SystemValue) → place ≡ fs + 1 → AreOverviewMaps (get_or systems fs default).classes images

pub maps_later : (classes : List (Run Class)) (systems : List FileSystemReport) (fs : ℕ) (system : FileSystemReport) (images : List (List ℕ)) → fs < length systems → system ≡ get_or systems fs system
    → AreOverviewMaps (map class_run system.classes) images → AreMapsAt classes (map system_value systems) (fs + 1) images
maps_later classes systems fs system images within is drawn = record {
  first = λ none. absurd (omega (arith, none));
  later = λ own default same.
      let this : fs ≡ own = omega (arith, same) in
      let value : system_value system ≡ get_or (map system_value systems) fs default = ap system_value is ∙ sym (get_or-map system_value systems fs system default within) in
      subst (λ n. AreOverviewMaps (get_or (map system_value systems) n default).classes images) this (subst (λ (one : SystemValue). AreOverviewMaps one.classes images) value drawn);
}

pub all_maps : (content : Content) (classes : List (Run Class)) (systems : List SystemValue) (count : ℕ) (maps : List (List (List ℕ))) → AreClassesOfSite content classes → AreFirst (AreMapsAt classes systems) [] (count + 1) maps
    → count ≡ length content.table → AreSmallMaps content systems maps
all_maps content classes systems count maps together so_far all = record {
  count = so_far.many ∙ ap (λ n. n + 1) all;
  classes = classes;
  together = together;
  first = (so_far.each 0 (omega arith)).first refl;
  each = λ fs default within. (so_far.each (fs + 1) (omega (arith, all))).later fs default refl;
}
