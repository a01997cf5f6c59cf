-- The rows of file systems, with one more.
use Rattle.std.proofs.Common.{◌≡◌, ℕ, ◌+◌, ◌<◌, ◌++◌, ◌∙◌, List, [], ◌∷◌, ap, arith, get_or, inl, inr, length, map, refl, subst, sym}
use Rattle.std.proofs.lemmas.Bool.{cases_eq}
use Rattle.std.proofs.lemmas.List.{get_or-map, get_or_append_left, get_or_push, length-append}
use Rattle.page_findings.proofs.Adding.{as_many}
use Rattle.desk_policy.specs.Policy.{Content}
use Rattle.page_data.specs.Classes.{AreClassesIn, class_run}
use Rattle.page_data.specs.Systems.{AreSystems, SystemValue, system_value}
use Rattle.page_data.specs.Values.{AreRunsOfSome}
use Rattle.page_data.specs.declared.systems.FileSystemReport.{FileSystemReport}
use Rattle.page_summary.specs.declared.overview.SystemRow.{SystemRow}
use Rattle.page_summary.specs.SystemRows.{AreSystemRows, IsRowOf, SiteParts}

-- those of the first so many file systems
pub record AreFirstRows (site : SiteParts) (count : ℕ) (rows : List SystemRow) : Type 0 where
  pub many : length rows ≡ count
  pub each : (place : ℕ) (default : SystemRow) → place < count → IsRowOf site place (get_or rows place default)

pub rows_none : (site : SiteParts) → AreFirstRows site 0 []
rows_none site = record { many = refl; each = λ place default within. absurd (omega arith) }

pub rows_more : (site : SiteParts) (count : ℕ) (rows new : List SystemRow) (row : SystemRow) → AreFirstRows site count rows → new ≡ rows ++ row ∷ [] → IsRowOf site count row
    → AreFirstRows site (count + 1) new
rows_more site count rows new row so_far pushed told = record {
  many = ap length pushed ∙ length-append rows (row ∷ []) ∙ ap (λ n. n + 1) so_far.many;
  each = λ place default within. elim (cases_eq place count) as (λ _. IsRowOf site place (get_or new place default)) [
    | inl last ↦ subst (λ n. IsRowOf site n (get_or new n default)) (sym last)
        (subst (IsRowOf site count) (sym (ap (λ rs. get_or rs count default) pushed ∙ get_or_push rows row default count so_far.many)) told)
    | inr earlier ↦
        let below : place < count = omega arith in
        subst (IsRowOf site place)
        (sym (ap (λ rs. get_or rs place default) pushed ∙ get_or_append_left rows (row ∷ []) default place (omega (arith, so_far.many))))
        (so_far.each place default below)
  ];
}

pub rows_all : (site : SiteParts) (count : ℕ) (rows : List SystemRow) → AreFirstRows site count rows → count ≡ length site.content.table → AreSystemRows site rows
rows_all site count rows so_far all = record { count = so_far.many ∙ all; each = λ place default within. so_far.each place default (omega (arith, so_far.many)) }

-- the most that addresses may on a file system are runs of some function of addresses
pub runs_of_some : (content : Content) (systems : List FileSystemReport) → AreSystems content (map system_value systems) → (place : ℕ) (one : FileSystemReport)
    → place < length systems → one ≡ get_or systems place one → AreRunsOfSome (map class_run one.classes)
runs_of_some content systems are place one within is =
    let many = as_many content systems are in
    let classes : AreClassesIn content place (map class_run one.classes) =
    subst (λ (value : SystemValue). AreClassesIn content place value.classes)
    (get_or-map system_value systems place one (system_value one) within ∙ ap system_value (sym is))
    (are.each place (system_value one) (omega arith)).classes in
    record { value_at = classes.class_at; are = classes.are }
