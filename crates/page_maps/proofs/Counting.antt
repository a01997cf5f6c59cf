-- What is counted on the file systems so far.
use Rattle.std.proofs.Common.{◌≡◌, ℕ, ◌+◌, ◌<◌, ◌++◌, ◌∙◌, List, [], ◌∷◌, arith, get_or, inl, inr, length, map, refl, subst, sym}
use Rattle.std.proofs.lemmas.Bool.{cases_lt}
use Rattle.std.proofs.lemmas.List.{get_or-map, get_or_append_left, get_or_push, length-append, length-map}
use Rattle.desk_text.specs.Network.{Block}
use Rattle.desk_policy.specs.Policy.{Content}
use Rattle.page_data.specs.Classes.{AreClassesIn, class_run}
use Rattle.page_data.specs.Systems.{AreSystems, SystemValue, system_value}
use Rattle.page_data.specs.Values.{AreRunsOfSome}
use Rattle.page_data.specs.declared.systems.FileSystemReport.{FileSystemReport}
use Rattle.page_maps.specs.NetworkRows.{AreCountsOfSite, IsCountedIn}
use Rattle.page_maps.specs.declared.networks.SystemCounts.{SystemCounts}

-- what is counted on the first so many file systems
pub record AreCountsOfFirst (content : Content) (network : Block) (done : ℕ) (counted : List SystemCounts) : Type 0 where
  pub many : length counted ≡ done
  pub each : (fs : ℕ) (default : SystemCounts) → fs < done → IsCountedIn content network fs (get_or counted fs default)

module _ (content : Content) (network : Block) where
  pub counts_none : AreCountsOfFirst content network 0 []
  counts_none = record { many = refl; each = λ fs default within. absurd (omega arith) }

  pub counts_more : (done : ℕ) (counted new : List SystemCounts) (one : SystemCounts) → AreCountsOfFirst content network done counted → new ≡ counted ++ one ∷ [] → IsCountedIn content network done one
      → AreCountsOfFirst content network (done + 1) new
  counts_more done counted new one so_far pushed own =
      subst (AreCountsOfFirst content network (done + 1)) (sym pushed) (record {
        many = (let more = length-append counted (one ∷ []) in let n = so_far.many in omega arith);
        each = λ fs default within. elim (cases_lt fs done) as (λ _. IsCountedIn content network fs (get_or (counted ++ one ∷ []) fs default)) [
          | inl before ↦ subst (IsCountedIn content network fs) (sym (get_or_append_left counted (one ∷ []) default fs (let n = so_far.many in omega arith))) (so_far.each fs default before)
          | inr last ↦
              let same : done ≡ fs = omega arith in
              subst (IsCountedIn content network fs) (sym (get_or_push counted one default fs (so_far.many ∙ same))) (subst (λ n. IsCountedIn content network n one) same own)
        ];
      })

  pub all_counts : (done : ℕ) (counted : List SystemCounts) → AreCountsOfFirst content network done counted → done ≡ length content.table → AreCountsOfSite content network counted
  all_counts done counted so_far all = record { count = so_far.many ∙ all; each = λ fs default within. so_far.each fs default (omega arith) }

-- what is known of a file system
module _ (content : Content) (systems : List FileSystemReport) (are : AreSystems content (map system_value systems)) where
  pub as_many : length systems ≡ length content.table
  as_many = sym (length-map systems system_value) ∙ are.count

  pub classes_at : (fs : ℕ) (system : FileSystemReport) → fs < length content.table → system ≡ get_or systems fs system → AreClassesIn content fs (map class_run system.classes)
  classes_at fs system within is =
      subst (λ (some : FileSystemReport). AreClassesIn content fs (map class_run some.classes)) (sym is)
      (subst (λ (value : SystemValue). AreClassesIn content fs value.classes) (get_or-map system_value systems fs system (system_value system) (let many = as_many in omega arith))
      (are.each fs (system_value system) within).classes)

  pub runs_at : (fs : ℕ) (system : FileSystemReport) → fs < length content.table → system ≡ get_or systems fs system → AreRunsOfSome (map class_run system.classes)
  runs_at fs system within is = (let own = classes_at fs system within is in record { value_at = own.class_at; are = own.are })
