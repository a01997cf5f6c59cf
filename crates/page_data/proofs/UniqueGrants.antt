-- Each line grants something to one number of addresses, and each file system has one report.
use Rattle.std.proofs.Common.{◌≡◌, ℕ, ◌<◌, ◌∙◌, List, [], ap, arith, ext_get_or, get_or, length, subst, sym}
use Rattle.std.specs.Prelude.{Result}
use Rattle.desk_policy.specs.Policy.{Content}
use Rattle.desk_policy.specs.Verdict.{Grant, is_in}
use Rattle.desk_policy.specs.declared.verdict.Denial.{Denial}
use Rattle.desk_tables.specs.FileSystems.{fs_of}
use Rattle.desk_who.specs.Runs.{Run, RunsAreUnique}
use Rattle.desk_impact.specs.Sections.{PlaceBreaches}
use Rattle.page_data.specs.Grants.{AreGrants, GrantsTo, HoldsOf, IsCountOf}
use Rattle.page_data.specs.Systems.{AreSystems, IsSystem, SystemValue}
use Rattle.page_data.specs.Unique.{GrantsAreUnique}
use Rattle.page_data.specs.declared.class.Class.{Class}
use Rattle.page_data.specs.declared.grants.LineGrants.{LineGrants}
use Rattle.page_data.proofs.Agreeing.{classes_are_unique}
use Rattle.page_data.proofs.OneOrder.{each_one}
use Rattle.page_data.proofs.UniqueCounts.{one_amount}
use Rattle.page_data.proofs.UniquePlaces.{one_list_of_sections}

-- ---- grants of lines
abbrev granting : ℕ → ℕ → LineGrants
granting line count = record { line = line; count = count }

module _ (content : Content) (fs : ℕ) where
  abbrev line_in : LineGrants → ℕ
  line_in one = one.line

  one_grant : (one other : LineGrants) → line_in one ≡ line_in other → IsCountOf content fs one → IsCountOf content fs other → one ≡ other
  one_grant one other same are its =
      ap (λ n. granting n one.count) same
      ∙ ap (λ n. granting other.line n)
      (one_amount (GrantsTo content fs one.line) one.count other.count are (subst (λ n. HoldsOf (GrantsTo content fs n) other.count) (sym same) its))

  pub one_list_of_grants : (found others : List LineGrants) → AreGrants content fs found → AreGrants content fs others → found ≡ others
  one_list_of_grants found others are its = each_one line_in (IsCountOf content fs) one_grant found others (are.lines ∙ sym its.lines) are.counts its.counts

-- ---- reports of file systems
abbrev system_with : List PlaceBreaches → List (Run Class) → List LineGrants → SystemValue
system_with sections classes grants = record { sections = sections; classes = classes; grants = grants }

module _ (unique : RunsAreUnique (Result Grant Denial)) (unique' : RunsAreUnique Class) (content : Content) where
  one_system : (all : List PlaceBreaches) (fs : ℕ) (system other : SystemValue) → IsSystem content all fs system → IsSystem content all fs other → system ≡ other
  one_system all fs system other are its =
      ap (λ (sections : List PlaceBreaches). system_with sections system.classes system.grants) (are.sections ∙ sym its.sections)
      ∙ ap (λ (classes : List (Run Class)). system_with other.sections classes system.grants)
      (sym (classes_are_unique unique' content (λ path. is_in (fs_of content.table path) fs) system.classes other.classes are.classes its.classes))
      ∙ ap (λ (grants : List LineGrants). system_with other.sections other.classes grants) (one_list_of_grants content fs system.grants other.grants are.grants its.grants)

  one_list_of_systems : (systems others : List SystemValue) → AreSystems content systems → AreSystems content others → systems ≡ others
  one_list_of_systems systems others are its =
      let none : SystemValue = system_with [] [] [] in
      let same = one_list_of_sections unique content are.all its.all are.are_all its.are_all in
      ext_get_or none systems others (are.count ∙ sym its.count)
      (λ i within.
      let listed : i < length content.table = (let long = are.count in omega arith) in
      one_system are.all i (get_or systems i none) (get_or others i none) (are.each i none listed)
      (subst (λ (all : List PlaceBreaches). IsSystem content all i (get_or others i none)) (sym same) (its.each i none listed)))

pub grants_are_unique : RunsAreUnique (Result Grant Denial) → RunsAreUnique Class → GrantsAreUnique
grants_are_unique unique unique' = record {
  count = λ content fs line. one_amount (GrantsTo content fs line);
  grants = one_list_of_grants;
  systems = one_list_of_systems unique unique';
}
