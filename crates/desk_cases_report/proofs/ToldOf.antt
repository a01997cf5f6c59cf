-- What is told of each file system of a site, and the path `/`.
use Rattle.std.proofs.Common.{◌≡◌, ◌<◌, ◌∙◌, ℕ, List, [], Result, Ok, Err, ap, arith, codes, get_or, length, map, subst, sym}
use Rattle.std.proofs.lemmas.List.{get_or-map, length-map}
use Rattle.desk_text.specs.Path.{read_path}
use Rattle.desk_impact.specs.Sections.{section_value}
use Rattle.desk_policy.specs.Policy.{Content}
use Rattle.page_data.specs.Classes.{class_run}
use Rattle.page_data.specs.Laws.{IsSoundSite, OrdersTellVerdicts, TellVerdicts}
use Rattle.page_data.specs.Systems.{AreSystems, IsSystem, system_value}
use Rattle.page_data.specs.Values.{AreRunsOfSome}
use Rattle.page_data.specs.declared.systems.FileSystemReport.{FileSystemReport}

abbrev value_or : {X F : Type 0} → X → Result X F → X
value_or other (Ok value) = value
value_or other (Err fault) = other

-- The path `/` has no component.
pub is_root : (root : List (List ℕ)) → read_path (codes "/") ≡ Ok root → root ≡ []
is_root root is = sym (ap (value_or []) is)

module _ (content : Content) (systems : List FileSystemReport) (are : AreSystems content (map system_value systems)) (fs : ℕ) (system : FileSystemReport) (within : fs < length systems)
    (is : system ≡ get_or systems fs system) where
  pub listed : fs < length content.table
  listed = (let few = length-map systems system_value in let count = are.count in omega arith)

  -- what is found of a file system
  pub found : IsSystem content are.all fs (system_value system)
  found = subst (IsSystem content are.all fs) (get_or-map system_value systems fs system (system_value system) within ∙ ap system_value (sym is)) (are.each fs (system_value system) listed)

  pub some_runs : AreRunsOfSome (map class_run system.classes)
  some_runs = record { value_at = found.classes.class_at; are = found.classes.are }

  pub told : OrdersTellVerdicts → IsSoundSite content → TellVerdicts (map section_value system.sections)
  told orders sound = orders content fs are.all (system_value system) (sound.each fs listed) are.are_all found
