-- What is found of each file system of a site. (this project's own)
use Rattle.std.specs.Prelude.{◌≡◌, ℕ, ◌<◌, List, filter, length, map, slice_index_or}
use Rattle.desk_policy.specs.Policy.{Content}
use Rattle.desk_who.specs.Runs.{Run}
use Rattle.desk_impact.specs.Sections.{PlaceBreaches, section_value}
use Rattle.page_data.specs.Classes.{AreClassesIn, class_run}
use Rattle.page_data.specs.Grants.{AreGrants}
use Rattle.page_data.specs.Sections.{AreSections, is_section_in}
use Rattle.page_data.specs.declared.class.Class.{Class}
use Rattle.page_data.specs.declared.grants.LineGrants.{LineGrants}
use Rattle.page_data.specs.declared.systems.FileSystemReport.{FileSystemReport}

-- all verdicts at the places of a file system, the most that clients may on it, and to how many addresses each of its lines grants
-- something
pub record SystemValue : Type 0 where
  pub sections : List PlaceBreaches
  pub classes : List (Run Class)
  pub grants : List LineGrants

abbrev pub system_value : FileSystemReport → SystemValue
system_value system = record { sections = map section_value system.sections; classes = map class_run system.classes; grants = system.grants }

-- this is found of a file system, given the sections of all places
pub record IsSystem (content : Content) (all : List PlaceBreaches) (fs : ℕ) (system : SystemValue) : Type 0 where
  pub sections : system.sections ≡ filter (is_section_in content.table fs) all
  pub classes : AreClassesIn content fs system.classes
  pub grants : AreGrants content fs system.grants

-- What is found of each file system, in the order of their table.
pub record AreSystems (content : Content) (systems : List SystemValue) : Type 0 where
  pub all : List PlaceBreaches
  pub are_all : AreSections content all
  pub count : length systems ≡ length content.table
  pub each : (fs : ℕ) (default : SystemValue) → fs < length content.table → IsSystem content all fs (slice_index_or systems fs default)
