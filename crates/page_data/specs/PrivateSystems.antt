-- What the private contracts of systems cite.
use Rattle.std.specs.Prelude.{◌≡◌, ℕ, ◌<◌, List, filter, length}
use Rattle.desk_tables.specs.FileSystems.{AreAscending}
use Rattle.desk_policy.specs.Policy.{Content}
use Rattle.desk_impact.specs.Sections.{PlaceBreaches}
use Rattle.page_data.specs.Sections.{AreSections, is_section_in}

-- of the sections of all places, those of a file system
pub record IsOwnOf (content : Content) (fs : ℕ) (all own : List PlaceBreaches) : Type 0 where
  pub ascending : AreAscending content.table
  pub listed : fs < length content.table
  pub are_all : AreSections content all
  pub are : own ≡ filter (is_section_in content.table fs) all
