-- The verdicts at each place of a site. (this project's own)
use Rattle.std.specs.Prelude.{ℕ, All, Bool, List, [], map}
use Rattle.desk_tables.specs.FileSystems.{fs_of}
use Rattle.desk_tables.specs.declared.filesystems.Mount.{Mount}
use Rattle.desk_policy.specs.Policy.{Content}
use Rattle.desk_policy.specs.Verdict.{is_in}
use Rattle.desk_who.specs.Runs.{AreRuns}
use Rattle.desk_impact.specs.Places.{Directory, Others, Place, place_verdict}
use Rattle.desk_impact.specs.Sections.{ArePlacesBelow, PlaceBreaches}

-- all verdicts at a place, by ranges
abbrev pub AreVerdictsAt : Content → PlaceBreaches → Type 0
AreVerdictsAt content section = AreRuns (λ address. place_verdict content section.place address) section.ranges

-- The places of all directories, by mount point in byte order: itself, the directories that lines write below it, and its other
-- directories; with all verdicts at each of them.
pub record AreSections (content : Content) (sections : List PlaceBreaches) : Type 0 where
  pub places : ArePlacesBelow content [] (map (λ section. section.place) sections)
  pub verdicts : All (AreVerdictsAt content) sections

-- the path of a place: that of the directory, or the mount point
abbrev pub path_at : Place → List (List ℕ)
path_at (Directory path) = path
path_at (Others mount) = mount

-- the section is of a place in a file system
abbrev pub is_section_in : List Mount → ℕ → PlaceBreaches → Bool
is_section_in table fs section = is_in (fs_of table (path_at section.place)) fs
