-- What the private contracts of sections cite.
use Rattle.std.specs.Prelude.{ℕ, ◌∷◌, ◌++◌, List, [], Option, Some, None, length, nat_lt, slice_index_or, slice_set, if◌then◌else◌}
use Rattle.desk_tables.specs.FileSystems.{fs_of}
use Rattle.desk_tables.specs.declared.filesystems.Mount.{Mount}
use Rattle.desk_impact.specs.Sections.{PlaceBreaches}
use Rattle.page_data.specs.Sections.{path_at}

-- the lists, of which the one at this place, if there is one, has one more section
abbrev pub with_section_at : Option ℕ → List (List PlaceBreaches) → PlaceBreaches → List (List PlaceBreaches)
with_section_at None lists section = lists
with_section_at (Some fs) lists section = if nat_lt fs (length lists) then slice_set lists fs (slice_index_or lists fs [] ++ section ∷ []) else lists

-- the lists, with one more section in that of its file system
abbrev pub with_section : List Mount → List (List PlaceBreaches) → PlaceBreaches → List (List PlaceBreaches)
with_section table lists section = with_section_at (fs_of table (path_at section.place)) lists section
