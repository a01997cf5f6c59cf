-- Who may mount directories that are granted alike. (this project's own)
use Rattle.std.specs.Prelude.{ℕ, ◌==◌, List, [], ◌∷◌, ◌++◌, codes, if◌then◌else◌}
use Rattle.std.specs.List.{flat_map}
use Rattle.std.specs.String.{string_bytes}
use Rattle.desk_impact.specs.Sections.{PlaceBreaches}
use Rattle.page_data.specs.Groups.{group_value}
use Rattle.page_html.specs.Blocks.{element_html, tag_html}
use Rattle.page_html.specs.Items.{Own, Words}
use Rattle.page_html.specs.declared.blocks.Element.TheVariants.{Paragraph}
use Rattle.page_html.specs.declared.blocks.Tag.TheVariants.{PlaceStart, SectionEnd}
use Rattle.page_places.specs.Names.{MembersValue, heading, members_in}
use Rattle.page_places.specs.Openings.{openings_text}
use Rattle.page_places.specs.Tables.{HasSizes, TableValue, granting, table_block, told_value}
use Rattle.page_places.specs.declared.groups.GroupPart.{GroupPart}
use Rattle.page_places.specs.declared.openings.PlaceOpening.{PlaceOpening}

-- nobody may mount them: such a group is never one directory alone, since who may mount the other directories may mount each, and so
-- they are in it too
abbrev pub nobody : List ℕ
nobody = element_html Paragraph (Own (Words (codes "Nobody may mount them.")) ∷ [])

-- the maps, which are HTML, and who may mount the directories
abbrev pub maps_and_table : ℕ → MembersValue → List ℕ → TableValue → List ℕ
maps_and_table fs members maps told = maps ++ table_block fs members told

-- or that nobody may mount them
abbrev pub who_block : ℕ → MembersValue → List ℕ → TableValue → List ℕ
who_block fs members maps told = if granting told.rows == 0 then nobody else maps_and_table fs members maps told

-- all of it, given what is in the group
abbrev pub group_by : ℕ → MembersValue → List ℕ → TableValue → List PlaceOpening → List ℕ
group_by fs members maps told openings =
    tag_html PlaceStart ++ heading members ++ who_block fs members maps told ++ openings_text fs openings ++ tag_html SectionEnd

-- Who may mount directories of a file system that are granted alike, with their maps, if they are drawn, and with what the server grants
-- of that which is denied.
abbrev pub group_block : ℕ → List PlaceBreaches → List ℕ → TableValue → List PlaceOpening → List ℕ
group_block fs sections maps told openings = group_by fs (members_in sections) maps told openings

-- the same of each of some groups
abbrev pub HasToldSizes : GroupPart → Type 0
HasToldSizes part = HasSizes (told_value part.table)

abbrev pub group_text : ℕ → GroupPart → List ℕ
group_text fs part = group_block fs (group_value part.group) (string_bytes part.maps) (told_value part.table) part.openings

unfoldable pub groups_text : ℕ → List GroupPart → List ℕ
groups_text fs parts = flat_map (group_text fs) parts
