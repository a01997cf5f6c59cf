-- What is told of changes, and of groups of directories, is made of blocks.
use Rattle.std.proofs.Common.{ℕ, ◌==◌, ◌&&◌, List, [], ◌∷◌, Bool, Option, Some, None, codes, drop, length, map, not, refl}
use Rattle.std.specs.Prelude.{nat_le, nat_lt}
use Rattle.std.specs.String.{string_bytes}
use Rattle.page_data.specs.Groups.{group_value}
use Rattle.page_html.specs.Items.{Number, Own, Plural, Words}
use Rattle.page_html.specs.Titles.{Said}
use Rattle.page_html.specs.declared.blocks.Element.TheVariants as element
use Rattle.page_html.specs.declared.blocks.Tag.TheVariants.{FoldEnd, PlaceStart, SectionEnd, TableEnd}
use Rattle.page_places.specs.ChangeRows as changes
use Rattle.page_places.specs.Changes.{row_value}
use Rattle.page_places.specs.Groups.{group_by, group_text, groups_text, nobody, who_block}
use Rattle.page_places.specs.Lists as lists
use Rattle.page_places.specs.Names as names
use Rattle.page_places.specs.Names.{MembersValue, caption, members_in, more_directories, shown}
use Rattle.page_places.specs.Openings.{openings_text, told_items}
use Rattle.page_places.specs.Rows as rows
use Rattle.page_places.specs.Rows.{others_cells, verdict_frame}
use Rattle.page_places.specs.Tables.{TableValue, folded_table, granting, others_text, row_count, table, table_block, table_summary, told_value}
use Rattle.page_places.specs.declared.change_rows.ChangeRow.{ChangeRow}
use Rattle.page_places.specs.declared.groups.GroupPart.{GroupPart}
use Rattle.page_places.specs.declared.openings.PlaceOpening.{PlaceOpening}
use Rattle.page_site.specs.MadeOfBlocks.{IsMadeOfBlocks}
use Rattle.page_site.proofs.Made.{append_made, element_made, if_made, nothing_made, row_made, rows_made, start_made, table_made, tag_made}
use Rattle.page_places.proofs.Plain.{change_plain, row_plain, shown_plain, told_plain, unlisted_plain}
use Rattle.page_html.proofs.Plain.{plain_map}

-- ---- changes
change_table_made : (rows : List ChangeRow) → IsMadeOfBlocks (changes.change_table rows)
change_table_made rows = table_made changes.change_frame (Said (codes "What it would change") ∷ []) changes.change_cells (λ row. change_plain (row_value row)) rows

changes_folded_made : (rows : List ChangeRow) → IsMadeOfBlocks (changes.changes_folded rows)
changes_folded_made rows =
    append_made (append_made
    (element_made element.Fold (Own (Plural (length rows) (codes "change") (codes "changes")) ∷ []) (record { are = refl })) (change_table_made rows))
    (tag_made FoldEnd)

no_change_made : IsMadeOfBlocks changes.no_change
no_change_made = element_made element.Paragraph (Own (Words (codes "It would change nothing for any client.")) ∷ []) (record { are = refl })

mattering_made : (rows : List ChangeRow) → IsMadeOfBlocks (changes.mattering rows)
mattering_made rows = if_made (length rows == 0) no_change_made (if_made (nat_le (length rows) 24) (change_table_made rows) (changes_folded_made rows))

pub changes_made : (rows : List ChangeRow) (silent : ℕ) → IsMadeOfBlocks (changes.changes_block rows silent)
changes_made rows silent =
    append_made (mattering_made rows)
    (if_made (silent == 0) nothing_made (element_made element.Paragraph (changes.silent_items silent) (record { are = refl })))

-- ---- what the server grants
openings_made : (fs : ℕ) (openings : List PlaceOpening) → IsMadeOfBlocks (openings_text fs openings)
openings_made fs openings =
    if_made (length openings == 0) nothing_made (element_made element.Paragraph (told_items fs openings) (told_plain fs openings))

-- ---- the names of directories
left_out_made : (paths : List (List (List ℕ))) → IsMadeOfBlocks (names.left_out paths)
left_out_made [] = nothing_made
left_out_made (first ∷ others) =
    append_made (append_made
    (element_made element.Fold (more_directories (length (first ∷ others)) ∷ []) (record { are = refl }))
    (element_made element.Names (map shown (names.names (first ∷ others))) (plain_map shown shown_plain (names.names (first ∷ others)))))
    (tag_made FoldEnd)

heading_made : (members : MembersValue) → IsMadeOfBlocks (names.heading members)
heading_made members =
    append_made
    (element_made element.PlaceHeading (map shown (names.group_words 8 members)) (plain_map shown shown_plain (names.group_words 8 members)))
    (left_out_made (drop 8 members.directories))

-- ---- the table of who may mount them
others_made : (others : Option ℕ) → IsMadeOfBlocks (others_text others)
others_made None = nothing_made
others_made (Some count) = row_made verdict_frame (others_cells count) (record { are = refl })

verdicts_made : (fs : ℕ) (members : MembersValue) (told : TableValue) → IsMadeOfBlocks (table fs members told)
verdicts_made fs members told =
    append_made (append_made (append_made
    (start_made verdict_frame (caption members)) (rows_made verdict_frame (rows.cells fs) (row_plain fs) told.rows)) (others_made told.others)) (tag_made TableEnd)

folded_made : (fs : ℕ) (members : MembersValue) (told : TableValue) → IsMadeOfBlocks (folded_table fs members told)
folded_made fs members told =
    append_made (append_made
    (element_made element.Fold (table_summary (granting told.rows)) (record { are = refl })) (verdicts_made fs members told)) (tag_made FoldEnd)

table_block_made : (fs : ℕ) (members : MembersValue) (told : TableValue) → IsMadeOfBlocks (table_block fs members told)
table_block_made fs members told = if_made (nat_le (row_count told) 24) (verdicts_made fs members told) (folded_made fs members told)

-- ---- groups
nobody_made : IsMadeOfBlocks nobody
nobody_made = element_made element.Paragraph (Own (Words (codes "Nobody may mount them.")) ∷ []) (record { are = refl })

who_made : (fs : ℕ) (members : MembersValue) (maps : List ℕ) (told : TableValue) → IsMadeOfBlocks maps → IsMadeOfBlocks (who_block fs members maps told)
who_made fs members maps told drawn = if_made (granting told.rows == 0) nobody_made (append_made drawn (table_block_made fs members told))

group_by_made : (fs : ℕ) (members : MembersValue) (maps : List ℕ) (told : TableValue) (openings : List PlaceOpening) → IsMadeOfBlocks maps
    → IsMadeOfBlocks (group_by fs members maps told openings)
group_by_made fs members maps told openings drawn =
    append_made (append_made (append_made (append_made
    (tag_made PlaceStart) (heading_made members)) (who_made fs members maps told drawn)) (openings_made fs openings)) (tag_made SectionEnd)

pub group_made : (fs : ℕ) (group : GroupPart) → IsMadeOfBlocks (string_bytes group.maps) → IsMadeOfBlocks (group_text fs group)
group_made fs group drawn =
    group_by_made fs (members_in (group_value group.group)) (string_bytes group.maps) (told_value group.table) group.openings drawn

pub no_groups_made : (fs : ℕ) → IsMadeOfBlocks (groups_text fs [])
unfolding groups_text
no_groups_made fs = nothing_made

pub more_groups_made : (fs : ℕ) (group : GroupPart) (others : List GroupPart) → IsMadeOfBlocks (group_text fs group) → IsMadeOfBlocks (groups_text fs others)
    → IsMadeOfBlocks (groups_text fs (group ∷ others))
unfolding groups_text
more_groups_made fs group others first rest = append_made first rest

-- ---- what stands around the groups
not_drawn_made : (count : ℕ) → IsMadeOfBlocks (lists.not_drawn count)
not_drawn_made count =
    if_made (nat_lt 12 count)
    (element_made element.Cut
    (Own (Words (codes "Maps of the single directories are not drawn: there are ")) ∷ Own (Number count) ∷ Own (Words (codes " lists.")) ∷ []) (record { are = refl }))
    nothing_made

pub groups_start_made : (count : ℕ) → IsMadeOfBlocks (lists.groups_start count)
groups_start_made count =
    append_made (element_made element.PlacesHeading (Own (Words (codes "Who may mount which directory")) ∷ []) (record { are = refl })) (not_drawn_made count)

pub not_listed_made : (count : ℕ) (has_others : Bool) → IsMadeOfBlocks (lists.not_listed count has_others)
not_listed_made count has_others =
    if_made (count == 0 && not has_others) nothing_made (element_made element.Cut (lists.unlisted count has_others) (unlisted_plain count has_others))
