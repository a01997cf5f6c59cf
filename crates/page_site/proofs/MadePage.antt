-- A page is made of blocks.
use Rattle.std.proofs.Common.{ℕ, ◌+◌, ◌&&◌, List, [], ◌∷◌, ◌∙◌, Bool, true, false, Result, length, map, subst, sym}
use Rattle.std.specs.Prelude.{All}
use Rattle.std.specs.String.{string_bytes}
use Rattle.std.proofs.lemmas.List.Elements.{All-head, All-tail}
use Rattle.desk_core.specs.Standing.{Standing, standing_in}
use Rattle.desk_core.specs.declared.head.Head.{Head}
use Rattle.desk_core.specs.declared.proposal.Proposal.{Proposal}
use Rattle.desk_impact.specs.Sections.{PlaceFound}
use Rattle.desk_policy.specs.Policy.{Content}
use Rattle.desk_policy.specs.Verdict.{Grant}
use Rattle.desk_policy.specs.declared.parsing.SiteTables.{SiteTables}
use Rattle.desk_policy.specs.declared.verdict.Denial.{Denial}
use Rattle.desk_who.specs.Runs.{Run}
use Rattle.page_data.specs.Groups.{group_value}
use Rattle.page_data.specs.Systems.{SystemValue}
use Rattle.page_data.specs.Tables.{ranges_at_first}
use Rattle.page_data.specs.declared.opening.Opening.{Opening}
use Rattle.page_html.specs.declared.blocks.Tag.TheVariants.{PageEnd, SectionEnd}
use Rattle.page_places.specs.Groups.{groups_text}
use Rattle.page_places.specs.ListedGroups.{IsPart, part_value}
use Rattle.page_places.specs.Maps.{AreMapsIf, are_drawn, grants_some}
use Rattle.page_places.specs.declared.groups.GroupPart.{GroupPart}
use Rattle.page_summary.specs.Sections.{section_end, section_start, tag_of}
use Rattle.page_summary.specs.declared.sections.Section.{Section}
use Rattle.page_summary.specs.declared.sections.Section.TheVariants.{Each, Files, Names, Networks, Systems, Warnings}
use Rattle.page_site.specs.FoundInSite.{Found, IsFound, Source}
use Rattle.page_site.specs.MadeOfBlocks.{IsMadeOfBlocks, PrintedPagesAreMadeOfBlocks}
use Rattle.page_site.specs.Page.{AreLists, AreTables, InSection, IsBack, IsBeginning, IsFront, IsPage, IsSummary}
use Rattle.page_site.specs.SystemParts.{AreTextsFrom, IsSystemText, TellingValue, telling_of}
use Rattle.page_site.proofs.Made.{IsMadeIf, head_made, just_made, nothing_made, same_made, tag_made, then_made, told_made}
use Rattle.page_site.proofs.MadeFindings.{findings_made}
use Rattle.page_site.proofs.MadeLists.{adds_files_made, adds_hosts_made, adds_netgroups_made, adds_warnings_made, how_to_read_made, make_again_made}
use Rattle.page_site.proofs.MadeMaps.{file_system_maps_made, gains_networks_made, group_maps_made}
use Rattle.page_site.proofs.MadeOverview.{overview_rows_made}
use Rattle.page_site.proofs.MadePlaces.{group_made, more_groups_made, no_groups_made}
use Rattle.page_site.proofs.MadeSummary.{figures_made, flavours_made, header_made, proposals_made, shapes_made}
use Rattle.page_site.proofs.MadeSystems.{file_system_made}

-- ---- sections
section_start_made : (section : Section) → IsMadeOfBlocks (section_start section)
unfolding section_start
section_start_made section = tag_made (tag_of section)

section_end_made : IsMadeOfBlocks section_end
section_end_made = tag_made SectionEnd

section_made : (section : Section) {Is : List ℕ → Type 0} → IsMadeIf Is → IsMadeIf (InSection section Is)
section_made section made = then_made (just_made (section_start_made section)) (then_made made (just_made section_end_made))

-- ---- what stands before the parts on each file system
beginning_made : (heads : List Head) (proposals : List Proposal) (word : List ℕ) → IsMadeIf (IsBeginning heads proposals word)
beginning_made heads proposals word =
    then_made (just_made (head_made word)) (then_made (just_made shapes_made) (told_made _ _ (λ told is. header_made told)))

summary_made : (content : Content) (heads : List Head) (proposals : List Proposal) (found : Found) → IsMadeIf (IsSummary content heads proposals found)
summary_made content heads proposals found =
    then_made (told_made _ _ (λ counted are. figures_made counted))
    (then_made (just_made (proposals_made content.table found.widening))
    (then_made (told_made _ _ (λ rows are. findings_made rows))
    (then_made (told_made _ _ (λ rows are. flavours_made rows)) (just_made section_end_made))))

tables_made : (content : Content) (heads : List Head) (proposals : List Proposal) (found : Found) → IsFound content found → IsMadeIf (AreTables content heads proposals found)
tables_made content heads proposals found is_found =
    then_made (section_made Systems (told_made _ _ (overview_rows_made content heads proposals found is_found)))
    (section_made Networks (gains_networks_made content))

front_made : (content : Content) (heads : List Head) (proposals : List Proposal) (found : Found) (word : List ℕ) → IsFound content found
    → IsMadeIf (IsFront content heads proposals found word)
front_made content heads proposals found word is_found =
    then_made (beginning_made heads proposals word)
    (then_made (summary_made content heads proposals found) (tables_made content heads proposals found is_found))

-- ---- what stands behind them
lists_made : (content : Content) (tables : SiteTables) (standing : Standing) (word : List ℕ) → IsMadeIf (AreLists content tables standing word)
lists_made content tables standing word =
    then_made (section_made Warnings (adds_warnings_made content))
    (then_made (section_made Names (then_made (adds_netgroups_made content tables) (adds_hosts_made content tables)))
    (section_made Files (then_made (adds_files_made content.table standing) (just_made (make_again_made word)))))

back_made : (content : Content) (tables : SiteTables) (standing : Standing) (word : List ℕ) → IsMadeIf (IsBack content tables standing word)
back_made content tables standing word =
    then_made (lists_made content tables standing word) (then_made (just_made how_to_read_made) (just_made (tag_made PageEnd)))

-- ---- the parts on each file system
maps_if_made : (drawn : Bool) (ranges : List (Run (Result Grant Denial))) (maps : List ℕ) → AreMapsIf drawn ranges maps → IsMadeOfBlocks maps
maps_if_made true ranges maps are = group_maps_made are.runs maps are.drawn
maps_if_made false ranges maps are = same_made are nothing_made

groups_made : (fs : ℕ) (drawn : Bool) (openings : List (PlaceFound Opening)) (groups : List GroupPart) → All (IsPart drawn openings) (map part_value groups)
    → IsMadeOfBlocks (groups_text fs groups)
groups_made fs drawn openings [] parts = no_groups_made fs
groups_made fs drawn openings (group ∷ others) parts =
    let first : IsPart drawn openings (part_value group) = All-head (IsPart drawn openings) (part_value group) (map part_value others) parts in
    let ranges = ranges_at_first (group_value group.group) in
    more_groups_made fs group others
    (group_made fs group (maps_if_made (drawn && grants_some ranges) ranges (string_bytes group.maps) first.maps))
    (groups_made fs drawn openings others (All-tail (IsPart drawn openings) (part_value group) (map part_value others) parts))

system_made : (telling : TellingValue) (fs : ℕ) (system : SystemValue) → IsMadeIf (IsSystemText telling fs system)
system_made telling fs system text is =
    let listed = is.is_data.groups in
    let groups : IsMadeOfBlocks (groups_text is.part.fs.0 is.part.groups.now) =
    subst (λ (groups : List GroupPart). IsMadeOfBlocks (groups_text is.part.fs.0 groups)) (sym (is.is_part.groups ∙ listed.groups))
    (groups_made is.part.fs.0 (are_drawn (length listed.are.groups)) telling.openings listed.listed.groups listed.are.are_listed.parts)
    in
    same_made is.text_is
    (file_system_made is.part (same_made is.is_part.maps (file_system_maps_made system.classes is.given.maps.now is.is_data.maps)) groups)

systems_made : (telling : TellingValue) (fs : ℕ) (systems : List SystemValue) → IsMadeIf (AreTextsFrom telling fs systems)
systems_made telling fs [] text is = same_made is nothing_made
systems_made telling fs (system ∷ others) text is = then_made (system_made telling fs system) (systems_made telling (fs + 1) others) text is

-- ---- all of it
page_made : (source : Source) (found : Found) (word : List ℕ) → IsFound source.content found → IsMadeIf (IsPage source found word)
page_made source found word is_found =
    then_made (front_made source.content source.heads source.proposals found word is_found)
    (then_made (section_made Each (systems_made (telling_of source found) 0 found.systems))
    (back_made source.content source.tables (standing_in source.heads source.proposals) word))

pub printed_pages_are_made_of_blocks : PrintedPagesAreMadeOfBlocks
printed_pages_are_made_of_blocks heads proposals word page is = page_made is.source is.found word is.is_found page is.is
