-- What is listed of a site is told in one way: each table depends on the values of its rows alone.
use Rattle.std.proofs.Common.{◌≡◌, ℕ, ◌==◌, ◌++◌, ◌∙◌, List, [], ◌∷◌, ap, codes, length, map, refl, sym, if◌then◌else◌}
use Rattle.std.proofs.lemmas.List.{length-map}
use Rattle.std.proofs.lemmas.List.Elements.{All-contains}
use Rattle.desk_core.specs.Listing.{AreHeldFiles, AreMountsWithExports, HeldFile, IsHeld, exports_file, seven_files}
use Rattle.desk_core.specs.Standing.{Standing}
use Rattle.desk_netgroup.specs.declared.group_line.GroupLine.{GroupLine}
use Rattle.desk_policy.specs.Policy.{Content}
use Rattle.desk_policy.specs.SiteFile.{exports_file_name}
use Rattle.desk_policy.specs.declared.parsing.SiteTables.{SiteTables}
use Rattle.desk_tables.specs.declared.filesystems.Mount.{Mount}
use Rattle.page_html.specs.Blocks.{element_html, tag_html}
use Rattle.page_html.specs.Items.{Item, Own, Words}
use Rattle.page_html.specs.Tables.{rows_html, table_start}
use Rattle.page_html.specs.Titles.{Said}
use Rattle.page_html.specs.declared.blocks.Element.TheVariants.{Paragraph}
use Rattle.page_html.specs.declared.blocks.Tag.TheVariants.{TableEnd}
use Rattle.page_html.proofs.OneOrder.{one_text_order, told_alike}
use Rattle.page_lists.specs.Files as of_files
use Rattle.page_lists.specs.Files.{AddsFiles}
use Rattle.page_lists.specs.Hosts as of_hosts
use Rattle.page_lists.specs.Hosts.{AddsHosts, AreHostNames, host_frame}
use Rattle.page_lists.specs.NameIndex.{written_names}
use Rattle.page_lists.specs.Netgroups as of_netgroups
use Rattle.page_lists.specs.Netgroups.{AddsNetgroups, netgroup_frame, no_netgroup}
use Rattle.page_lists.specs.Tables.{long_end, long_start}
use Rattle.page_lists.specs.UniqueLaws.{ListsAreToldInOneWay}
use Rattle.page_lists.specs.Warnings as of_warnings
use Rattle.page_lists.specs.Warnings.{AddsWarnings}
use Rattle.page_lists.specs.declared.files.FileRow.{FileRow}
use Rattle.page_lists.specs.declared.hosts.HostRow.{HostRow}
use Rattle.page_lists.specs.declared.netgroups.NetgroupRow.{NetgroupRow}
use Rattle.page_lists.specs.declared.warnings.WarningRow.{WarningRow}

-- lists of rows with the same values are as long
as_many : {X V : Type 0} (value : X → V) (xs ys : List X) → map value xs ≡ map value ys → length xs ≡ length ys
as_many value xs ys same = sym (length-map xs value) ∙ ap length same ∙ length-map ys value

-- ---- files

one_list_of_mounts : (standing : Standing) (mounts others : List (List ℕ)) → AreMountsWithExports standing mounts → AreMountsWithExports standing others → mounts ≡ others
one_list_of_mounts standing mounts others are its =
    let Held = λ (mount : List ℕ). IsHeld standing (exports_file_name mount) in
    one_text_order mounts others are.ascending its.ascending
    (λ mount has. its.all mount (All-contains Held mounts mount are.each has))
    (λ mount has. are.all mount (All-contains Held others mount its.each has))

one_list_of_files : (standing : Standing) (files others : List HeldFile) → AreHeldFiles standing files → AreHeldFiles standing others → files ≡ others
one_list_of_files standing files others are its =
    are.files_are ∙ ap (λ mounts. seven_files standing.newest ++ map (exports_file standing) mounts) (one_list_of_mounts standing are.mounts its.mounts are.are its.are)
    ∙ sym its.files_are

abbrev file_table : ℕ → List (List (List (Item (List ℕ)))) → List ℕ
file_table count cells =
    long_start 40 count (codes "file") (codes "files") ++ table_start of_files.frame (Said (codes "Files and their newest revisions") ∷ [])
    ++ rows_html of_files.frame cells ++ tag_html TableEnd ++ long_end 40 count

one_file_table : (rows others : List FileRow) → map of_files.row_value rows ≡ map of_files.row_value others → of_files.files rows ≡ of_files.files others
one_file_table rows others same =
    let cells = λ (row : FileRow). of_files.cells (of_files.row_value row) in
    ap (λ count. file_table count (map cells rows)) (as_many of_files.row_value rows others same)
    ∙ ap (file_table (length others)) (told_alike of_files.row_value cells of_files.cells (λ row. refl) rows others same)

one_text_of_files : (table : List Mount) (standing : Standing) (old text other : List ℕ) → AddsFiles table standing old text → AddsFiles table standing old other → text ≡ other
one_text_of_files table standing old text other adds its =
    let files = one_list_of_files standing adds.are.files its.are.files adds.are.are its.are.are in
    let same = adds.are.rows_are ∙ ap (map (of_files.row_of table)) files ∙ sym its.are.rows_are in
    adds.added ∙ ap (λ (told : List ℕ). old ++ told) (one_file_table adds.rows its.rows same) ∙ sym its.added

-- ---- warnings

abbrev warning_table : ℕ → List (List (List (Item (List ℕ)))) → List ℕ
warning_table count cells =
    if count == 0 then element_html Paragraph (Own (Words (codes "No word has a warning.")) ∷ [])
    else long_start 24 count (codes "warning") (codes "warnings") ++ table_start of_warnings.frame (Said (codes "Warnings about words") ∷ [])
    ++ rows_html of_warnings.frame cells ++ tag_html TableEnd ++ long_end 24 count

one_warning_table : (rows others : List WarningRow) → map of_warnings.row_value rows ≡ map of_warnings.row_value others → of_warnings.warnings rows ≡ of_warnings.warnings others
one_warning_table rows others same =
    let cells = λ (row : WarningRow). of_warnings.cells (of_warnings.row_value row) in
    ap (λ count. warning_table count (map cells rows)) (as_many of_warnings.row_value rows others same)
    ∙ ap (warning_table (length others)) (told_alike of_warnings.row_value cells of_warnings.cells (λ row. refl) rows others same)

one_text_of_warnings : (content : Content) (old text other : List ℕ) → AddsWarnings content old text → AddsWarnings content old other → text ≡ other
one_text_of_warnings content old text other adds its =
    adds.added ∙ ap (λ (told : List ℕ). old ++ told) (one_warning_table adds.rows its.rows (adds.are ∙ sym its.are)) ∙ sym its.added

-- ---- netgroups

abbrev netgroup_table : ℕ → List (List (List (Item (List ℕ)))) → List ℕ
netgroup_table count cells =
    if count == 0 then no_netgroup
    else long_start 24 count (codes "netgroup") (codes "netgroups") ++ table_start netgroup_frame (Said (codes "Netgroups") ∷ [])
    ++ rows_html netgroup_frame cells ++ tag_html TableEnd ++ long_end 24 count

one_netgroup_table : (rows others : List NetgroupRow) → map of_netgroups.row_value rows ≡ map of_netgroups.row_value others → of_netgroups.netgroups rows ≡ of_netgroups.netgroups others
one_netgroup_table rows others same =
    let cells = λ (row : NetgroupRow). of_netgroups.cells (of_netgroups.row_value row) in
    ap (λ count. netgroup_table count (map cells rows)) (as_many of_netgroups.row_value rows others same)
    ∙ ap (netgroup_table (length others)) (told_alike of_netgroups.row_value cells of_netgroups.cells (λ row. refl) rows others same)

one_text_of_netgroups : (content : Content) (tables : SiteTables) (old text other : List ℕ) → AddsNetgroups content tables old text → AddsNetgroups content tables old other → text ≡ other
one_text_of_netgroups content tables old text other adds its =
    adds.added ∙ ap (λ (told : List ℕ). old ++ told) (one_netgroup_table adds.rows its.rows (adds.are ∙ sym its.are)) ∙ sym its.added

-- ---- names of hosts

one_list_of_names : (netgroups : List GroupLine) (written names others : List (List ℕ)) → AreHostNames netgroups written names → AreHostNames netgroups written others → names ≡ others
one_list_of_names netgroups written names others are its =
    one_text_order names others are.ascending its.ascending
    (λ name has. (let is = are.each name has in its.all name is.0 is.1))
    (λ name has. (let is = its.each name has in are.all name is.0 is.1))

abbrev host_table : ℕ → List (List (List (Item (List ℕ)))) → List ℕ
host_table count cells =
    if count == 0 then []
    else long_start 24 count (codes "name") (codes "names") ++ table_start host_frame (Said (codes "Names of hosts that lines write") ∷ [])
    ++ rows_html host_frame cells ++ tag_html TableEnd ++ long_end 24 count

one_host_table : (rows others : List HostRow) → map of_hosts.row_value rows ≡ map of_hosts.row_value others → of_hosts.hosts rows ≡ of_hosts.hosts others
one_host_table rows others same =
    let cells = λ (row : HostRow). of_hosts.cells (of_hosts.row_value row) in
    ap (λ count. host_table count (map cells rows)) (as_many of_hosts.row_value rows others same)
    ∙ ap (host_table (length others)) (told_alike of_hosts.row_value cells of_hosts.cells (λ row. refl) rows others same)

one_text_of_hosts : (content : Content) (tables : SiteTables) (old text other : List ℕ) → AddsHosts content tables old text → AddsHosts content tables old other → text ≡ other
one_text_of_hosts content tables old text other adds its =
    let written = map (λ one. one.name) (written_names content) in
    let names = one_list_of_names tables.netgroups written adds.are.names its.are.names adds.are.are its.are.are in
    let same = adds.are.rows_are ∙ ap (map (of_hosts.row_of content tables)) names ∙ sym its.are.rows_are in
    adds.added ∙ ap (λ (told : List ℕ). old ++ told) (one_host_table adds.rows its.rows same) ∙ sym its.added

pub lists_are_told_in_one_way : ListsAreToldInOneWay
lists_are_told_in_one_way = record {
  held = one_list_of_files;
  files = one_text_of_files;
  warnings = one_text_of_warnings;
  netgroups = one_text_of_netgroups;
  hosts = one_text_of_hosts;
}
