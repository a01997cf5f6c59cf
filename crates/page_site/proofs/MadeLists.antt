-- The lists of warnings, names and files are made of blocks.
use Rattle.std.proofs.Common.{ℕ, ◌==◌, List, [], ◌∷◌, ◌++◌, arith, codes, length, map, refl}
use Rattle.std.specs.Prelude.{nat_le}
use Rattle.desk_core.specs.Standing.{Standing}
use Rattle.desk_policy.specs.Policy.{Content}
use Rattle.desk_policy.specs.declared.parsing.SiteTables.{SiteTables}
use Rattle.desk_tables.specs.declared.filesystems.Mount.{Mount}
use Rattle.page_html.specs.Items.{Item, NewLine, Own, Plural, Text, Word, Words}
use Rattle.page_html.specs.Tables.{Frame, rows_html, table_start}
use Rattle.page_html.specs.Titles.{Said, Title}
use Rattle.page_html.specs.Blocks.{tag_html}
use Rattle.page_html.specs.declared.blocks.Element.TheVariants.{Commands, Fold, Heading, Paragraph}
use Rattle.page_html.specs.declared.blocks.Tag.TheVariants.{FoldEnd, TableEnd}
use Rattle.page_lists.specs.Files as files
use Rattle.page_lists.specs.Files.{AddsFiles}
use Rattle.page_lists.specs.Hosts as hosts
use Rattle.page_lists.specs.Hosts.{AddsHosts}
use Rattle.page_lists.specs.MakingAgain as again
use Rattle.page_lists.specs.Netgroups as netgroups
use Rattle.page_lists.specs.Netgroups.{AddsNetgroups}
use Rattle.page_lists.specs.Reading.{how_to_read}
use Rattle.page_lists.specs.Shell.{shell_word}
use Rattle.page_lists.specs.Tables.{long_end, long_start}
use Rattle.page_lists.specs.Warnings as warnings
use Rattle.page_lists.specs.Warnings.{AddsWarnings}
use Rattle.page_lists.specs.declared.files.FileRow.{FileRow}
use Rattle.page_lists.specs.declared.hosts.HostRow.{HostRow}
use Rattle.page_lists.specs.declared.netgroups.NetgroupRow.{NetgroupRow}
use Rattle.page_lists.specs.declared.warnings.WarningRow.{WarningRow}
use Rattle.page_site.specs.MadeOfBlocks.{IsMadeOfBlocks}
use Rattle.page_site.proofs.Made.{IsMadeIf, append_made, element_made, fixed_made, if_made, nothing_made, rows_made, same_made, start_made, tag_made}
use Rattle.page_html.proofs.Plain.{ArePlainCells}
use Rattle.page_lists.proofs.Plain.{file_plain, host_plain, netgroup_plain, warning_plain}

-- ---- long tables
long_start_made : (most count : ℕ) (one more : List ℕ) → IsMadeOfBlocks (long_start most count one more)
long_start_made most count one more = if_made (nat_le count most) nothing_made (element_made Fold (Own (Plural count one more) ∷ []) (record { are = refl }))

long_end_made : (most count : ℕ) → IsMadeOfBlocks (long_end most count)
long_end_made most count = if_made (nat_le count most) nothing_made (tag_made FoldEnd)

long_made : {X : Type 0} (most : ℕ) (one more : List ℕ) (frame : Frame) (title : List (Title (List ℕ))) (cells : X → List (List (Item (List ℕ)))) → ((x : X) → ArePlainCells (cells x)) → (xs : List X)
    → IsMadeOfBlocks (long_start most (length xs) one more ++ table_start frame title ++ rows_html frame (map cells xs) ++ tag_html TableEnd ++ long_end most (length xs))
long_made most one more frame title cells plain xs =
    append_made (append_made (append_made (append_made
    (long_start_made most (length xs) one more) (start_made frame title)) (rows_made frame cells plain xs)) (tag_made TableEnd)) (long_end_made most (length xs))

-- ---- files
files_made : (rows : List FileRow) → IsMadeOfBlocks (files.files rows)
files_made rows =
    long_made 40 (codes "file") (codes "files") files.frame (Said (codes "Files and their newest revisions") ∷ [])
    (λ row. files.cells (files.row_value row)) (λ row. file_plain (files.row_value row)) rows

pub adds_files_made : (table : List Mount) (standing : Standing) → IsMadeIf (AddsFiles table standing [])
adds_files_made table standing text adds = same_made adds.added (files_made adds.rows)

-- ---- names of hosts
hosts_made : (rows : List HostRow) → IsMadeOfBlocks (hosts.hosts rows)
hosts_made rows =
    if_made (length rows == 0) nothing_made
    (long_made 24 (codes "name") (codes "names") hosts.host_frame (Said (codes "Names of hosts that lines write") ∷ [])
    (λ row. hosts.cells (hosts.row_value row)) (λ row. host_plain (hosts.row_value row)) rows)

pub adds_hosts_made : (content : Content) (tables : SiteTables) → IsMadeIf (AddsHosts content tables [])
adds_hosts_made content tables text adds = same_made adds.added (hosts_made adds.rows)

-- ---- netgroups
netgroups_made : (rows : List NetgroupRow) → IsMadeOfBlocks (netgroups.netgroups rows)
netgroups_made rows =
    if_made (length rows == 0)
    (element_made Paragraph (Own (Words (codes "The table ")) ∷ Own (Word (codes "netgroup")) ∷ Own (Words (codes " has none.")) ∷ []) (record { are = refl }))
    (long_made 24 (codes "netgroup") (codes "netgroups") netgroups.netgroup_frame (Said (codes "Netgroups") ∷ [])
    (λ row. netgroups.cells (netgroups.row_value row)) (λ row. netgroup_plain (netgroups.row_value row)) rows)

pub adds_netgroups_made : (content : Content) (tables : SiteTables) → IsMadeIf (AddsNetgroups content tables [])
adds_netgroups_made content tables text adds = same_made adds.added (netgroups_made adds.rows)

-- ---- warnings
warnings_made : (rows : List WarningRow) → IsMadeOfBlocks (warnings.warnings rows)
warnings_made rows =
    if_made (length rows == 0) (element_made Paragraph (Own (Words (codes "No word has a warning.")) ∷ []) (record { are = refl }))
    (long_made 24 (codes "warning") (codes "warnings") warnings.frame (Said (codes "Warnings about words") ∷ [])
    (λ row. warnings.cells (warnings.row_value row)) (λ row. warning_plain (warnings.row_value row)) rows)

pub adds_warnings_made : (content : Content) → IsMadeIf (AddsWarnings content [])
adds_warnings_made content text adds = same_made adds.added (warnings_made adds.rows)

-- ---- how the page is made again, and how it is read
commands_made : (word : List ℕ) → IsMadeOfBlocks (again.commands word)
commands_made word =
    element_made Commands
    (Own (Words (codes "exportdesk report ")) ∷ Text word ∷ Own (Words (codes " >report.html")) ∷ Own NewLine
    ∷ Own (Words (codes "exportdesk report ")) ∷ Text word ∷ Own (Words (codes " | cmp - report.html")) ∷ Own NewLine
    ∷ Own (Words (codes "exportdesk cat ")) ∷ Text word ∷ Own (Words (codes " exports:MOUNT | sha256sum")) ∷ []) (record { are = refl })

same_page_made : IsMadeOfBlocks again.same
same_page_made =
    element_made Paragraph
    (Own (Words (codes "The page has no date and no name of a machine: one version of exportdesk makes the same page, to the byte, of the same state and the same name of the database.")) ∷ []) (record { are = refl })

pub make_again_made : (word : List ℕ) → IsMadeOfBlocks (again.make_again word)
make_again_made word =
    append_made (append_made (element_made Heading (Own (Words (codes "Make it again, and compare")) ∷ []) (record { are = refl })) (commands_made (shell_word word)))
    same_page_made

pub how_to_read_made : IsMadeOfBlocks how_to_read
how_to_read_made = fixed_made how_to_read (3, omega arith, refl)
