-- The file systems of a policy that was read are those of their text.
use Rattle.std.proofs.Common.{◌≡◌, ◌∙◌, ℕ, List, Option, Some, None, Result, Ok, Err, ap, refl}
use Rattle.desk_tables.specs.FileSystemsText.{read_filesystems}
use Rattle.desk_tables.specs.Rules.{TableFault}
use Rattle.desk_tables.specs.declared.custodians.Custodian.{Custodian}
use Rattle.desk_tables.specs.declared.filesystems.Mount.{Mount}
use Rattle.desk_policy.specs.Laws.{custodians_in, filesystems_in}
use Rattle.desk_policy.specs.Parsing.{content_with, if_listed, in_file, read_after_filesystems, read_files, read_policy, read_site, read_site_tables, then_read, unless_unlisted}
use Rattle.desk_policy.specs.Policy.{Content}
use Rattle.desk_policy.specs.Site.{SiteTexts}
use Rattle.desk_policy.specs.UnlistedCustodians.{unlisted_line}
use Rattle.desk_policy.specs.declared.site_fault.SiteFault.{SiteFault}

-- what was read before what comes next
was_read : {X Y : Type 0} (read : Result X SiteFault) (next : X → Result Y SiteFault) (value : Y) → then_read read next ≡ Ok value → (first : X) × (read ≡ Ok first) × (next first ≡ Ok value)
was_read (Ok first) next value is = (first, refl, is)
was_read (Err fault) next value is = cc

file_read : {X F : Type 0} (fault_of : F → SiteFault) (read : Result X F) (value : X) → in_file fault_of read ≡ Ok value → read ≡ Ok value
file_read fault_of (Ok found) value is = let same : found ≡ value = cc in ap Ok same
file_read fault_of (Err fault) value is = cc

all_listed : (found table : List Mount) (unlisted : Option ℕ) → unless_unlisted found unlisted ≡ Ok table → (let read : Result (List Mount) TableFault = Ok found in read) ≡ Ok table
all_listed found table None is = is
all_listed found table (Some line) is = cc

listed_read : (custodians : List Custodian) (read : Result (List Mount) TableFault) (table : List Mount) → if_listed custodians read ≡ Ok table → read ≡ Ok table
listed_read custodians (Ok found) table is = all_listed found table (unlisted_line custodians found) is
listed_read custodians (Err fault) table is = is

pub table_read : (texts : SiteTexts) (policy : Content) → read_site texts ≡ Ok policy → read_filesystems texts.files.filesystems ≡ Ok policy.table
unfolding read_site
table_read texts policy is =
    let custodians = was_read (custodians_in texts) (λ rows. then_read (filesystems_in texts rows) (read_after_filesystems texts)) policy is in
    let table = was_read (filesystems_in texts custodians.0) (read_after_filesystems texts) policy custodians.2 in
    let tables = was_read (read_site_tables texts) (read_policy texts table.0) policy table.2 in
    let files = was_read (read_files texts table.0 tables.0 0 table.0) (λ all. Ok (content_with table.0 tables.0 all)) policy tables.2 in
    let same : content_with table.0 tables.0 files.0 ≡ policy = (let e : Ok (content_with table.0 tables.0 files.0) ≡ Ok policy = files.2 in cc) in
    listed_read custodians.0 (read_filesystems texts.files.filesystems) table.0 (file_read _ (if_listed custodians.0 (read_filesystems texts.files.filesystems)) table.0 table.1) ∙ ap Ok (ap (λ (c : Content). c.table) same)
