-- The policy that a site's texts write is sound, if it does not contradict itself.
use Rattle.std.proofs.Common.{◌≡◌, ℕ, ◌≤◌, ◌∙◌, List, [], Result, Ok, Err, ap, arith, length, refl, subst, sym}
use Rattle.std.specs.Prelude.{All, codes, slice_index_or}
use Rattle.std.specs.List.{AllByRecursion}
use Rattle.desk_tables.specs.Custodians.{read_custodians}
use Rattle.desk_tables.specs.FileSystems as tables
use Rattle.desk_tables.specs.FileSystems.{fs_of}
use Rattle.desk_tables.specs.FileSystemsText.{read_filesystems}
use Rattle.desk_tables.specs.Laws.{TablesAreInOrder}
use Rattle.desk_tables.specs.Rules.{TableFault}
use Rattle.desk_tables.specs.declared.custodians.Custodian.{Custodian}
use Rattle.desk_tables.specs.declared.filesystems.Mount.{Mount}
use Rattle.desk_policy.specs.Contradiction.{AreConsistent}
use Rattle.desk_policy.specs.Laws.{HaveDirectories, SiteLinesHaveDirectories, SiteLinesWriteTheirOwn}
use Rattle.desk_policy.specs.Listings.{WriteTheirOwn, written}
use Rattle.desk_policy.specs.Parsing.{ExportsFile, content_with, if_listed, in_file, read_after_filesystems, read_files, read_policy, read_site, read_site_tables, then_read, unless_unlisted}
use Rattle.desk_policy.specs.Policy.{AreAscending, Content, rows_of}
use Rattle.desk_policy.specs.Site.{SiteTexts}
use Rattle.desk_policy.specs.SiteFault.{table_fault}
use Rattle.desk_policy.specs.declared.parsing.SiteTables.{SiteTables}
use Rattle.desk_policy.specs.declared.row.Row.{Row}
use Rattle.desk_policy.specs.declared.site_fault.SiteFault.{SiteFault}
use Rattle.desk_policy.specs.UnlistedCustodians.{unlisted_line}
use Rattle.std.specs.Prelude.{Option, Some, None}
use Rattle.page_data.specs.Laws.{HaveNumbers, IsSoundIfRead}

-- what was read before what comes next
was_read : {X Y : Type 0} (read : Result X SiteFault) (next : X → Result Y SiteFault) (value : Y) → then_read read next ≡ Ok value → (first : X) × (read ≡ Ok first) × (next first ≡ Ok value)
was_read (Ok first) next value is = (first, refl, is)
was_read (Err fault) next value is = cc

from_file : {X F : Type 0} (fault_of : F → SiteFault) (read : Result X F) (value : X) → in_file fault_of read ≡ Ok value → read ≡ Ok value
from_file fault_of (Ok found) value is = (let same : found ≡ value = cc in ap Ok same)
from_file fault_of (Err fault) value is = absurd (cc)

-- what was read without a fault
abbrev good : List Mount → Result (List Mount) TableFault
good table = Ok table

abbrev whole : Content → Result Content SiteFault
whole content = Ok content

listed : (custodians : List Custodian) (read : Result (List Mount) TableFault) (table : List Mount) → if_listed custodians read ≡ Ok table → read ≡ Ok table
listed custodians (Err fault) table is = absurd (cc)
listed custodians (Ok found) table is = by (unlisted_line custodians found) is
  where
    by : (line : Option ℕ) → unless_unlisted found line ≡ good table → good found ≡ good table
    by None e = e
    by (Some line) e = absurd (cc)

-- the table of a policy that was read is that of the text of file systems
table_read : (texts : SiteTexts) (content : Content) → read_site texts ≡ Ok content → read_filesystems texts.files.filesystems ≡ Ok content.table
unfolding read_site
table_read texts content is =
    let custodians = was_read (in_file (table_fault (codes "custodians")) (read_custodians texts.files.custodians))
    (λ rows. then_read (in_file (table_fault (codes "filesystems")) (if_listed rows (read_filesystems texts.files.filesystems))) (read_after_filesystems texts)) content is in
    let table = was_read (in_file (table_fault (codes "filesystems")) (if_listed custodians.0 (read_filesystems texts.files.filesystems))) (read_after_filesystems texts) content custodians.2 in
    let found = listed custodians.0 (read_filesystems texts.files.filesystems) table.0 (from_file (table_fault (codes "filesystems")) (if_listed custodians.0 (read_filesystems texts.files.filesystems)) table.0 table.1) in
    let site_tables = was_read (read_site_tables texts) (read_policy texts table.0) content table.2 in
    let files = was_read (read_files texts table.0 site_tables.0 0 table.0) (λ some. Ok (content_with table.0 site_tables.0 some)) content site_tables.2 in
    found ∙ ap good (of_content table.0 site_tables.0 files.0 content files.2)
  where
    of_content : (table : List Mount) (site_tables : SiteTables) (files : List ExportsFile) (content : Content) → whole (content_with table site_tables files) ≡ whole content → table ≡ content.table
    of_content table site_tables files content e = (let same : content_with table site_tables files ≡ content = cc in ap (λ (c : Content). c.table) same)

-- the lines of a file system are those of the policy that was read
same_rows : (content policy : Content) → content.rows ≡ policy.rows → (fs : ℕ) → rows_of policy fs ≡ rows_of content fs
same_rows content policy rows fs = ap (λ (lists : List (List Row)). slice_index_or lists fs []) (sym rows)

-- so is what they write, and where
own_lines : (content policy : Content) → content.table ≡ policy.table → content.rows ≡ policy.rows → WriteTheirOwn policy → WriteTheirOwn content
own_lines content policy table rows own fs =
    subst (λ (lines : List Row). AllByRecursion (λ dir. fs_of content.table dir ≡ Some fs) (written lines)) (same_rows content policy rows fs)
    (subst (λ (mounts : List Mount). AllByRecursion (λ dir. fs_of mounts dir ≡ Some fs) (written (rows_of policy fs))) (sym table) (own fs))

pub sound_if_read : TablesAreInOrder → SiteLinesWriteTheirOwn → SiteLinesHaveDirectories → (content : Content) → length content.rows ≡ length content.table → All AreAscending content.rows → All HaveNumbers content.rows
    → IsSoundIfRead content
sound_if_read in_order own directories content long ascending numbers texts policy read table rows consistent =
    let ordered = in_order texts.files.filesystems policy.table (table_read texts policy read) in
    record {
      ascending = subst tables.AreAscending (sym table) ordered.0;
      few = subst (λ (mounts : List Mount). length mounts ≤ 256) (sym table) ordered.1;
      each = λ fs within.
          (let same = same_rows content policy rows fs in
          record {
            own = own_lines content policy table rows (own texts policy read);
            directories = subst HaveDirectories same (directories texts policy read fs);
            ascending = ascending fs [] (omega arith);
            numbers = numbers fs [] (omega arith);
            consistent = subst AreConsistent same (consistent fs);
          });
    }
