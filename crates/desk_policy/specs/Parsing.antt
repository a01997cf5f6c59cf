-- The policy that the texts of a site write. (this project's own)
use Rattle.std.specs.Prelude.{ℕ, ◌+◌, List, [], ◌∷◌, ◌++◌, Option, Some, None, Result, Ok, Err, codes, map}
use Rattle.std.specs.List.{flat_map}
use Rattle.desk_text.specs.Path.{path_text}
use Rattle.desk_text.specs.declared.reading.LineFault.{LineFault}
use Rattle.desk_tables.specs.Custodians.{read_custodians}
use Rattle.desk_tables.specs.FileSystemsText.{read_filesystems}
use Rattle.desk_tables.specs.Groups.{read_groups}
use Rattle.desk_tables.specs.Hosts.{read_hosts}
use Rattle.desk_tables.specs.Networks.{read_networks}
use Rattle.desk_tables.specs.Rules.{TableFault}
use Rattle.desk_tables.specs.Users.{read_users}
use Rattle.desk_tables.specs.declared.custodians.Custodian.{Custodian}
use Rattle.desk_tables.specs.declared.filesystems.FsId.{FsId}
use Rattle.desk_tables.specs.declared.filesystems.Mount.{Mount}
use Rattle.desk_tables.specs.declared.rules.TableRule.TheVariants as table_rule
use Rattle.desk_netgroup.specs.Netgroups.{read_netgroups}
use Rattle.desk_exports.specs.Files.{file_answer, whole_answer}
use Rattle.desk_exports.specs.Tables.{TableRows}
use Rattle.desk_exports.specs.declared.entry.Entry.{Entry}
use Rattle.desk_exports.specs.declared.profile.Profile.{Profile}
use Rattle.desk_exports.specs.declared.rules.Rule.{Rule}
use Rattle.desk_origins.specs.declared.origins.Origin.{Origin}
use Rattle.desk_policy.specs.Policy.{Content, content_of, with_origins, with_warnings}
use Rattle.desk_policy.specs.Row.{row_of}
use Rattle.desk_policy.specs.Site.{SiteTexts}
use Rattle.desk_policy.specs.SiteFault.{exports_name, group_fault, line_fault, table_fault}
use Rattle.desk_policy.specs.UnlistedCustodians.{unlisted_line}
use Rattle.desk_policy.specs.Warning.{entry_warnings, netgroup_warnings, whole_warnings}
use Rattle.desk_policy.specs.declared.parsing.SiteTables.{SiteTables}
use Rattle.desk_policy.specs.declared.per_table.PerTable.{PerTable}
use Rattle.desk_policy.specs.declared.row.Row.{Row}
use Rattle.desk_policy.specs.declared.site.ExportsText.{ExportsText}
use Rattle.desk_policy.specs.declared.site_fault.SiteFault.{SiteFault}
use Rattle.desk_policy.specs.declared.warning.Warning.{Warning}

-- what a file says, its fault as one of the site
abbrev pub in_file : {X F : Type 0} → (F → SiteFault) → Result X F → Result X SiteFault
in_file fault_of (Ok value) = Ok value
in_file fault_of (Err fault) = Err (fault_of fault)

-- what comes next is read if there is no fault before it
abbrev pub then_read : {X Y : Type 0} → Result X SiteFault → (X → Result Y SiteFault) → Result Y SiteFault
then_read (Ok value) next = next value
then_read (Err fault) next = Err fault

abbrev pub unless_unlisted : List Mount → Option ℕ → Result (List Mount) TableFault
unless_unlisted table None = Ok table
unless_unlisted table (Some line) = Err (record { line = line; rule = table_rule.Custodian })

-- a table of file systems whose custodians are listed
abbrev pub if_listed : List Custodian → Result (List Mount) TableFault → Result (List Mount) TableFault
if_listed custodians (Ok table) = unless_unlisted table (unlisted_line custodians table)
if_listed custodians (Err fault) = Err fault

-- tables without a row
abbrev pub no_tables : SiteTables
no_tables = record { hosts = []; networks = []; users = []; groups = []; netgroups = [] }

-- The tables that these five texts write, or the fault of the first faulty one, in the order in which they are read: hosts,
-- networks, passwd, group, netgroup.
abbrev pub read_tables : PerTable (List ℕ) → Result SiteTables SiteFault
read_tables texts =
    then_read (in_file (table_fault (codes "hosts")) (read_hosts texts.hosts)) (λ hosts.
    then_read (in_file (table_fault (codes "networks")) (read_networks texts.networks)) (λ networks.
    then_read (in_file (table_fault (codes "passwd")) (read_users texts.passwd)) (λ users.
    then_read (in_file (table_fault (codes "group")) (read_groups texts.group)) (λ groups.
    then_read (in_file group_fault (read_netgroups texts.netgroup)) (λ netgroups.
    Ok (record { hosts = hosts; networks = networks; users = users; groups = groups; netgroups = netgroups }))))))

-- the tables of a site after its file systems
abbrev pub read_site_tables : SiteTexts → Result SiteTables SiteFault
read_site_tables texts = read_tables texts.files.tables

-- the profile and the tables with which an exports file is read
abbrev pub rows_with : Profile → List Mount → SiteTables → TableRows
rows_with profile table site_tables = record { profile = profile; filesystems = table; networks = site_tables.networks; users = site_tables.users; groups = site_tables.groups }

-- what an exports file gives: its lines in force, and its warnings
pub record ExportsFile : Type 0 where
  pub rows : List Row
  pub warnings : List Warning

-- what the entries of the file of this name give
abbrev pub file_with : SiteTables → List ℕ → List Entry → ExportsFile
file_with site_tables name entries = record {
  rows = map (row_of site_tables.netgroups site_tables.hosts) entries;
  warnings = flat_map (entry_warnings site_tables.netgroups site_tables.hosts name) entries;
}

-- the entries that an exports text of this file system spells, read by its profile, or its fault
abbrev pub entries_in : ExportsText → List Mount → SiteTables → FsId → Result (List Entry) (LineFault Rule)
entries_in text table site_tables fs = file_answer (rows_with text.profile table site_tables) fs text.body

-- what this text gives as the exports file of the file system with this number and mount point, or its fault
abbrev pub read_text : ExportsText → List Mount → SiteTables → ℕ → List (List ℕ) → Result ExportsFile SiteFault
read_text text table site_tables fs mount =
    then_read (in_file (line_fault (exports_name mount)) (entries_in text table site_tables (record { 0 = fs })))
    (λ entries. Ok (file_with site_tables (exports_name mount) entries))

-- what the exports file of the file system with this number and mount point gives
abbrev pub read_exports : SiteTexts → List Mount → SiteTables → ℕ → List (List ℕ) → Result ExportsFile SiteFault
read_exports texts table site_tables fs mount = read_text (texts.exports (path_text mount)) table site_tables fs mount

-- what the exports files of these file systems give, of which the first has this number
abbrev pub read_files : SiteTexts → List Mount → SiteTables → ℕ → List Mount → Result (List ExportsFile) SiteFault
read_files texts table site_tables fs [] = Ok []
read_files texts table site_tables fs (mount ∷ more) =
    then_read (read_exports texts table site_tables fs mount.path) (λ file. then_read (read_files texts table site_tables (fs + 1) more) (λ files. Ok (file ∷ files)))

-- the policy of these file systems, tables and exports files
abbrev pub content_with : List Mount → SiteTables → List ExportsFile → Content
content_with table site_tables files = record {
  table = table;
  rows = map (λ file. file.rows) files;
  warnings = netgroup_warnings site_tables.netgroups site_tables.hosts ++ flat_map (λ file. file.warnings) files;
  origins = [];
}

-- the policy that the exports files write, with these file systems and tables
abbrev pub read_policy : SiteTexts → List Mount → SiteTables → Result Content SiteFault
read_policy texts table site_tables = then_read (read_files texts table site_tables 0 table) (λ files. Ok (content_with table site_tables files))

-- what the files after the file systems say
abbrev pub read_after_filesystems : SiteTexts → List Mount → Result Content SiteFault
read_after_filesystems texts table = then_read (read_site_tables texts) (read_policy texts table)

-- the policy that the texts write, or the fault of the first faulty file, in the order in which they are read
unfoldable pub read_site : SiteTexts → Result Content SiteFault
read_site texts =
    then_read (in_file (table_fault (codes "custodians")) (read_custodians texts.files.custodians)) (λ custodians.
    then_read (in_file (table_fault (codes "filesystems")) (if_listed custodians (read_filesystems texts.files.filesystems))) (λ table.
    read_after_filesystems texts table))

-- the policy of the entries of a whole exports text, by these tables; its warnings are those of the text alone
abbrev pub whole_policy : SiteTables → List Mount → List (FsId × Entry) → Result Content SiteFault
whole_policy site_tables table placed =
    Ok (with_warnings (content_of site_tables.netgroups site_tables.hosts table placed) (whole_warnings site_tables.netgroups site_tables.hosts placed))

-- the policy that a whole exports text writes, read by this profile with these tables and file systems, or its fault
abbrev pub read_whole_with : Profile → SiteTables → List Mount → List ℕ → Result Content SiteFault
read_whole_with profile site_tables table text =
    then_read (in_file (line_fault (codes "exports")) (whole_answer (rows_with profile table site_tables) text)) (whole_policy site_tables table)

-- the policy that a text is read as, whose lines are of these texts; or its fault
abbrev pub read_of : List Origin → Result Content SiteFault → Result Content SiteFault
read_of origins (Ok content) = Ok (with_origins content origins)
read_of origins (Err fault) = Err fault

-- the same policy without its warnings, or the same fault
abbrev pub without_warnings : Result Content SiteFault → Result Content SiteFault
without_warnings (Ok content) = Ok (with_warnings content [])
without_warnings (Err fault) = Err fault

-- the policy that a whole exports text writes, read by this profile with no table but these file systems, or its fault
abbrev pub read_whole_policy : Profile → List Mount → List ℕ → Result Content SiteFault
read_whole_policy profile table text = read_whole_with profile no_tables table text
