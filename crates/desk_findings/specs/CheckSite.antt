-- What `check` finds in the folder of a site's files. (this project's own)
use Rattle.std.specs.Prelude.{◌≡◌, ℕ, ◌+◌, ◌++◌, Bool, false, List, Option, None, Some, Result, Ok, Err, filter, is_none, map, if◌then◌else◌}
use Rattle.std.specs.List.{position_or_len}
use Rattle.desk_tables.specs.Custodians.{custodian_faults, digest_of, read_custodians}
use Rattle.desk_tables.specs.Faults.{IsOnLine, IsOnLineOrWhole}
use Rattle.desk_tables.specs.FileSystemsText.{filesystem_faults, read_filesystems}
use Rattle.desk_tables.specs.Rules.{TableFault}
use Rattle.desk_tables.specs.declared.custodians.Custodian.{Custodian}
use Rattle.desk_tables.specs.declared.filesystems.Mount.{Mount}
use Rattle.desk_tables.specs.declared.rules.TableRule.TheVariants as table_rule
use Rattle.desk_policy.specs.UnlistedCustodians.{has_unlisted, unlisted_line}
use Rattle.desk_policy.specs.declared.site_fault.SiteRule.TheVariants as site_rule
use Rattle.desk_findings.specs.CheckFaults.{TellTables, Tells, tell_table}
use Rattle.desk_findings.specs.CheckOdd.{OddLine, TellInOrder, odd_word}
use Rattle.desk_findings.specs.CheckText.{Finds, Gathers}
use Rattle.desk_findings.specs.Told.{Told}
use Rattle.desk_findings.specs.declared.check_faults.Source.{Source}
use Rattle.desk_findings.specs.declared.check_site.SiteSources.{SiteSources}
use Rattle.desk_findings.specs.declared.check_text.Gathered.{Gathered}
use Rattle.desk_findings.specs.declared.finding.Matter.TheVariants as matter

-- the faults of the custodians and of the file systems
abbrev pub TellCustodians : Source → List Told → Type 0
TellCustodians source all =
    Tells (λ one. one.fault) (IsOnLineOrWhole source.text.now) (tell_table source) (custodian_faults source.text.now) all

abbrev pub TellFileSystems : Source → List Told → Type 0
TellFileSystems source all =
    Tells (λ one. one.fault) (IsOnLine source.text.now) (tell_table source) (filesystem_faults source.text.now) all

-- those, and then the faults of the tables after them
pub record TellHeads (sources : SiteSources) (all : List Told) : Type 0 where
  pub custodians : List Told
  pub filesystems : List Told
  pub tables : List Told
  pub tell_custodians : TellCustodians sources.custodians custodians
  pub tell_filesystems : TellFileSystems sources.filesystems filesystems
  pub tell_tables : TellTables sources.whole.tables tables
  pub are : all ≡ custodians ++ (filesystems ++ tables)

-- the index of a line's first custodian among its words: they stand behind the mount point, and behind the mark of a guarded one
abbrev pub first_custodian : Mount → ℕ
first_custodian mount = if mount.guarded then 2 else 1

-- how many custodians of the mount point stand before the first who is not listed
abbrev pub listed_before : List Custodian → Mount → ℕ
listed_before custodians mount = position_or_len (λ name. is_none (digest_of custodians name)) mount.custodians

-- the line of a mount point names a custodian who is not listed: it is told at the first such name
abbrev pub odd_of_unlisted : List Custodian → Mount → OddLine
odd_of_unlisted custodians mount =
    odd_word mount.line (matter.Fault (site_rule.Table table_rule.Custodian) None) (first_custodian mount + listed_before custodians mount)

-- the lines of file systems that name a custodian who is not listed
abbrev pub TellUnlisted : Source → List Custodian → List Mount → List Told → Type 0
TellUnlisted source custodians table all = TellInOrder source (map (odd_of_unlisted custodians) (filter (has_unlisted custodians) table)) all

-- those, and then the faults of the tables after the file systems
pub record TellUnlistedFirst (sources : SiteSources) (custodians : List Custodian) (table : List Mount) (all : List Told) : Type 0 where
  pub unlisted : List Told
  pub tables : List Told
  pub tell_unlisted : TellUnlisted sources.filesystems custodians table unlisted
  pub tell_tables : TellTables sources.whole.tables tables
  pub are : all ≡ unlisted ++ tables

abbrev pub GathersHeads : SiteSources → Gathered → Type 0
GathersHeads sources gathered = Finds (TellHeads sources) false gathered

abbrev pub GathersUnlisted : SiteSources → List Custodian → List Mount → Gathered → Type 0
GathersUnlisted sources custodians table gathered = Finds (TellUnlistedFirst sources custodians table) false gathered

abbrev pub GathersIfListed : Option ℕ → Bool → SiteSources → List Custodian → List Mount → Gathered → Type 0
GathersIfListed None opinions sources custodians table gathered = Gathers opinions sources.whole table gathered
GathersIfListed (Some line) opinions sources custodians table gathered = GathersUnlisted sources custodians table gathered

-- what is found with these custodians and file systems
abbrev pub GathersListed : Bool → SiteSources → List Custodian → List Mount → Gathered → Type 0
GathersListed opinions sources custodians table gathered = GathersIfListed (unlisted_line custodians table) opinions sources custodians table gathered

abbrev pub GathersBy : Result (List Mount) TableFault → Bool → SiteSources → List Custodian → Gathered → Type 0
GathersBy (Ok table) opinions sources custodians gathered = GathersListed opinions sources custodians table gathered
GathersBy (Err fault) opinions sources custodians gathered = GathersHeads sources gathered

-- what is found with these custodians
abbrev pub GathersWithCustodians : Bool → SiteSources → List Custodian → Gathered → Type 0
GathersWithCustodians opinions sources custodians gathered = GathersBy (read_filesystems sources.filesystems.text.now) opinions sources custodians gathered

abbrev pub GathersFrom : Result (List Custodian) TableFault → Bool → SiteSources → Gathered → Type 0
GathersFrom (Ok custodians) opinions sources gathered = GathersWithCustodians opinions sources custodians gathered
GathersFrom (Err fault) opinions sources gathered = GathersHeads sources gathered

-- What is found in a site's files, with opinions or without: each faulty line of its tables, the custodians among them; if there
-- is none, what is found in the exports text. Whether the custodians of the file systems are listed is asked only once no line of both files breaks
-- another rule.
abbrev pub GathersSite : Bool → SiteSources → Gathered → Type 0
GathersSite opinions sources gathered = GathersFrom (read_custodians sources.custodians.text.now) opinions sources gathered
