-- What `check` finds in the folder of a site's files, of which some may be missing. (this project's own)
use Rattle.std.specs.Prelude.{◌≡◌, ◌++◌, Bool, false, List, Option, None, Some, Result, Ok, Err}
use Rattle.std.specs.Option.{IfSome}
use Rattle.desk_text.specs.Lines.{IsReadable}
use Rattle.desk_tables.specs.Custodians.{read_custodians}
use Rattle.desk_tables.specs.FileSystemsText.{read_filesystems}
use Rattle.desk_tables.specs.Rules.{TableFault}
use Rattle.desk_tables.specs.declared.custodians.Custodian.{Custodian}
use Rattle.desk_tables.specs.declared.filesystems.Mount.{Mount}
use Rattle.desk_findings.specs.CheckFaults.{TellTables}
use Rattle.desk_findings.specs.CheckSite.{GathersSite, TellCustodians, TellFileSystems}
use Rattle.desk_findings.specs.CheckText.{Finds, Gathers}
use Rattle.desk_findings.specs.Told.{Told}
use Rattle.desk_findings.specs.declared.check_faults.Source.{Source}
use Rattle.desk_findings.specs.declared.check_folder.Systems as code
use Rattle.desk_findings.specs.declared.check_folder.Systems.TheVariants as given
use Rattle.desk_findings.specs.declared.check_text.Gathered.{Gathered}
use Rattle.desk_findings.specs.declared.check_text.WholeSources.{WholeSources}

-- the file systems of a folder: their text, or a table that was made of mount points
pub data Systems : Type 0 where
  Listed : Source → Systems
  Mounted : List Mount → Systems

abbrev pub systems_of : code.Systems → Systems
systems_of (given.Listed source) = Listed source
systems_of (given.Mounted table) = Mounted table

-- a text that is there can be read
abbrev pub IsReadableIfThere : Option Source → Type 0
IsReadableIfThere source = IfSome source (λ one. IsReadable one.text.now)

abbrev pub AreReadableSystems : code.Systems → Type 0
AreReadableSystems (given.Listed source) = IsReadable source.text.now
AreReadableSystems (given.Mounted table) = Unit {0}

-- the faults of one text, and then those of the tables
pub record TellOneFirst (TellOne : List Told → Type 0) (sources : WholeSources) (all : List Told) : Type 0 where
  pub first : List Told
  pub tables : List Told
  pub tell_first : TellOne first
  pub tell_tables : TellTables sources.tables tables
  pub are : all ≡ first ++ tables

abbrev pub GathersOneHead : (List Told → Type 0) → WholeSources → Gathered → Type 0
GathersOneHead TellOne sources gathered = Finds (TellOneFirst TellOne sources) false gathered

-- what is found with custodians that are read so, and this table
abbrev pub GathersKeptBy : Result (List Custodian) TableFault → Bool → Source → List Mount → WholeSources → Gathered → Type 0
GathersKeptBy (Ok custodians) opinions source table sources gathered = Gathers opinions sources table gathered
GathersKeptBy (Err fault) opinions source table sources gathered = GathersOneHead (TellCustodians source) sources gathered

abbrev pub GathersKept : Bool → Source → List Mount → WholeSources → Gathered → Type 0
GathersKept opinions source table sources gathered = GathersKeptBy (read_custodians source.text.now) opinions source table sources gathered

-- what is found with file systems that are read so, if nobody asks for their custodians
abbrev pub GathersListedBy : Result (List Mount) TableFault → Bool → Source → WholeSources → Gathered → Type 0
GathersListedBy (Ok table) opinions source sources gathered = Gathers opinions sources table gathered
GathersListedBy (Err fault) opinions source sources gathered = GathersOneHead (TellFileSystems source) sources gathered

abbrev pub GathersListed : Bool → Source → WholeSources → Gathered → Type 0
GathersListed opinions source sources gathered = GathersListedBy (read_filesystems source.text.now) opinions source sources gathered

-- What is found in a folder, with opinions or without: in that of all files of a site as in a site's files; without custodians whether
-- they are listed is not asked; and a table that was made of mount points has no fault and no custodian.
abbrev pub GathersFolder : Bool → Option Source → Systems → WholeSources → Gathered → Type 0
GathersFolder opinions (Some custodians) (Listed filesystems) sources gathered = GathersSite opinions (record { custodians = custodians; filesystems = filesystems; whole = sources }) gathered
GathersFolder opinions (Some custodians) (Mounted table) sources gathered = GathersKept opinions custodians table sources gathered
GathersFolder opinions None (Listed filesystems) sources gathered = GathersListed opinions filesystems sources gathered
GathersFolder opinions None (Mounted table) sources gathered = Gathers opinions sources table gathered
