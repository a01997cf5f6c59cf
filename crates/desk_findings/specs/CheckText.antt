-- What `check` finds in an exports text and its tables. (this project's own)
use Rattle.std.specs.Prelude.{◌≡◌, ◌++◌, Bool, true, false, List, [], Result, Ok, Err, map}
use Rattle.desk_text.specs.declared.reading.LineFault.{LineFault}
use Rattle.desk_tables.specs.declared.filesystems.FsId.{FsId}
use Rattle.desk_tables.specs.declared.filesystems.Mount.{Mount}
use Rattle.desk_exports.specs.Faults.{IsPlaced as IsPlacedInExports}
use Rattle.desk_exports.specs.Files.{text_faults, whole_answer}
use Rattle.desk_exports.specs.declared.entry.Entry.{Entry}
use Rattle.desk_exports.specs.declared.files.Scope.TheVariants.{Whole}
use Rattle.desk_exports.specs.declared.profile.Profile.TheVariants.{Two}
use Rattle.desk_exports.specs.declared.rules.Rule.{Rule}
use Rattle.desk_policy.specs.Parsing.{read_tables, rows_with}
use Rattle.desk_policy.specs.PerTable.{map_tables}
use Rattle.desk_policy.specs.Policy.{Content, content_of}
use Rattle.desk_policy.specs.Warning.{netgroup_warnings, whole_warnings}
use Rattle.desk_policy.specs.declared.contradiction.Contradiction.{Contradiction}
use Rattle.desk_policy.specs.declared.parsing.SiteTables.{SiteTables}
use Rattle.desk_policy.specs.declared.per_table.PerTable.{PerTable}
use Rattle.desk_policy.specs.declared.site_fault.SiteFault.{SiteFault}
use Rattle.desk_policy.specs.declared.warning.Warning.{Warning}
use Rattle.desk_remarks.specs.Remarks.{AreRemarks}
use Rattle.desk_remarks.specs.declared.remark.LineRemark.{LineRemark}
use Rattle.desk_findings.specs.CheckFaults.{TellTables, Tells, tell_line}
use Rattle.desk_findings.specs.CheckOdd.{AreContradictionsIn, TellInOrder, TellOdds, odds_of}
use Rattle.desk_findings.specs.OddWords.{odd_words}
use Rattle.desk_findings.specs.Told.{Told, told}
use Rattle.desk_findings.specs.declared.check_faults.Source.{Source}
use Rattle.desk_findings.specs.declared.check_odd.Among.TheVariants.{Clients, Members}
use Rattle.desk_findings.specs.declared.check_text.Gathered.{Gathered}
use Rattle.desk_findings.specs.declared.check_text.WholeSources.{WholeSources}

-- the findings tell this, and the exports text was looked at, or was not
pub record Finds (TellAll : List Told → Type 0) (read_exports : Bool) (gathered : Gathered) : Type 0 where
  pub tell : TellAll (map told gathered.findings)
  pub looked : gathered.read_exports ≡ read_exports

-- the faults of an exports text by profile 2, with these file systems and tables
abbrev pub TellLineFaults : Source → List Mount → SiteTables → List Told → Type 0
TellLineFaults source table site_tables all =
    Tells (λ one. one.fault) (IsPlacedInExports source.text.now) (tell_line source) (text_faults (rows_with Two table site_tables) Whole source.text.now) all

-- the warnings of a netgroup file
abbrev pub TellNetgroupWarnings : Source → SiteTables → List Told → Type 0
TellNetgroupWarnings source site_tables all = TellOdds Members source [] (netgroup_warnings site_tables.netgroups site_tables.hosts) [] all

-- the contradictions of the lines of each file system, these warnings of an exports text, what is said of its lines, with opinions or
-- without, and the words that mountd(8) may read otherwise
pub record TellInconsistencies (opinions : Bool) (source : Source) (content : Content) (warnings : List Warning) (all : List Told) : Type 0 where
  pub clashes : List Contradiction
  pub are_clashes : AreContradictionsIn content.rows clashes
  pub remarks : List LineRemark
  pub are_remarks : AreRemarks opinions content warnings remarks
  pub tell : TellInOrder source (odds_of Clients clashes warnings remarks ++ odd_words opinions source.text.now) all

-- the warnings of the netgroup file, and then the contradictions, the warnings and the remarks of an exports text of these entries
pub record TellOddities (opinions : Bool) (sources : WholeSources) (table : List Mount) (site_tables : SiteTables) (entries : List (FsId × Entry)) (all : List Told) : Type 0 where
  pub netgroup : List Told
  pub exports : List Told
  pub tell_netgroup : TellNetgroupWarnings sources.tables.netgroup site_tables netgroup
  pub tell_exports : TellInconsistencies opinions sources.exports (content_of site_tables.netgroups site_tables.hosts table entries) (whole_warnings site_tables.netgroups site_tables.hosts entries) exports
  pub are : all ≡ netgroup ++ exports

-- the faults of the tables alone
abbrev pub GathersTables : PerTable Source → Gathered → Type 0
GathersTables tables gathered = Finds (TellTables tables) false gathered

abbrev pub GathersFaults : Source → List Mount → SiteTables → Gathered → Type 0
GathersFaults source table site_tables gathered = Finds (TellLineFaults source table site_tables) true gathered

abbrev pub GathersOdd : Bool → WholeSources → List Mount → SiteTables → List (FsId × Entry) → Gathered → Type 0
GathersOdd opinions sources table site_tables entries gathered = Finds (TellOddities opinions sources table site_tables entries) true gathered

-- what is found by what the exports text is read as
abbrev pub GathersBy : Result (List (FsId × Entry)) (LineFault Rule) → Bool → WholeSources → List Mount → SiteTables → Gathered → Type 0
GathersBy (Ok entries) opinions sources table site_tables gathered = GathersOdd opinions sources table site_tables entries gathered
GathersBy (Err fault) opinions sources table site_tables gathered = GathersFaults sources.exports table site_tables gathered

-- What is found in an exports text with good tables, by profile 2: each faulty line, or else what it and the netgroup file are
-- warned of, each line that contradicts an earlier one, and what is said of the other lines.
abbrev pub GathersExports : Bool → WholeSources → List Mount → SiteTables → Gathered → Type 0
GathersExports opinions sources table site_tables gathered =
    GathersBy (whole_answer (rows_with Two table site_tables) sources.exports.text.now) opinions sources table site_tables gathered

-- what these texts of the five tables are read as
abbrev pub tables_of : PerTable Source → Result SiteTables SiteFault
tables_of sources = read_tables (map_tables (λ (source : Source). source.text.now) sources)

abbrev pub GathersWith : Result SiteTables SiteFault → Bool → WholeSources → List Mount → Gathered → Type 0
GathersWith (Ok site_tables) opinions sources table gathered = GathersExports opinions sources table site_tables gathered
GathersWith (Err fault) opinions sources table gathered = GathersTables sources.tables gathered

-- What is found in an exports text and its tables, with opinions or without: each faulty line of the tables, and else what is
-- found in the exports text.
abbrev pub Gathers : Bool → WholeSources → List Mount → Gathered → Type 0
Gathers opinions sources table gathered = GathersWith (tables_of sources.tables) opinions sources table gathered
