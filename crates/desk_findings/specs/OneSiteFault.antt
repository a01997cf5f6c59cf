-- The finding of one fault of a site: of a line of an exports file, or of a contradiction. (this project's own)
use Rattle.std.specs.Prelude.{◌≡◌, ℕ, List, [], Option, Some, None, Result, Ok, Err}
use Rattle.desk_text.specs.Lines.{IsReadable}
use Rattle.desk_text.specs.declared.address.Addr.{Addr}
use Rattle.desk_text.specs.declared.reading.LineFault.{LineFault}
use Rattle.desk_tables.specs.FileSystemsText.{read_filesystems}
use Rattle.desk_tables.specs.Rules.{TableFault}
use Rattle.desk_tables.specs.declared.filesystems.Mount.{Mount}
use Rattle.desk_exports.specs.declared.files.Scope.{Scope}
use Rattle.desk_exports.specs.declared.files.Scope.TheVariants.{File, Whole}
use Rattle.desk_exports.specs.declared.profile.Profile.{Profile}
use Rattle.desk_exports.specs.declared.rules.Rule.{Rule}
use Rattle.desk_policy.specs.Parsing.{rows_with}
use Rattle.desk_policy.specs.SiteFile.{exports_place}
use Rattle.desk_policy.specs.declared.parsing.SiteTables.{SiteTables}
use Rattle.desk_policy.specs.declared.site_fault.SiteFault.{SiteFault}
use Rattle.desk_findings.specs.CheckFaults.{AreReadable}
use Rattle.desk_findings.specs.CheckOdd.{OddLine, odd_line}
use Rattle.desk_findings.specs.CheckText.{tables_of}
use Rattle.desk_findings.specs.OneFault.{TellOneWith}
use Rattle.desk_findings.specs.Told.{Told}
use Rattle.desk_findings.specs.declared.check_faults.Source.{Source}
use Rattle.desk_findings.specs.declared.check_site.SiteSources.{SiteSources}
use Rattle.desk_findings.specs.declared.finding.Matter.TheVariants as matter

-- no text of a site is too long to be read
pub record AreReadableTexts (sources : SiteSources) : Type 0 where
  pub custodians : IsReadable sources.custodians.text.now
  pub filesystems : IsReadable sources.filesystems.text.now
  pub tables : AreReadable sources.whole.tables
  pub exports : IsReadable sources.whole.exports.text.now

-- the scope of the file system that stands there, or else all
abbrev pub scope_at : Option ℕ → Scope
scope_at None = Whole
scope_at (Some fs) = File (record { 0 = fs })

-- the scope in which the lines of a file of this name are read: that of the file system whose exports file it is, or else all
abbrev pub scope_of : List ℕ → List Mount → Scope
scope_of name table = scope_at (exports_place table name)

-- the fault of a line of an exports file that is read by this profile, with these file systems and tables, is told
abbrev pub TellLineWith : Profile → Source → LineFault Rule → List Mount → SiteTables → List Told → Type 0
TellLineWith profile source fault table site_tables all = TellOneWith source fault (scope_of source.path.now table) (rows_with profile table site_tables) all

abbrev pub TellLineIn : Result (List Mount) TableFault → Profile → Source → LineFault Rule → SiteTables → List Told → Type 0
TellLineIn (Ok table) profile source fault site_tables all = TellLineWith profile source fault table site_tables all
TellLineIn (Err bad) profile source fault site_tables all = all ≡ []

-- the same with the tables and the file systems of a site, if they can be read; else nothing
abbrev pub TellLineBy : Result SiteTables SiteFault → Profile → SiteSources → LineFault Rule → List Told → Type 0
TellLineBy (Ok site_tables) profile sources fault all =
    TellLineIn (read_filesystems sources.filesystems.text.now) profile sources.whole.exports fault site_tables all
TellLineBy (Err bad) profile sources fault all = all ≡ []

abbrev pub TellLine : Profile → SiteSources → LineFault Rule → List Told → Type 0
TellLine profile sources fault all = TellLineBy (tables_of sources.whole.tables) profile sources fault all

-- a line that contradicts an earlier one
abbrev pub odd_of_clash : ℕ → ℕ → Addr → OddLine
odd_of_clash line other address = odd_line line (matter.Contradiction other address)
