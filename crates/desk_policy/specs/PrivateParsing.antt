-- What the private contracts of the steps to the policy of a site cite.
use Rattle.std.specs.Prelude.{◌≡◌, ℕ, All, List, [], ◌∷◌, ◌++◌, Result, Ok, Err, length, map}
use Rattle.std.specs.List.{flat_map}
use Rattle.desk_text.specs.declared.reading.ReadError.{ReadError}
use Rattle.desk_text.specs.declared.reading.ReadError.TheVariants.{Fault, Memory}
use Rattle.desk_tables.specs.declared.filesystems.Mount.{Mount}
use Rattle.desk_policy.specs.Parsing.{ExportsFile, read_after_filesystems, read_policy, read_site_tables}
use Rattle.desk_policy.specs.Policy.{AreAscending, Content}
use Rattle.desk_policy.specs.Site.{SiteTexts}
use Rattle.desk_policy.specs.declared.parsing.SiteTables.{SiteTables}
use Rattle.desk_policy.specs.declared.row.Row.{Row}
use Rattle.desk_policy.specs.declared.site_fault.SiteFault.{SiteFault}
use Rattle.desk_policy.specs.declared.warning.Warning.{Warning}

-- what a file gives is added to what those before it gave, and its lines ascend
pub record AddsFile (read : Result ExportsFile SiteFault) (rows rows' : List (List Row)) (warnings warnings' : List Warning) : Type 0 where
  pub file : ExportsFile
  pub is : read ≡ Ok file
  pub lines : rows' ≡ rows ++ file.rows ∷ []
  pub warned : warnings' ≡ warnings ++ file.warnings
  pub ascending : AreAscending file.rows

-- that, or the file's fault is returned; out of memory says nothing
abbrev pub PushesFile : Result (Unit {0}) (ReadError SiteFault) → Result ExportsFile SiteFault → List (List Row) → List (List Row) → List Warning → List Warning → Type 0
PushesFile (Ok done) read rows rows' warnings warnings' = AddsFile read rows rows' warnings warnings'
PushesFile (Err Memory) read rows rows' warnings warnings' = Unit {0}
PushesFile (Err (Fault fault)) read rows rows' warnings warnings' = read ≡ Err fault

-- what so many files give is added, and the lines of each ascend
pub record AddsFiles (read : Result (List ExportsFile) SiteFault) (count : ℕ) (rows rows' : List (List Row)) (warnings warnings' : List Warning) : Type 0 where
  pub files : List ExportsFile
  pub is : read ≡ Ok files
  pub each : length files ≡ count
  pub lines : rows' ≡ rows ++ map (λ file. file.rows) files
  pub warned : warnings' ≡ warnings ++ flat_map (λ file. file.warnings) files
  pub ascending : All (λ file. AreAscending file.rows) files

-- that, or the first fault is returned; out of memory says nothing
abbrev pub PushesFiles : Result (Unit {0}) (ReadError SiteFault) → Result (List ExportsFile) SiteFault → ℕ → List (List Row) → List (List Row) → List Warning → List Warning → Type 0
PushesFiles (Ok done) read count rows rows' warnings warnings' = AddsFiles read count rows rows' warnings warnings'
PushesFiles (Err Memory) read count rows rows' warnings warnings' = Unit {0}
PushesFiles (Err (Fault fault)) read count rows rows' warnings warnings' = read ≡ Err fault

-- the tables after the file systems, and the policy with them; or the fault of the first faulty file
abbrev pub ReadsAfter : Result (SiteTables × Content) (ReadError SiteFault) → SiteTexts → List Mount → Type 0
ReadsAfter (Ok both) texts table = (read_site_tables texts ≡ Ok both.0) × (read_policy texts table both.0 ≡ Ok both.1)
ReadsAfter (Err (Fault fault)) texts table = read_after_filesystems texts table ≡ Err fault
ReadsAfter (Err Memory) texts table = Unit {0}
