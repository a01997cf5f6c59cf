-- One exports file of a site read by itself, and what a site has if its texts differ in that one alone. (this project's own)
use Rattle.std.specs.Prelude.{◌≡◌, ◌≢◌, ℕ, List, Some, Result, Ok, Err, slice_get, slice_set}
use Rattle.desk_text.specs.Path.{path_text}
use Rattle.desk_text.specs.declared.reading.ReadError.{ReadError}
use Rattle.desk_text.specs.declared.reading.ReadError.TheVariants.{Fault, Memory}
use Rattle.desk_tables.specs.declared.filesystems.Mount.{Mount}
use Rattle.desk_policy.specs.Parsing.{ExportsFile, read_exports, read_site, read_site_tables, read_text}
use Rattle.desk_policy.specs.Policy.{AreAscending, Content, rows_of}
use Rattle.desk_policy.specs.Site.{SiteTexts}
use Rattle.desk_policy.specs.declared.parsing.SiteTables.{SiteTables}
use Rattle.desk_policy.specs.declared.row.Row.{Row}
use Rattle.desk_policy.specs.declared.site.ExportsText.{ExportsText}
use Rattle.desk_policy.specs.declared.site_fault.SiteFault.{SiteFault}

-- these are the lines of a file that was read, and they ascend
abbrev pub HasLines : Result ExportsFile SiteFault → List Row → Type 0
HasLines (Ok file) rows = (rows ≡ file.rows) × AreAscending rows
HasLines (Err fault) rows = ⊥

-- the lines of the file, or its fault; out of memory says nothing
abbrev pub GivesLines : Result (List Row) (ReadError SiteFault) → Result ExportsFile SiteFault → Type 0
GivesLines (Ok rows) read = HasLines read rows
GivesLines (Err (Fault fault)) read = read ≡ Err fault
GivesLines (Err Memory) read = Unit {0}

-- the lines that a text writes as the exports file of a listed file system, or its fault
abbrev pub ReadsLines : Result (List Row) (ReadError SiteFault) → ExportsText → List Mount → SiteTables → ℕ → Type 0
ReadsLines result text table site_tables fs = (mount : Mount) → slice_get table fs ≡ Some mount → GivesLines result (read_text text table site_tables fs mount.path)

-- texts that differ, of the files that are read, in the exports file of this file system alone
pub record DifferIn (table : List Mount) (fs : ℕ) (texts other : SiteTexts) : Type 0 where
  pub files : other.files ≡ texts.files
  pub exports : (place : ℕ) (mount : Mount) → place ≢ fs → slice_get table place ≡ Some mount → other.exports (path_text mount.path) ≡ texts.exports (path_text mount.path)

-- the policy that was read has these lines for one file system, and the other lines of a former policy (its warnings may be
-- others)
pub record ReplacesLines (former : Content) (fs : ℕ) (rows : List Row) (read : Result Content SiteFault) : Type 0 where
  pub policy : Content
  pub is : read ≡ Ok policy
  pub table : policy.table ≡ former.table
  pub lines : policy.rows ≡ slice_set former.rows fs rows
  pub own : rows_of policy fs ≡ rows

-- the lines of a file stand in the policy, or the file's fault is the site's
abbrev pub ReadsWith : Content → ℕ → Result ExportsFile SiteFault → Result Content SiteFault → Type 0
ReadsWith former fs (Ok file) read = ReplacesLines former fs file.rows read
ReadsWith former fs (Err fault) read = read ≡ Err fault

-- If no file of a site is faulty, and other texts differ from its texts in one exports file alone, their policy is the site's
-- with that file's lines in place of the former ones, or that file's fault is theirs.
abbrev pub OneFileIsReplaced : Type 0
OneFileIsReplaced =
    (texts other : SiteTexts) (content : Content) (site_tables : SiteTables) (fs : ℕ) (mount : Mount)
    → read_site texts ≡ Ok content → read_site_tables texts ≡ Ok site_tables → slice_get content.table fs ≡ Some mount
    → DifferIn content.table fs texts other → ReadsWith content fs (read_exports other content.table site_tables fs mount.path) (read_site other)
