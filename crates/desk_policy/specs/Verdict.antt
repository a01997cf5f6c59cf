-- Who may mount what. (this project's own, over exports(5))
use Rattle.std.specs.Prelude.{◌≡◌, ℕ, ◌≤◌, ◌==◌, ◌||◌, ◌&&◌, Bool, true, false, List, [], ◌∷◌, Option, Some, None, Result, Ok, Err, find}
use Rattle.std.specs.List.{AllByRecursion, list_any}
use Rattle.desk_text.specs.Path.{same_path}
use Rattle.desk_tables.specs.FileSystems.{fs_of}
use Rattle.desk_tables.specs.declared.filesystems.FsId.{FsId}
use Rattle.desk_exports.specs.declared.entry.Terms.{Terms}
use Rattle.desk_policy.specs.Policy.{AreAscending, Content, rows_of}
use Rattle.desk_policy.specs.Weights.{selected}
use Rattle.desk_policy.specs.declared.row.Row.{Row}
use Rattle.desk_policy.specs.declared.verdict.Denial.{Denial}
use Rattle.desk_policy.specs.declared.verdict.Denial.TheVariants.{NoFileSystem, NoLine, NotListed}
use Rattle.desk_policy.specs.declared.verdict.Verdict.{Verdict}
use Rattle.desk_policy.specs.declared.verdict.Verdict.TheVariants.{Granted, Denied}

-- by which line of which file system a mount is granted, and on what terms
pub record Grant : Type 0 where
  pub fs : FsId
  pub line : ℕ
  pub terms : Terms

-- the file system, if there is one, is this one
abbrev pub is_in : Option ℕ → ℕ → Bool
is_in None fs = false
is_in (Some other) fs = other == fs

-- the path is one of these
abbrev pub is_directory_among : List (List ℕ) → List (List (List ℕ)) → Bool
is_directory_among path dirs = list_any (λ dir. same_path dir path) dirs

-- A line of a file system lists a path that is one of its directories; with -alldirs it lists each path of the file
-- system.
abbrev pub lists : Content → ℕ → List (List ℕ) → Row → Bool
lists content fs path row = is_directory_among path row.entry.dirs || (row.entry.alldirs && is_in (fs_of content.table path) fs)

-- a line of the path's own file system lists the path
abbrev pub lists_here : List (List ℕ) → Row → Bool
lists_here path row = is_directory_among path row.entry.dirs || row.entry.alldirs

-- the line that was found grants; where none was, the first selected line is named
abbrev pub granted_by : FsId → Row → Option Row → Result Grant Denial
granted_by fs first None = Err (NotListed fs first.entry.line)
granted_by fs first (Some row) = Ok (record { fs = fs; line = row.entry.line; terms = row.entry.terms })

-- the verdict among the selected lines of a file system, by which of them lists the path
abbrev pub verdict_among : FsId → (Row → Bool) → List Row → Result Grant Denial
verdict_among fs listing [] = Err (NoLine fs)
verdict_among fs listing (first ∷ others) = granted_by fs first (find listing (first ∷ others))

-- the verdict on a path of this file system
abbrev pub verdict_in : Content → ℕ → List (List ℕ) → Option ℕ → Result Grant Denial
verdict_in content address path None = Err NoFileSystem
verdict_in content address path (Some fs) = verdict_among (record { 0 = fs }) (lists content fs path) (selected (rows_of content fs) address)

-- the verdict for an address and a path
unfoldable pub verdict_of : Content → ℕ → List (List ℕ) → Result Grant Denial
verdict_of content address path = verdict_in content address path (fs_of content.table path)

-- a line with this number passes, and none that passes has a smaller number
pub record IsLeastLine (passes : Row → Bool) (rows : List Row) (line : ℕ) : Type 0 where
  pub found : list_any (λ row. passes row && row.entry.line == line) rows ≡ true
  pub least : AllByRecursion (λ row. passes row ≡ true → line ≤ row.entry.line) rows

-- the mount is granted in this file system, by the least line that passes, and on its terms
pub record IsLeastGrant (fs : FsId) (passes : Row → Bool) (rows : List Row) (grant : Grant) : Type 0 where
  pub here : grant.fs ≡ fs
  pub least : IsLeastLine passes rows grant.line
  pub terms : AllByRecursion (λ row. passes row ≡ true → row.entry.line ≡ grant.line → row.entry.terms ≡ grant.terms) rows

-- The verdict names the least selected line that lists the path, with its terms; if none does, the least selected line;
-- and if nothing is selected, none.
abbrev pub NamesLeastLine : FsId → (Row → Bool) → List Row → Result Grant Denial → Type 0
NamesLeastLine fs listing chosen (Ok grant) = IsLeastGrant fs listing chosen grant
NamesLeastLine fs listing chosen (Err NoFileSystem) = ⊥
NamesLeastLine fs listing chosen (Err (NoLine named)) = (named ≡ fs) × (chosen ≡ [])
NamesLeastLine fs listing chosen (Err (NotListed named line)) = (named ≡ fs) × (list_any listing chosen ≡ false) × IsLeastLine (λ row. true) chosen line

-- Of lines in the order of their numbers the least is named.
abbrev pub LeastLinesAreNamed : Type 0
LeastLinesAreNamed =
    (fs : FsId) (listing : Row → Bool) (rows : List Row) (address : ℕ) → AreAscending rows
    → NamesLeastLine fs listing (selected rows address) (verdict_among fs listing (selected rows address))

-- a verdict by value
abbrev pub verdict_result : Verdict → Result Grant Denial
verdict_result (Granted fs line terms) = Ok (record { fs = fs; line = line; terms = terms.now })
verdict_result (Denied denial) = Err denial
