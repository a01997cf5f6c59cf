-- Directories of lines that no file system has anything of. (this project's own)
use Rattle.std.specs.Prelude.{◌≡◌, ℕ, ◌++◌, ◌∷◌, ◌||◌, not, Bool, true, List, [], Err, codes, if◌then◌else◌}
use Rattle.std.specs.Fmt.{decimal}
use Rattle.std.specs.List.{flat_map, list_any}
use Rattle.desk_text.specs.Path.{is_under, path_text}
use Rattle.desk_tables.specs.declared.filesystems.Mount.{Mount}
use Rattle.desk_policy.specs.Policy.{Content}
use Rattle.desk_policy.specs.Verdict.{verdict_of}
use Rattle.desk_policy.specs.declared.verdict.Denial.TheVariants.{NoFileSystem}
use Rattle.desk_expect.specs.declared.expectation.Expectation.{Expectation}
use Rattle.desk_expect.specs.declared.outside_directories.Outside.{Outside}
use Rattle.desk_expect.specs.declared.scope.Scope.{Scope}

-- a mount point is above a directory, is it, or lies below it
abbrev pub is_beside : List (List ℕ) → Mount → Bool
is_beside dir mount = is_under dir mount.path || is_under mount.path dir

-- a directory is under no mount point, and no mount point is under it
abbrev pub is_outside : List Mount → List (List ℕ) → Bool
is_outside table dir = not (list_any (is_beside dir) table)

-- such a directory, and the line that is about it
pub record OutsideValue : Type 0 where
  pub expectation : Expectation
  pub path : List (List ℕ)

abbrev pub outside_value : Outside → OutsideValue
outside_value outside = record { expectation = outside.expectation.now; path = outside.path.now }

abbrev pub outside_scope : List Mount → Expectation → Scope → List OutsideValue
outside_scope table expectation scope = if is_outside table scope.path then record { expectation = expectation; path = scope.path } ∷ [] else []

-- such directories of a line
abbrev pub outside_of : List Mount → Expectation → List OutsideValue
outside_of table expectation = flat_map (outside_scope table expectation) expectation.scopes

-- such directories of lines, line by line
abbrev pub outside_in : List Mount → List Expectation → List OutsideValue
outside_in table expectations = flat_map (outside_of table) expectations

-- the line of a text, and the directory, as `promises:3: /usr2`
abbrev pub outside_place : List ℕ → OutsideValue → List ℕ
outside_place file outside = file ++ 58 ∷ decimal outside.expectation.line ++ codes ": " ++ path_text outside.path

-- a line for each, as `promises:3: /usr2 is in no file system, nor is anything below it`
abbrev pub outside_line : List ℕ → OutsideValue → List ℕ
outside_line file outside = outside_place file outside ++ codes " is in no file system, nor is anything below it\n"

abbrev pub outside_text : List ℕ → List OutsideValue → List ℕ
outside_text file outside = flat_map (outside_line file) outside

-- Such a directory, and each path below it, is denied to every address, since no file system has it: so a line that forbids something
-- there holds whatever the lines of the policy say.
abbrev pub OutsideIsDenied : Type 0
OutsideIsDenied =
    (content : Content) (dir path : List (List ℕ)) (address : ℕ) → is_outside content.table dir ≡ true → is_under path dir ≡ true → verdict_of content address path ≡ Err NoFileSystem
