-- Beside each directory that a line writes there is a path of the same file system that no line writes: right below it, with a name
-- longer than all that is mounted or written.
use Rattle.std.proofs.Common.{◌≡◌, ◌∙◌, ℕ, ◌+◌, ◌<◌, ◌≤◌, ◌&&◌, ◌||◌, not, true, false, cond, List, [], ◌∷◌, ◌++◌, Some, None, ap, arith, inl, inr, length, refl, replicate, sym}
use Rattle.std.specs.Prelude.{nat_le, nat_lt}
use Rattle.std.specs.List.{AllByRecursion, list_all, prefix_len}
use Rattle.std.specs.Str.{bytes_eq}
use Rattle.std.proofs.lemmas.Bool.{and_right, cases_Bool, false_from_ne_true}
use Rattle.std.proofs.lemmas.List.{length-replicate}
use Rattle.std.proofs.lemmas.Slice.Eq.{bytes_eq-Decides}
use Rattle.desk_text.specs.Path.{is_under, same_path}
use Rattle.desk_tables.specs.FileSystems.{fs_of, is_file_system, mount_points}
use Rattle.desk_tables.specs.declared.filesystems.Mount.{Mount}
use Rattle.desk_policy.specs.Verdict.{is_directory_among}
use Rattle.desk_idle.proofs.Directories.{Path, same_are}

-- ---- how many letters paths have

letters : Path → ℕ
letters [] = 0
letters (part ∷ path) = length part + letters path

all_letters : List Path → ℕ
all_letters [] = 0
all_letters (path ∷ paths) = letters path + all_letters paths

last_letters : (path : Path) (name : List ℕ) → length name ≤ letters (path ++ name ∷ [])
unfolding letters
last_letters [] name = omega arith
last_letters (part ∷ path) name = let rest = last_letters path name in omega arith

-- a path with more letters than these is none of them
none_is : (path : Path) (paths : List Path) → all_letters paths < letters path → AllByRecursion (λ (other : Path). other ≡ path → ⊥) paths
unfolding letters all_letters
none_is path [] more = tt
none_is path (other ∷ paths) more = (λ is. let same = ap letters is in absurd (omega arith), none_is path paths (omega arith))

not_among : (path : Path) (dirs : List Path) → AllByRecursion (λ (other : Path). other ≡ path → ⊥) dirs → is_directory_among path dirs ≡ false
not_among path [] apart = refl
not_among path (dir ∷ dirs) apart =
    ap (λ b. b || is_directory_among path dirs) (false_from_ne_true (same_path dir path) (λ same. apart.0 (same_are dir path same))) ∙ not_among path dirs apart.1

-- ---- under which mount points the path is

child_above : (dir : Path) (name : List ℕ) (mount : Path) → (mount ≡ dir ++ name ∷ [] → ⊥) → is_under (dir ++ name ∷ []) mount ≡ is_under dir mount
child_above [] name [] apart = refl
child_above [] name (part ∷ []) apart = ap (λ b. b && true) (false_from_ne_true (bytes_eq name part) (λ e. apart (ap (λ (p : List ℕ). p ∷ []) (sym ((bytes_eq-Decides name part).0 e)))))
child_above [] name (part ∷ other ∷ above) apart = and_right (bytes_eq name part) false refl
child_above (own ∷ dir) name [] apart = refl
child_above (own ∷ dir) name (part ∷ above) apart =
    elim (cases_Bool (bytes_eq own part)) as (λ _. is_under (own ∷ dir ++ name ∷ []) (part ∷ above) ≡ is_under (own ∷ dir) (part ∷ above)) [
      | inl e ↦
          let same : part ≡ own = sym ((bytes_eq-Decides own part).0 e) in
          ap (λ b. bytes_eq own part && b) (child_above dir name above (λ is. apart (ap (λ (p : List ℕ). p ∷ above) same ∙ ap (λ (ps : Path). own ∷ ps) is)))
      | inr e ↦ ap (λ b. b && is_under (dir ++ name ∷ []) above) e ∙ sym (ap (λ b. b && is_under dir above) e)
    ]

-- ---- a path that is under the same mount points is in the same file system

abbrev SameAbove : Path → Path → Mount → Type 0
SameAbove path dir mount = is_under path mount.path ≡ is_under dir mount.path

same_longest : (path dir : Path) (one : Mount) (table : List Mount) → AllByRecursion (SameAbove path dir) table
    → list_all (λ other. not (is_under path other.path) || nat_le (length other.path) (length one.path)) table
    ≡ list_all (λ other. not (is_under dir other.path) || nat_le (length other.path) (length one.path)) table
same_longest path dir one [] all = refl
same_longest path dir one (other ∷ table) all =
    ap (λ b. (not b || nat_le (length other.path) (length one.path)) && list_all (λ (other : Mount). not (is_under path other.path) || nat_le (length other.path) (length one.path)) table) all.0
    ∙ ap (λ b. (not (is_under dir other.path) || nat_le (length other.path) (length one.path)) && b) (same_longest path dir one table all.1)

same_first : (path dir : Path) (table some : List Mount) → AllByRecursion (SameAbove path dir) table → AllByRecursion (SameAbove path dir) some
    → prefix_len (λ one. not (is_file_system table path one)) some ≡ prefix_len (λ one. not (is_file_system table dir one)) some
same_first path dir table [] all each = refl
same_first path dir table (one ∷ some) all each =
    ap (λ b. cond (not b) (1 + prefix_len (λ one. not (is_file_system table path one)) some) 0)
    (ap (λ b. b && list_all (λ (other : Mount). not (is_under path other.path) || nat_le (length other.path) (length one.path)) table) each.0
    ∙ ap (λ b. is_under dir one.path && b) (same_longest path dir one table all))
    ∙ ap (λ n. cond (not (is_file_system table dir one)) (1 + n) 0) (same_first path dir table some all each.1)

same_fs : (path dir : Path) (table : List Mount) → AllByRecursion (SameAbove path dir) table → fs_of table path ≡ fs_of table dir
same_fs path dir table all = ap (λ n. cond (nat_lt n (length table)) (Some n) None) (same_first path dir table table all all)

all_above : (dir : Path) (name : List ℕ) (table : List Mount) → AllByRecursion (λ (other : Path). other ≡ dir ++ name ∷ [] → ⊥) (mount_points table) → AllByRecursion (SameAbove (dir ++ name ∷ []) dir) table
all_above dir name [] apart = tt
all_above dir name (mount ∷ table) apart = (child_above dir name mount.path apart.0, all_above dir name table apart.1)

-- ---- a path that no line writes

-- a path of the directory's file system that is none of these directories
pub record Beside (table : List Mount) (dir : Path) (dirs : List Path) : Type 0 where
  pub path : Path
  pub here : fs_of table path ≡ fs_of table dir
  pub unwritten : is_directory_among path dirs ≡ false

pub beside : (table : List Mount) (dir : Path) (dirs : List Path) → Beside table dir dirs
beside table dir dirs =
    let count : ℕ = all_letters (mount_points table) + all_letters dirs + 1 in
    let name : List ℕ = replicate count 120 in
    let path : Path = dir ++ name ∷ [] in
    let long : length name ≡ count = length-replicate count 120 in
    let letters_of = last_letters dir name in
    record {
      path = path;
      here = same_fs path dir table (all_above dir name table (none_is path (mount_points table) (omega arith)));
      unwritten = not_among path dirs (none_is path dirs (omega arith));
    }
