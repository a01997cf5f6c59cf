-- Paths that no line writes are decided on as all of the same file system are, by lines with -alldirs alone.
use Rattle.std.proofs.Common.{◌≡◌, ℕ, zero, suc, ◌+◌, ◌||◌, ◌&&◌, not, Bool, true, false, cond, List, [], ◌∷◌, length, refl, sym, ap, ◌∙◌, arith, inl, inr}
use Rattle.std.specs.Prelude.{Option, Some, None, Err, filter, find, nat_le, nat_lt, slice_index_or}
use Rattle.std.specs.List.{AllByRecursion, flat_map, list_all, list_any, prefix_len}
use Rattle.std.proofs.lemmas.Bool.{and_parts, cases_Bool, eq-eqb, false_from_ne_true, le-ltb, or_cases, or_parts, true≢false}
use Rattle.std.proofs.lemmas.List.Folds.{list_all-append, list_any-append}
use Rattle.desk_text.specs.Path.{is_under, same_path}
use Rattle.desk_tables.specs.FileSystems.{fs_of, is_file_system, mount_points}
use Rattle.desk_tables.specs.declared.filesystems.Mount.{Mount}
use Rattle.desk_policy.specs.Listings.{written}
use Rattle.desk_policy.specs.Policy.{Content, rows_of}
use Rattle.desk_policy.specs.Verdict.{granted_by, is_directory_among, is_in, lists, verdict_among, verdict_in, verdict_of}
use Rattle.desk_policy.specs.Weights.{is_greatest, selected, weight_of}
use Rattle.desk_policy.specs.declared.row.Row.{Row}
use Rattle.desk_policy.specs.declared.verdict.Denial.TheVariants.{NoFileSystem}
use Rattle.desk_impact.specs.Impact.{verdicts_at}
use Rattle.desk_impact.specs.Places.{Others, OtherPathsHaveNone, all_written, dirs_of_both, is_home, mounts_of_both, place_verdicts, verdict_elsewhere}
use Rattle.desk_impact.proofs.Same.{Path}
use Rattle.desk_impact.proofs.Under.{is_above, under_trans}

-- ---- the first place at which a test passes
module _ {X : Type 0} (p q : X → Bool) where
  same_prefix : (xs : List X) → AllByRecursion (λ x. p x ≡ q x) xs → prefix_len (λ x. not (p x)) xs ≡ prefix_len (λ x. not (q x)) xs
  same_prefix [] all = refl
  same_prefix (x ∷ xs) all =
      ap (λ b. cond (not b) (1 + prefix_len (λ x. not (p x)) xs) 0) all.0
      ∙ ap (λ n. cond (not (q x)) (1 + n) 0) (same_prefix xs all.1)

none_passes : {X : Type 0} (p : X → Bool) (xs : List X) → AllByRecursion (λ x. p x ≡ false) xs → prefix_len (λ x. not (p x)) xs ≡ length xs
none_passes p [] all = refl
none_passes p (x ∷ xs) all =
    let rest = none_passes p xs all.1 in
    let one_more : 1 + prefix_len (λ x. not (p x)) xs ≡ length (x ∷ xs) = omega (arith, rest) in
    ap (λ b. cond (not b) (1 + prefix_len (λ x. not (p x)) xs) 0) all.0 ∙ one_more

-- ---- the file system of a path at home at a mount point is that of the mount point
abbrev SameAbove : Path → Path → Mount → Type 0
SameAbove path mount one = is_under path one.path ≡ is_under mount one.path

same_longest : (path mount : Path) (one : Mount) (table : List Mount) → AllByRecursion (SameAbove path mount) table
    → list_all (λ other. not (is_under path other.path) || nat_le (length other.path) (length one.path)) table
    ≡ list_all (λ other. not (is_under mount other.path) || nat_le (length other.path) (length one.path)) table
same_longest path mount one [] all = refl
same_longest path mount one (other ∷ table) all =
    ap (λ b. (not b || nat_le (length other.path) (length one.path)) && list_all (λ (other : Mount). not (is_under path other.path) || nat_le (length other.path) (length one.path)) table) all.0
    ∙ ap (λ b. (not (is_under mount other.path) || nat_le (length other.path) (length one.path)) && b) (same_longest path mount one table all.1)

same_tests : (path mount : Path) (table some : List Mount) → AllByRecursion (SameAbove path mount) table → AllByRecursion (SameAbove path mount) some
    → AllByRecursion (λ one. is_file_system table path one ≡ is_file_system table mount one) some
same_tests path mount table [] all each = tt
same_tests path mount table (one ∷ some) all each = (
  ap (λ b. b && list_all (λ (other : Mount). not (is_under path other.path) || nat_le (length other.path) (length one.path)) table) each.0
      ∙ ap (λ b. is_under mount one.path && b) (same_longest path mount one table all),
  same_tests path mount table some all each.1,
)

pub same_fs : (path mount : Path) (table : List Mount) → AllByRecursion (SameAbove path mount) table → fs_of table path ≡ fs_of table mount
same_fs path mount table all =
    ap (λ n. cond (nat_lt n (length table)) (Some n) None) (same_prefix (is_file_system table path) (is_file_system table mount) table (same_tests path mount table table all all))

pub same_above : (path mount : Path) → is_under path mount ≡ true → (table : List Mount) → list_all (is_above path mount) (mount_points table) ≡ true → AllByRecursion (SameAbove path mount) table
same_above path mount here [] all = tt
same_above path mount here (one ∷ table) all =
    let p = and_parts (is_above path mount one.path) (list_all (is_above path mount) (mount_points table)) all in (
      elim (cases_Bool (is_under path one.path)) as (λ _. is_under path one.path ≡ is_under mount one.path) [
        | inl e ↦ elim (or_cases (not (is_under path one.path)) (is_under mount one.path) p.0) as (λ _. is_under path one.path ≡ is_under mount one.path) [
          | inl apart ↦ absurd (true≢false (sym apart ∙ ap not e))
          | inr above ↦ e ∙ sym above
        ]
        | inr e ↦ e ∙ sym (false_from_ne_true (is_under mount one.path) (λ above. true≢false (sym (under_trans path mount one.path here above) ∙ e)))
      ],
      same_above path mount here table p.1,
    )

-- ---- the verdict on a path that no line writes
unfoldable pub LacksPath : Path → Row → Type 0
LacksPath path row = is_directory_among path row.entry.dirs ≡ false

pub lack : (path : Path) (rows : List Row) → is_directory_among path (written rows) ≡ false → AllByRecursion (LacksPath path) rows
unfolding LacksPath
lack path [] none = tt
lack path (row ∷ rows) none =
    let p = or_parts (is_directory_among path row.entry.dirs) (is_directory_among path (written rows)) (sym (list_any-append (λ dir. same_path dir path) row.entry.dirs (written rows)) ∙ none) in
    (p.0, lack path rows p.1)

pub lacks_rows : (path : Path) (rows : List (List Row)) (fs : ℕ) → is_directory_among path (flat_map written rows) ≡ false → is_directory_among path (written (slice_index_or rows fs [])) ≡ false
lacks_rows path [] fs none = refl
lacks_rows path (first ∷ rows) zero none =
    (or_parts (is_directory_among path (written first)) (is_directory_among path (flat_map written rows))
    (sym (list_any-append (λ dir. same_path dir path) (written first) (flat_map written rows)) ∙ none)).0
lacks_rows path (first ∷ rows) (suc fs) none =
    lacks_rows path rows fs
    (or_parts (is_directory_among path (written first)) (is_directory_among path (flat_map written rows))
    (sym (list_any-append (λ dir. same_path dir path) (written first) (flat_map written rows)) ∙ none)).1

all_filtered : {X : Type 0} (P : X → Type 0) (test : X → Bool) (xs : List X) → AllByRecursion P xs → AllByRecursion P (filter test xs)
all_filtered P test [] all = tt
all_filtered P test (x ∷ xs) all =
    elim (cases_Bool (test x)) as (λ _. AllByRecursion P (filter test (x ∷ xs))) [
      | inl is ↦ rw is (all.0, all_filtered P test xs all.1)
      | inr not ↦ rw not (all_filtered P test xs all.1)
    ]

and_true : (b : Bool) → (b && true) ≡ b
and_true true = refl
and_true false = refl

module _ (content : Content) (fs : ℕ) (path : Path) (home : fs_of content.table path ≡ Some fs) where
  pub by_alldirs : (row : Row) → LacksPath path row → lists content fs path row ≡ row.entry.alldirs
  unfolding LacksPath
  by_alldirs row none =
      ap (λ b. b || (row.entry.alldirs && is_in (fs_of content.table path) fs)) none
      ∙ ap (λ o. row.entry.alldirs && is_in o fs) home ∙ ap (λ b. row.entry.alldirs && b) (eq-eqb fs fs refl) ∙ and_true row.entry.alldirs

  found : (rows : List Row) → AllByRecursion (LacksPath path) rows → find (lists content fs path) rows ≡ find (λ row. row.entry.alldirs) rows
  found [] none = refl
  found (row ∷ rows) none =
      ap (λ b. cond b (Some row) (find (lists content fs path) rows)) (by_alldirs row none.0)
      ∙ ap (λ o. cond row.entry.alldirs (Some row) o) (found rows none.1)

  pub among : (rows : List Row) → AllByRecursion (LacksPath path) rows → verdict_among (record { 0 = fs }) (lists content fs path) rows ≡ verdict_among (record { 0 = fs }) (λ row. row.entry.alldirs) rows
  among [] none = refl
  among (row ∷ rows) none = ap (granted_by (record { 0 = fs }) row) (found (row ∷ rows) none)

  of_selected : (address : ℕ) → AllByRecursion (LacksPath path) (rows_of content fs)
      → verdict_among (record { 0 = fs }) (lists content fs path) (selected (rows_of content fs) address) ≡ verdict_among (record { 0 = fs }) (λ row. row.entry.alldirs) (selected (rows_of content fs) address)
  unfolding selected
  of_selected address none =
      let test : Row → Bool = λ row. is_greatest (rows_of content fs) address (weight_of row address) in
      among (filter test (rows_of content fs)) (all_filtered (LacksPath path) test (rows_of content fs) none)

in_fs : (content : Content) (path : Path) (address : ℕ) (fs : Option ℕ) → fs_of content.table path ≡ fs → is_directory_among path (all_written content) ≡ false → verdict_in content address path fs ≡ verdict_elsewhere content address fs
in_fs content path address None home lacks = refl
in_fs content path address (Some fs) home lacks = of_selected content fs path home address (lack path (rows_of content fs) (lacks_rows path content.rows fs lacks))

decided : (content : Content) (mount path : Path) → is_under path mount ≡ true → list_all (is_above path mount) (mount_points content.table) ≡ true → is_directory_among path (all_written content) ≡ false
    → (address : ℕ) → verdict_of content address path ≡ verdict_elsewhere content address (fs_of content.table mount)
unfolding verdict_of
decided content mount path here above lacks address =
    in_fs content path address (fs_of content.table path) refl lacks
    ∙ ap (verdict_elsewhere content address) (same_fs path mount content.table (same_above path mount here content.table above))

-- a path at home at a mount point that no line of either policy writes
pub decided_as_others : (before after : Content) (mount path : Path) → is_home (mounts_of_both before after) path mount ≡ true → is_directory_among path (dirs_of_both before after) ≡ false
    → (address : ℕ) → verdicts_at before after path address ≡ place_verdicts before after (Others mount) address
decided_as_others before after mount path home lacks address =
    let p = and_parts (is_under path mount) (list_all (is_above path mount) (mounts_of_both before after)) home in
    let above = and_parts (list_all (is_above path mount) (mount_points before.table)) (list_all (is_above path mount) (mount_points after.table))
    (sym (list_all-append (is_above path mount) (mount_points before.table) (mount_points after.table)) ∙ p.1) in
    let dirs = or_parts (is_directory_among path (all_written before)) (is_directory_among path (all_written after))
    (sym (list_any-append (λ dir. same_path dir path) (all_written before) (all_written after)) ∙ lacks) in
    ap (λ v. record { before = v; after = verdict_of after address path }) (decided before mount path p.0 above.0 dirs.0 address)
    ∙ ap (λ v. record { before = verdict_elsewhere before address (fs_of before.table mount); after = v }) (decided after mount path p.0 above.1 dirs.1 address)

-- it is in the file systems of the mount point
pub home_fs : (before after : Content) (mount path : Path) → is_home (mounts_of_both before after) path mount ≡ true → (fs_of before.table path ≡ fs_of before.table mount) × (fs_of after.table path ≡ fs_of after.table mount)
home_fs before after mount path home =
    let p = and_parts (is_under path mount) (list_all (is_above path mount) (mounts_of_both before after)) home in
    let above = and_parts (list_all (is_above path mount) (mount_points before.table)) (list_all (is_above path mount) (mount_points after.table))
    (sym (list_all-append (is_above path mount) (mount_points before.table) (mount_points after.table)) ∙ p.1) in
    (same_fs path mount before.table (same_above path mount p.0 before.table above.0), same_fs path mount after.table (same_above path mount p.0 after.table above.1))

-- ---- a path under no mount point
no_tests : (path : Path) (table some : List Mount) → list_any (is_under path) (mount_points some) ≡ false → AllByRecursion (λ one. is_file_system table path one ≡ false) some
no_tests path table [] none = tt
no_tests path table (one ∷ some) none =
    let p = or_parts (is_under path one.path) (list_any (is_under path) (mount_points some)) none in
    (ap (λ b. b && list_all (λ (other : Mount). not (is_under path other.path) || nat_le (length other.path) (length one.path)) table) p.0, no_tests path table some p.1)

no_fs : (path : Path) (table : List Mount) → list_any (is_under path) (mount_points table) ≡ false → fs_of table path ≡ None
no_fs path table none =
    ap (λ n. cond (nat_lt n (length table)) (Some n) None) (none_passes (is_file_system table path) table (no_tests path table table none))
    ∙ ap (λ b. cond b (Some (length table)) None) (le-ltb (length table) (length table) (omega arith))

denied : (content : Content) (path : Path) → list_any (is_under path) (mount_points content.table) ≡ false → (address : ℕ) → verdict_of content address path ≡ Err NoFileSystem
unfolding verdict_of
denied content path none address = ap (verdict_in content address path) (no_fs path content.table none)

pub other_paths_have_none : OtherPathsHaveNone
other_paths_have_none before after path none address =
    let p = or_parts (list_any (is_under path) (mount_points before.table)) (list_any (is_under path) (mount_points after.table))
    (sym (list_any-append (is_under path) (mount_points before.table) (mount_points after.table)) ∙ none) in
    ap (λ v. record { before = v; after = verdict_of after address path }) (denied before path p.0 address)
    ∙ ap (λ v. record { before = Err NoFileSystem; after = v }) (denied after path p.1 address)
