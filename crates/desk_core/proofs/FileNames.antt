-- For the law `known_files_have_names`: a file of a listed mount point has its name in printed form.
use Rattle.std.proofs.Common.{◌≡◌, ◌∙◌, sym, ap, refl, inl, inr, ℕ, true, cond, List, [], ◌∷◌, Option, Some, None, Result, Ok, Err, codes, get_or}
use Rattle.std.specs.Prelude.{is_some}
use Rattle.std.specs.List.{AllByRecursion}
use Rattle.std.specs.Str.{bytes_eq}
use Rattle.std.proofs.lemmas.Bool.{cases_Bool}
use Rattle.std.proofs.lemmas.List.Elements.{All-from_recursion, recursion_from_All}
use Rattle.std.proofs.lemmas.List.Quantifiers.{position-Some}
use Rattle.std.proofs.lemmas.Slice.Eq.{bytes_eq-Decides}
use Rattle.desk_text.specs.Path.{path_text, read_path}
use Rattle.desk_tables.specs.Custodians.{read_custodians}
use Rattle.desk_tables.specs.FileSystemsText.{read_filesystems}
use Rattle.desk_tables.specs.Laws.{MountPointsReadBack}
use Rattle.desk_tables.specs.Rules.{TableFault}
use Rattle.desk_tables.specs.declared.custodians.Custodian.{Custodian}
use Rattle.desk_tables.specs.declared.filesystems.Mount.{Mount}
use Rattle.desk_policy.specs.Parsing.{if_listed, in_file, read_after_filesystems, read_files, read_site, read_site_tables, then_read, unless_unlisted}
use Rattle.desk_policy.specs.Policy.{Content}
use Rattle.desk_policy.specs.Site.{SiteTexts}
use Rattle.desk_policy.specs.SiteFault.{exports_name, table_fault}
use Rattle.desk_policy.specs.UnlistedCustodians.{unlisted_line}
use Rattle.desk_policy.specs.declared.site_fault.SiteFault.{SiteFault}
use Rattle.desk_policy.specs.SiteFile.{exports_place, is_of_seven}
use Rattle.desk_core.specs.Judging.{IsFileName}
use Rattle.desk_core.specs.Laws.{KnownFilesHaveNames}
use Rattle.desk_core.specs.Site.{policy_of, policy_read}

abbrev ReadBack : List Mount → Type 0
ReadBack table = AllByRecursion (λ mount. read_path (path_text mount.path) ≡ Ok mount.path) table

-- the file systems that a reading gives, none if there is a fault
abbrev FoundBack : Result (List Mount) TableFault → Type 0
FoundBack (Ok table) = ReadBack table
FoundBack (Err fault) = Unit {0}

-- the file systems of the policy that is read
abbrev PolicyBack : Result Content SiteFault → Type 0
PolicyBack (Ok policy) = ReadBack policy.table
PolicyBack (Err fault) = Unit {0}

then_back : {X : Type 0} (r : Result X SiteFault) (next : X → Result Content SiteFault) → ((x : X) → PolicyBack (next x)) → PolicyBack (then_read r next)
then_back (Ok x) next h = h x
then_back (Err fault) next h = tt

tables_back : (texts : SiteTexts) (table : List Mount) → ReadBack table → PolicyBack (read_after_filesystems texts table)
tables_back texts table h = then_back (read_site_tables texts) _ (λ site_tables. then_back (read_files texts table site_tables 0 table) _ (λ files. h))

unlisted_back : (texts : SiteTexts) (table : List Mount) (unlisted : Option ℕ) → ReadBack table
    → PolicyBack (then_read (in_file (table_fault (codes "filesystems")) (unless_unlisted table unlisted)) (read_after_filesystems texts))
unlisted_back texts table None h = tables_back texts table h
unlisted_back texts table (Some line) h = tt

listed_back : (texts : SiteTexts) (custodians : List Custodian) (table : Result (List Mount) TableFault) → FoundBack table
    → PolicyBack (then_read (in_file (table_fault (codes "filesystems")) (if_listed custodians table)) (read_after_filesystems texts))
listed_back texts custodians (Ok table) h = unlisted_back texts table (unlisted_line custodians table) h
listed_back texts custodians (Err fault) h = tt

policy_table : (read : Result Content SiteFault) → PolicyBack read → ReadBack (policy_read read).table
policy_table (Ok policy) h = h
policy_table (Err fault) h = tt

found_back : MountPointsReadBack → (text : List ℕ) (read : Result (List Mount) TableFault) → read_filesystems text ≡ read → FoundBack read
found_back law text (Ok table) is = recursion_from_All _ table (law text table is)
found_back law text (Err fault) is = tt

-- each mount point of a policy reads back from its printed form
policy_back : MountPointsReadBack → (texts : SiteTexts) → ReadBack (policy_of texts).table
unfolding read_site
policy_back law texts =
    let own = found_back law texts.files.filesystems (read_filesystems texts.files.filesystems) refl in
    policy_table (read_site texts)
    (then_back (in_file (table_fault (codes "custodians")) (read_custodians texts.files.custodians)) _ (λ custodians. listed_back texts custodians (read_filesystems texts.files.filesystems) own))

placed_name : (table : List Mount) (file : List ℕ) → ReadBack table → (place : Option ℕ) → exports_place table file ≡ place → is_some place ≡ true → IsFileName file
placed_name table file all None is h = absurd (cc)
placed_name [] file all (Some at) is h = absurd (cc)
placed_name (first ∷ table) file all (Some at) is h =
    let found = position-Some (λ (mount : Mount). bytes_eq (exports_name mount.path) file) (first ∷ table) at first is in
    let mount : Mount = get_or (first ∷ table) at first in
    let back : read_path (path_text mount.path) ≡ Ok mount.path = All-from_recursion _ (first ∷ table) all at first found.0 in
    inr (mount.path, back, sym ((bytes_eq-Decides (exports_name mount.path) file).0 found.1))

pub known_files_have_names : MountPointsReadBack → KnownFilesHaveNames
known_files_have_names law texts file h =
    let table = (policy_of texts).table in
    elim (cases_Bool (is_of_seven file)) [
      | inl own ↦ inl own
      | inr other ↦ placed_name table file (policy_back law texts) (exports_place table file) refl (sym (ap (λ b. cond b true (is_some (exports_place table file))) other) ∙ h)
    ]
