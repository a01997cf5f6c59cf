-- The texts of a site, if a revision is that of an exports file: those of the other files are as they were.
use Rattle.std.proofs.Common.{◌≡◌, ◌≢◌, ◌∙◌, ◌<◌, ◌++◌, ℕ, Bool, true, false, cond, List, Some, ap, arith, codes, get_or, inl, inr, subst, sym}
use Rattle.std.specs.Prelude.{slice_get}
use Rattle.std.specs.Cmp.Lexicographic.{slice_cmp}
use Rattle.std.specs.Option.{option_map_or}
use Rattle.std.specs.Ordering.{is_eq, is_lt, nat_cmp}
use Rattle.std.specs.Str.{bytes_eq}
use Rattle.std.specs.declared.cmp.Ordering.{Ordering}
use Rattle.std.specs.declared.cmp.Ordering.TheVariants.{Less, Equal, Greater}
use Rattle.std.proofs.Math.Path.{fun_ext}
use Rattle.std.proofs.lemmas.Bool.{cases_Bool, cases_order}
use Rattle.std.proofs.lemmas.List.{append_cancel_left}
use Rattle.std.proofs.lemmas.Map.Text.{is_eq-slice_cmp}
use Rattle.std.proofs.lemmas.Option.{get_or_from_slice_get, slice_get_within}
use Rattle.std.proofs.lemmas.Slice.Eq.{bytes_eq-Decides}
use Rattle.desk_text.specs.Path.{path_text}
use Rattle.desk_tables.specs.FileSystems.{AreAscending, is_before}
use Rattle.desk_tables.specs.declared.filesystems.Mount.{Mount}
use Rattle.desk_policy.specs.Parsing.{read_site_tables, read_tables}
use Rattle.desk_policy.specs.PerSite.{by_file}
use Rattle.desk_policy.specs.Replacing.{DifferIn}
use Rattle.desk_policy.specs.Site.{SiteTexts, no_exports}
use Rattle.desk_policy.specs.SiteFault.{exports_name}
use Rattle.desk_policy.specs.SiteFile.{file_name}
use Rattle.desk_policy.specs.declared.per_site.PerSite.{PerSite}
use Rattle.desk_policy.specs.declared.site.ExportsText.{ExportsText}
use Rattle.desk_policy.specs.declared.site_file.SiteFile.{SiteFile}
use Rattle.desk_policy.specs.declared.site_file.SiteFile.TheVariants.{Custodians, Filesystems, Group, Hosts, Netgroup, Networks, Passwd}
use Rattle.desk_core.specs.Head.{Newest, Revision, put}
use Rattle.desk_core.specs.Site.{revision_text, site_in, text_in}

not_both : (o : Ordering) → is_lt o ≡ true → is_eq o ≡ true → ⊥
not_both Less lt eq = cc
not_both Equal lt eq = cc
not_both Greater lt eq = cc

-- a path does not come before one that is printed alike
not_before : (path other : List (List ℕ)) → is_before path other ≡ true → path_text path ≡ path_text other → ⊥
not_before path other before same =
    not_both (slice_cmp nat_cmp (path_text path) (path_text other)) before
    (is_eq-slice_cmp (path_text path) (path_text other) ∙ (bytes_eq-Decides (path_text path) (path_text other)).1 same)

module _ (table : List Mount) (ascending : AreAscending table) where
  before : (i j : ℕ) (first later : Mount) → i < j → slice_get table i ≡ Some first → slice_get table j ≡ Some later → path_text first.path ≡ path_text later.path → ⊥
  before i j first later less here there same =
      let up : is_before (get_or table i first).path (get_or table j first).path ≡ true = ascending i j first less (slice_get_within table j later there) in
      let by_first = subst (λ (m : Mount). is_before m.path (get_or table j first).path ≡ true) (get_or_from_slice_get table i first first here) up in
      let by_both = subst (λ (m : Mount). is_before first.path m.path ≡ true) (get_or_from_slice_get table j later first there) by_first in
      not_before first.path later.path by_both same

  -- the mount points of a table are printed differently
  apart : (i j : ℕ) (mount other : Mount) → i ≢ j → slice_get table i ≡ Some mount → slice_get table j ≡ Some other → path_text mount.path ≡ path_text other.path → ⊥
  apart i j mount other ne here there same =
      elim (cases_order i j) [
        | inl eq ↦ ne eq
        | inr s ↦ elim s [ inl lt ↦ before i j mount other lt here there same | inr gt ↦ before j i other mount gt there here (sym same) ]
      ]

-- a name that begins otherwise is not that of an exports file
other_letter : (rest name : List ℕ) → get_or name 0 0 ≢ 101 → codes "exports:" ++ rest ≡ name → ⊥
other_letter rest name other same = other (ap (λ xs. get_or xs 0 0) (sym same))

first_letter : (own : SiteFile) → get_or (file_name own) 0 0 ≢ 101
first_letter Custodians e = omega arith
first_letter Filesystems e = omega arith
first_letter Hosts e = omega arith
first_letter Networks e = omega arith
first_letter Passwd e = omega arith
first_letter Group e = omega arith
first_letter Netgroup e = omega arith

not_named : (file name : List ℕ) → (file ≡ name → ⊥) → bytes_eq file name ≡ false
not_named file name other = elim (cases_Bool (bytes_eq file name)) [
  | inl same ↦ absurd (other ((bytes_eq-Decides file name).0 same))
  | inr differ ↦ differ
]

module _ (newest : Newest) (r : Revision) where
  abbrev text_if : List ℕ → Bool → ExportsText
  text_if name b = option_map_or revision_text (cond b (Some r) (newest name)) no_exports

  other_text : (name : List ℕ) → (r.file ≡ name → ⊥) → text_in (put newest r) name ≡ text_in newest name
  other_text name other = ap (text_if name) (not_named r.file name other)

  pub own_text : (name : List ℕ) → r.file ≡ name → text_in (put newest r) name ≡ revision_text r
  own_text name same = ap (text_if name) ((bytes_eq-Decides r.file name).1 same)

  module _ (table : List Mount) (fs : ℕ) (mount : Mount) (ascending : AreAscending table) (here : slice_get table fs ≡ Some mount) (file : r.file ≡ exports_name mount.path) where
    of_seven : (name : List ℕ) → get_or name 0 0 ≢ 101 → (text_in (put newest r) name).body ≡ (text_in newest name).body
    of_seven name letter = ap (λ (t : ExportsText). t.body) (other_text name (λ same. other_letter (path_text mount.path) name letter (sym file ∙ same)))

    pub differ_in : DifferIn table fs (site_in newest) (site_in (put newest r))
    differ_in = record {
      files = ap by_file (fun_ext (λ own. of_seven (file_name own) (first_letter own)));
      exports = λ place other ne there. other_text (exports_name other.path) (λ same.
          apart table ascending place fs other mount ne there here
          (append_cancel_left (codes "exports:") (path_text other.path) (path_text mount.path) (sym same ∙ file)));
    }

-- texts that differ in an exports file write the same tables
pub same_tables : {table : List Mount} {fs : ℕ} (texts other : SiteTexts) → DifferIn table fs texts other → read_site_tables other ≡ read_site_tables texts
same_tables texts other differ = ap (λ (files : PerSite (List ℕ)). read_tables files.tables) differ.files
