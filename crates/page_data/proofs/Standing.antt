-- A section of a file system has the verdicts on some path of it, and each file system has a section.
use Rattle.std.proofs.Common.{◌≡◌, ℕ, ◌<◌, ◌∙◌, Bool, true, List, [], ◌∷◌, Option, None, Some, ap, arith, get_or, length, map, refl, subst, sym}
use Rattle.std.specs.Prelude.{Contains, Result, Ok, Err, filter, find}
use Rattle.std.proofs.lemmas.Bool.{eq-eqb, eqb-true, true≢false}
use Rattle.std.proofs.lemmas.List.Elements.{All-contains}
use Rattle.std.proofs.lemmas.List.{get_or_default}
use Rattle.desk_tables.specs.FileSystems.{AreAscending, fs_of}
use Rattle.desk_tables.specs.declared.filesystems.FsId.{FsId}
use Rattle.desk_tables.specs.declared.filesystems.Mount.{Mount}
use Rattle.desk_policy.specs.Policy.{Content, rows_of}
use Rattle.desk_policy.specs.Verdict.{Grant, granted_by, is_in, lists, verdict_among, verdict_in, verdict_of}
use Rattle.desk_policy.specs.Weights.{selected}
use Rattle.desk_policy.specs.declared.row.Row.{Row}
use Rattle.desk_policy.specs.declared.verdict.Denial.{Denial}
use Rattle.desk_policy.specs.declared.verdict.Denial.TheVariants.{NoFileSystem, NoLine, NotListed}
use Rattle.desk_who.specs.Runs.{Run}
use Rattle.desk_who.specs.Who.{IsWho}
use Rattle.desk_impact.specs.Places.{Directory, Others, Place, place_verdict, verdict_elsewhere}
use Rattle.desk_impact.specs.Sections.{HasPathFor, HasPlaceFor, PlaceBreaches, PlacesTellScope}
use Rattle.page_data.specs.Sections.{AreSections, AreVerdictsAt, is_section_in, path_at}
use Rattle.page_data.proofs.Agreeing.{runs_agree}
use Rattle.page_data.proofs.AllRows.{from_map, to_map}
use Rattle.page_data.proofs.Grouped.{in_kept, kept_in}
use Rattle.page_data.proofs.Homes.{own_home}

-- the file system that a verdict names
pub named_fs : Result Grant Denial → Option ℕ
named_fs (Ok grant) = Some grant.fs.0
named_fs (Err NoFileSystem) = None
named_fs (Err (NoLine fs)) = Some fs.0
named_fs (Err (NotListed fs line)) = Some fs.0

among_named : (fs : FsId) (listing : Row → Bool) (chosen : List Row) → named_fs (verdict_among fs listing chosen) ≡ Some fs.0
unfolding named_fs
among_named fs listing [] = refl
among_named fs listing (first ∷ others) = by (find listing (first ∷ others))
  where
    by : (found : Option Row) → named_fs (granted_by fs first found) ≡ Some fs.0
    by None = refl
    by (Some row) = refl

pub path_named : (content : Content) (address : ℕ) (path : List (List ℕ)) → named_fs (verdict_of content address path) ≡ fs_of content.table path
unfolding named_fs verdict_of
path_named content address path = by (fs_of content.table path)
  where
    by : (o : Option ℕ) → named_fs (verdict_in content address path o) ≡ o
    by None = refl
    by (Some fs) = among_named (record { 0 = fs }) (lists content fs path) (selected (rows_of content fs) address)

pub place_named : (content : Content) (address : ℕ) (place : Place) → named_fs (place_verdict content place address) ≡ fs_of content.table (path_at place)
unfolding named_fs
place_named content address (Directory path) = path_named content address path
place_named content address (Others mount) = by (fs_of content.table mount)
  where
    by : (o : Option ℕ) → named_fs (verdict_elsewhere content address o) ≡ o
    by None = refl
    by (Some fs) = among_named (record { 0 = fs }) (λ row. row.entry.alldirs) (selected (rows_of content fs) address)

-- ranges are all verdicts on a path of a file system
pub record HasHomePath (content : Content) (fs : ℕ) (ranges : List (Run (Result Grant Denial))) : Type 0 where
  pub path : List (List ℕ)
  pub here : fs_of content.table path ≡ Some fs
  pub who : IsWho content path ranges

pub same_fs : (fs : ℕ) (o : Option ℕ) → is_in o fs ≡ true → o ≡ Some fs
same_fs fs None is = absurd (true≢false (sym is))
same_fs fs (Some other) is = ap Some (eqb-true other fs is)

module _ (tells : PlacesTellScope) (content : Content) (all : List PlaceBreaches) (are : AreSections content all) (fs : ℕ) where
  pub home_path : (section : PlaceBreaches) → Contains (filter (is_section_in content.table fs) all) section → HasHomePath content fs section.ranges
  home_path section listed =
      let kept = kept_in (is_section_in content.table fs) all section listed in
      let verdicts : AreVerdictsAt content section = All-contains (AreVerdictsAt content) all section are.verdicts kept.0 in
      let has_path : HasPathFor content [] true section.place = All-contains (HasPathFor content [] true) (map (λ (s : PlaceBreaches). s.place) all) section.place
      (tells content [] true (map (λ (s : PlaceBreaches). s.place) all) are.places).1 (to_map (λ (s : PlaceBreaches). s.place) all section kept.0) in
      record {
        path = has_path.path;
        here = sym (path_named content 0 has_path.path) ∙ ap named_fs (has_path.stands 0) ∙ place_named content 0 section.place ∙ same_fs fs (fs_of content.table (path_at section.place)) kept.1;
        who = runs_agree (λ address. place_verdict content section.place address) (λ address. verdict_of content address has_path.path) (λ address fits. has_path.stands address) section.ranges verdicts;
      }

  pub has_section : AreAscending content.table → fs < length content.table → filter (is_section_in content.table fs) all ≡ [] → ⊥
  has_section ascending within none = by content.table refl within
    where
      found : (mount : Mount) → get_or content.table fs mount ≡ mount → ⊥
      found mount is =
          let home = own_home content.table ascending fs mount within is in
          let place : HasPlaceFor content (map (λ (s : PlaceBreaches). s.place) all) mount.path = (tells content [] true (map (λ (s : PlaceBreaches). s.place) all) are.places).0 mount.path refl in
          let section = from_map (λ (s : PlaceBreaches). s.place) all place.place place.listed in
          let own : fs_of content.table (path_at section.x.place) ≡ Some fs =
          ap (λ p. fs_of content.table (path_at p)) section.is ∙ sym (place_named content 0 place.place) ∙ ap named_fs (sym (place.stands 0)) ∙ path_named content 0 mount.path ∙ home in
          let there = in_kept (is_section_in content.table fs) all section.x section.has (ap (λ o. is_in o fs) own ∙ eq-eqb fs fs refl) in
          let lt = subst (λ some. there.0 < length some) none there.1 in
          omega arith

      by : (table : List Mount) → content.table ≡ table → fs < length table → ⊥
      by [] e lt = omega arith
      by (first ∷ table) e lt =
          let mount = get_or content.table fs first in
          found mount (get_or_default content.table fs mount first within)
