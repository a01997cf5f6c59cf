-- Places of one file system that are granted alike are denied alike, too, so those of a group have the same verdicts.
use Rattle.std.proofs.Common.{◌≡◌, ℕ, ◌∙◌, Bool, List, [], ◌∷◌, Option, None, Some, ap, arith, find, get_or, refl, subst, sym}
use Rattle.std.specs.Prelude.{Contains, Result, Ok, filter}
use Rattle.std.specs.Result.{result_ok}
use Rattle.std.proofs.lemmas.List.Elements.{All-contains, Contains-get_or}
use Rattle.desk_tables.specs.FileSystems.{fs_of}
use Rattle.desk_tables.specs.declared.filesystems.FsId.{FsId}
use Rattle.desk_policy.specs.Policy.{Content, rows_of}
use Rattle.desk_policy.specs.Verdict.{Grant, granted_by, lists, verdict_among, verdict_in, verdict_of}
use Rattle.desk_policy.specs.Weights.{selected}
use Rattle.desk_policy.specs.declared.row.Row.{Row}
use Rattle.desk_policy.specs.declared.verdict.Denial.{Denial}
use Rattle.desk_who.specs.Runs.{AreDiscrete, AreRuns, RunsAreUnique, RunsExist, RunsPassTests, RunsTellValues, RunsWithValueAreUnique}
use Rattle.desk_impact.specs.Places.{Directory, Others, Place, place_verdict, verdict_elsewhere}
use Rattle.desk_impact.specs.Sections.{PlaceBreaches}
use Rattle.page_data.specs.Groups.{AreSectionGroups, granted_ranges}
use Rattle.page_data.specs.Laws.{AlikePlacesAreDeniedAlike, GroupsAreAlikeThroughout}
use Rattle.page_data.specs.Sections.{AreSections, AreVerdictsAt, is_section_in, path_at}
use Rattle.page_data.specs.Tables.{AreAlikeThroughout}
use Rattle.page_data.proofs.Agreeing.{runs_agree}
use Rattle.page_data.proofs.Grouped.{kept_in}
use Rattle.page_data.proofs.Orders.{alike_in_group, in_sections}
use Rattle.page_data.proofs.SamePlaces.{alike_if}
use Rattle.page_data.proofs.Standing.{same_fs}

abbrev Verdict : Type 0
Verdict = Result Grant Denial

-- what a verdict grants
abbrev grant_of : Verdict → Option Grant
grant_of verdict = result_ok verdict

abbrev granted : Grant → Verdict
granted grant = Ok grant

same_grant : (grant other : Grant) → grant_of (granted other) ≡ grant_of (granted grant) → granted other ≡ granted grant
same_grant grant other is = (let same : other ≡ grant = cc in ap granted same)

-- which of the selected lines list the place tells who is granted it, and not how the others are denied
module _ (fs : FsId) (listing other : Row → Bool) where
  by_found : (first : Row) (found found' : Option Row) → grant_of (granted_by fs first found') ≡ grant_of (granted_by fs first found) → granted_by fs first found' ≡ granted_by fs first found
  by_found first None None is = refl
  by_found first None (Some row) is = absurd (cc)
  by_found first (Some row) None is = absurd (cc)
  by_found first (Some row) (Some row') is =
      same_grant (record { fs = fs; line = row.entry.line; terms = row.entry.terms }) (record { fs = fs; line = row'.entry.line; terms = row'.entry.terms }) is

  pub same_among : (chosen : List Row) → grant_of (verdict_among fs other chosen) ≡ grant_of (verdict_among fs listing chosen) → verdict_among fs other chosen ≡ verdict_among fs listing chosen
  same_among [] is = refl
  same_among (first ∷ others) is = by_found first (find listing (first ∷ others)) (find other (first ∷ others)) is

module _ (content : Content) (fs : ℕ) where
  -- the lines that list a place
  listing_at : Place → Row → Bool
  listing_at (Directory path) row = lists content fs path row
  listing_at (Others mount) row = row.entry.alldirs

  at_place : (address : ℕ) (place : Place) → fs_of content.table (path_at place) ≡ Some fs
      → place_verdict content place address ≡ verdict_among (record { 0 = fs }) (listing_at place) (selected (rows_of content fs) address)
  unfolding listing_at verdict_of
  at_place address (Directory path) here = ap (verdict_in content address path) here
  at_place address (Others mount) here = ap (verdict_elsewhere content address) here

pub denied_alike : AlikePlacesAreDeniedAlike
denied_alike content fs place other here here' alike address fits =
    let own = at_place content fs address place here in
    let own' = at_place content fs address other here' in
    own' ∙ same_among (record { 0 = fs }) (listing_at content fs place) (listing_at content fs other) (selected (rows_of content fs) address) (sym (ap grant_of own') ∙ alike address fits ∙ ap grant_of own)
    ∙ sym own

-- ---- groups
module _ (exist : RunsExist Verdict) (runs : RunsAreUnique Verdict) (pass : RunsPassTests Verdict) (unique : RunsWithValueAreUnique Verdict) (tell : RunsTellValues Verdict) (compare : AreDiscrete Verdict) where
  module _ (content : Content) (fs : ℕ) (all : List PlaceBreaches) (are : AreSections content all) where
    abbrev at : PlaceBreaches → ℕ → Verdict
    at section address = place_verdict content section.place address

    abbrev own : List PlaceBreaches
    own = filter (is_section_in content.table fs) all

    verdicts_are : (section : PlaceBreaches) → Contains own section → AreRuns (at section) section.ranges
    verdicts_are section listed = All-contains (AreVerdictsAt content) all section are.verdicts (kept_in (is_section_in content.table fs) all section listed).0

    home : (section : PlaceBreaches) → Contains own section → fs_of content.table (path_at section.place) ≡ Some fs
    home section listed = same_fs fs (fs_of content.table (path_at section.place)) (kept_in (is_section_in content.table fs) all section listed).1

    -- sections with the same granted ranges have the same verdicts
    same_ranges : (first section : PlaceBreaches) → Contains own first → Contains own section → granted_ranges section.ranges ≡ granted_ranges first.ranges → section.ranges ≡ first.ranges
    same_ranges first section listed listed' same =
        let verdicts = verdicts_are first listed in
        let verdicts' = verdicts_are section listed' in
        let alike = alike_if exist pass unique tell compare (at first) (at section) first.ranges section.ranges verdicts verdicts' same in
        runs (at first) first.ranges section.ranges verdicts
        (runs_agree (at section) (at first) (λ address fits. sym (denied_alike content fs first.place section.place (home first listed) (home section listed') alike address fits)) section.ranges verdicts')

    throughout : (groups : List (List PlaceBreaches)) (grouped : AreSectionGroups own groups) (group : List PlaceBreaches) → Contains groups group → AreAlikeThroughout group
    throughout groups grouped [] listed k d within = absurd (omega (arith, within))
    throughout groups grouped (first ∷ others) listed k d within =
        let group = first ∷ others in
        let section = get_or group k d in
        let has = Contains-get_or group k d within in
        let has_first : Contains group first = (0, omega arith, refl) in
        let inside = in_sections own groups grouped group listed in
        same_ranges first section (inside first has_first) (inside section has) (alike_in_group own groups grouped group listed first section has_first has)

  pub alike_throughout : GroupsAreAlikeThroughout
  alike_throughout content fs all system groups are is grouped k d within =
      throughout content fs all are groups (subst (λ (sections : List PlaceBreaches). AreSectionGroups sections groups) is.sections grouped) (get_or groups k d) (Contains-get_or groups k d within)
