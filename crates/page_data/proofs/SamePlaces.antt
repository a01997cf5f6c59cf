-- Places whose granted ranges are the same are those that are granted alike.
use Rattle.std.proofs.Common.{◌≡◌, ℕ, ◌<◌, ◌^◌, ◌∙◌, Bool, List, [], ◌∷◌, Option, None, Some, ap, map, refl, subst, sym}
use Rattle.std.specs.Prelude.{All, Contains, Result, Ok, Err, filter, find, not, slice_get}
use Rattle.std.specs.Bool.{Decides}
use Rattle.std.specs.Option.{option_map}
use Rattle.std.specs.Result.{is_ok, result_ok}
use Rattle.std.proofs.lemmas.List.Elements.{All-contains}
use Rattle.desk_policy.specs.Policy.{Content}
use Rattle.desk_policy.specs.Verdict.{Grant}
use Rattle.desk_policy.specs.declared.verdict.Denial.{Denial}
use Rattle.desk_who.specs.Runs.{AreDiscrete, AreRuns, AreRunsWithValue, Run, RunsExist, RunsPassTests, RunsTellValues, RunsWithValueAreUnique, holds, passing}
use Rattle.desk_impact.specs.Places.{Place, place_verdict}
use Rattle.desk_impact.specs.Sections.{PlaceBreaches}
use Rattle.page_data.specs.Groups.{AreGrantedAlike, AreGrouped, AreSectionGroups, granted_ranges}
use Rattle.page_data.specs.Laws.{SectionGroupsAreGroups}
use Rattle.page_data.specs.Sections.{AreVerdictsAt}
use Rattle.page_data.proofs.Agreeing.{runs_agree}
use Rattle.page_data.proofs.AllRows.{filter_map}
use Rattle.page_data.proofs.Grouped.{kept_in}
use Rattle.page_data.proofs.Keyed.{decide_lists, decide_run, decided, decides, filter_alike, has_first, same_test}

abbrev Verdict : Type 0
Verdict = Result Grant Denial

-- a verdict, if it grants
abbrev granting : Verdict → Option Verdict
granting verdict = passing is_ok verdict

same_granting : (verdict other : Verdict) → result_ok other ≡ result_ok verdict → granting other ≡ granting verdict
same_granting (Ok grant) (Ok other) is = (let same : other ≡ grant = cc in ap (λ g. Some (Ok g)) same)
same_granting (Ok grant) (Err other) is = absurd (cc)
same_granting (Err denial) (Ok other) is = absurd (cc)
same_granting (Err denial) (Err other) is = refl

verdict_ok : Option Verdict → Option Grant
verdict_ok None = None
verdict_ok (Some verdict) = result_ok verdict

granting_ok : (verdict : Verdict) → verdict_ok (granting verdict) ≡ result_ok verdict
unfolding verdict_ok
granting_ok (Ok grant) = refl
granting_ok (Err denial) = refl

module _ (exist : RunsExist Verdict) (pass : RunsPassTests Verdict) (unique : RunsWithValueAreUnique Verdict) (tell : RunsTellValues Verdict) (compare : AreDiscrete Verdict) where
  -- ---- two functions of addresses
  module _ (verdict_at other_at : ℕ → Verdict) (ranges others : List (Run Verdict)) (are : AreRuns verdict_at ranges) (are' : AreRuns other_at others) where
    granted : AreRunsWithValue (λ address. granting (verdict_at address)) (granted_ranges ranges)
    granted = pass compare is_ok verdict_at ranges are

    granted' : AreRunsWithValue (λ address. granting (other_at address)) (granted_ranges others)
    granted' = pass compare is_ok other_at others are'

    pub alike_if : granted_ranges others ≡ granted_ranges ranges → (address : ℕ) → address < 2 ^ 32 → result_ok (other_at address) ≡ result_ok (verdict_at address)
    alike_if same address fits =
        let own = (tell (λ a. granting (verdict_at a)) (granted_ranges ranges) granted).1 address fits in
        let own' = (tell (λ a. granting (other_at a)) (granted_ranges others) granted').1 address fits in
        sym (granting_ok (other_at address)) ∙ ap verdict_ok (sym own' ∙ ap (λ (some : List (Run Verdict)). option_map (λ (run : Run Verdict). run.value) (find (holds address) some)) same ∙ own) ∙ granting_ok (verdict_at address)

    pub same_if : ((address : ℕ) → address < 2 ^ 32 → result_ok (other_at address) ≡ result_ok (verdict_at address)) → granted_ranges others ≡ granted_ranges ranges
    same_if alike =
        unique (λ address. granting (verdict_at address)) (granted_ranges ranges) (granted_ranges others) granted
        (record {
          whole = granted'.whole;
          runs = runs_agree (λ address. granting (other_at address)) (λ address. granting (verdict_at address)) (λ address fits. sym (same_granting (verdict_at address) (other_at address) (alike address fits))) granted'.whole granted'.runs;
          are = granted'.are;
        })

  -- ---- places
  module _ (content : Content) where
    abbrev at : Place → ℕ → Verdict
    at place address = place_verdict content place address

    ranges_of : Place → List (Run Verdict)
    ranges_of place = (exist compare (at place)).0

    ranges_are : (place : Place) → AreRuns (at place) (ranges_of place)
    unfolding ranges_of
    ranges_are place = (exist compare (at place)).1

    alike : Place → Place → Bool
    alike place other = decided (decide_lists (decide_run compare) (granted_ranges (ranges_of other)) (granted_ranges (ranges_of place)))

    alike_decides : (place other : Place) → Decides (alike place other) (AreGrantedAlike content place other)
    unfolding alike
    alike_decides place other =
        let either = decides (decide_lists (decide_run compare) (granted_ranges (ranges_of other)) (granted_ranges (ranges_of place))) in (
          λ is. alike_if (at place) (at other) (ranges_of place) (ranges_of other) (ranges_are place) (ranges_are other) (either.0 is),
          λ granted. either.1 (same_if (at place) (at other) (ranges_of place) (ranges_of other) (ranges_are place) (ranges_are other) granted),
        )

    -- ---- groups of them
    module _ (sections : List PlaceBreaches) (verdicts : All (AreVerdictsAt content) sections) (groups : List (List PlaceBreaches)) (are : AreSectionGroups sections groups) where
      abbrev place_of : PlaceBreaches → Place
      place_of section = section.place

      same_alike : (section other : PlaceBreaches) → Contains sections section → Contains sections other → are.alike section other ≡ alike (place_of section) (place_of other)
      same_alike section other has has' =
          let own : AreVerdictsAt content section = All-contains (AreVerdictsAt content) sections section verdicts has in
          let own' : AreVerdictsAt content other = All-contains (AreVerdictsAt content) sections other verdicts has' in
          let does = are.decides section other in
          same_test (are.alike section other) (alike (place_of section) (place_of other))
          (λ is. alike_if (at section.place) (at other.place) section.ranges other.ranges own own' (does.0 is), λ granted. does.1 (same_if (at section.place) (at other.place) section.ranges other.ranges own own' granted))
          (alike_decides section.place other.place)

      get_first : (values : List PlaceBreaches) (first : PlaceBreaches) → slice_get values 0 ≡ Some first → slice_get (map place_of values) 0 ≡ Some (place_of first)
      get_first [] first is = absurd (cc)
      get_first (value ∷ values) first is = (let same : value ≡ first = cc in ap (λ v. Some (place_of v)) same)

      grouped : (values : List PlaceBreaches) (some : List (List PlaceBreaches)) → ((section : PlaceBreaches) → Contains values section → Contains sections section) → AreGrouped are.alike values some
          → AreGrouped alike (map place_of values) (map (map place_of) some)
      grouped values [] only is = ap (map place_of) is
      grouped values ([] ∷ some) only is = absurd is
      grouped values ((first ∷ others) ∷ some) only is =
          let listed = only first (has_first values first is.0) in
          let kept = filter_alike (are.alike first) (λ section. alike (place_of first) (place_of section)) values (λ section has. same_alike first section listed (only section has)) in
          let left = filter_alike (λ section. not (are.alike first section)) (λ section. not (alike (place_of first) (place_of section))) values (λ section has. ap not (same_alike first section listed (only section has))) in (
            get_first values first is.0,
            ap (map place_of) (is.1 ∙ kept) ∙ sym (filter_map place_of (alike (place_of first)) values),
            subst (λ (places : List Place). AreGrouped alike places (map (map place_of) some)) (ap (map place_of) left ∙ sym (filter_map place_of (λ place. not (alike (place_of first) place)) values))
                (grouped (filter (λ section. not (are.alike first section)) values) some (λ section has. only section (kept_in (λ section. not (are.alike first section)) values section has).0) is.2),
          )

  pub section_groups_are_groups : SectionGroupsAreGroups
  section_groups_are_groups content sections groups verdicts are = record {
    alike = alike content;
    decides = alike_decides content;
    are = grouped content sections verdicts groups are sections groups (λ section has. has) are.are;
  }
