-- The verdicts on the paths of a file system are those at its places.
use Rattle.std.proofs.Common.{◌≡◌, ℕ, ◌<◌, ◌≤◌, ◌^◌, ◌∙◌, true, List, [], ◌∷◌, None, Some, ap, arith, get_or, map, refl, subst, sym}
use Rattle.std.specs.Prelude.{Contains, Result, Ok, Err, filter}
use Rattle.std.specs.List.{AllByRecursion}
use Rattle.std.proofs.lemmas.Bool.{and_parts, eq-eqb, eqb-true, leb-true, true≢false}
use Rattle.std.proofs.lemmas.List.Elements.{All-contains, All-from_recursion, Contains-get_or}
use Rattle.std.proofs.lemmas.List.Folds.{Any-from_list_any}
use Rattle.std.proofs.lemmas.List.Kept.{AllPairs-cons}
use Rattle.std.specs.List.{AllPairs}
use Rattle.desk_tables.specs.FileSystems.{fs_of}
use Rattle.desk_policy.specs.Policy.{Content}
use Rattle.desk_policy.specs.Verdict.{Grant, is_in, verdict_of}
use Rattle.desk_policy.specs.declared.verdict.Denial.{Denial}
use Rattle.desk_policy.specs.declared.verdict.Denial.TheVariants.{NoFileSystem, NoLine, NotListed}
use Rattle.desk_who.specs.Runs.{AreRuns, Ascend, HasValue, Run, holds}
use Rattle.desk_idle.specs.Idle.{names_line}
use Rattle.desk_impact.specs.Places.{place_verdict}
use Rattle.desk_impact.specs.Sections.{HasPathFor, HasPlaceFor, PlaceBreaches, PlacesTellScope}
use Rattle.page_data.specs.Sections.{AreVerdictsAt, is_section_in, path_at}
use Rattle.page_data.proofs.AllRows.{from_map, to_map}
use Rattle.page_data.proofs.Grouped.{in_kept, kept_in}
use Rattle.page_data.proofs.Standing.{named_fs, path_named, place_named, same_fs}
use Rattle.page_findings.specs.Deciding.{AreSectionsOf}
use Rattle.page_findings.specs.PrivateDeciding.{AllInOrder, AreInOrder, named_line}

-- ---- the line that a verdict names
pub names : (line : ℕ) (verdict : Result Grant Denial) → named_line verdict ≡ Some line → names_line line verdict ≡ true
names line (Ok grant) is = eq-eqb grant.line line (some_same grant.line line is)
  where
    some_same : (a b : ℕ) → Some a ≡ Some b → a ≡ b
    some_same a b e = cc
names line (Err NoFileSystem) is = absurd (let wrong : None ≡ Some line = is in cc)
names line (Err (NoLine fs)) is = absurd (let wrong : None ≡ Some line = is in cc)
names line (Err (NotListed fs other)) is = eq-eqb other line (some_same other line is)
  where
    some_same : (a b : ℕ) → Some a ≡ Some b → a ≡ b
    some_same a b e = cc

pub is_named : (line : ℕ) (verdict : Result Grant Denial) → names_line line verdict ≡ true → named_line verdict ≡ Some line
is_named line (Ok grant) is = ap Some (eqb-true grant.line line is)
is_named line (Err NoFileSystem) is = absurd (true≢false (sym is))
is_named line (Err (NoLine fs)) is = absurd (true≢false (sym is))
is_named line (Err (NotListed fs other)) is = ap Some (eqb-true other line is)

-- ---- ranges in order
apart_from : (ranges : List (Run (Result Grant Denial))) → Ascend ranges → AllPairs (λ (range later : Run (Result Grant Denial)). range.last < later.first) ranges
apart_from [] ascend = λ i j d less within. absurd (omega arith)
apart_from (range ∷ ranges) ascend =
    AllPairs-cons (λ (one later : Run (Result Grant Denial)). one.last < later.first) range ranges
    (All-from_recursion (λ (later : Run (Result Grant Denial)). range.last < later.first) ranges ascend.0) (apart_from ranges ascend.1)

proper_from : (value_at : ℕ → Result Grant Denial) (ranges : List (Run (Result Grant Denial))) → AllByRecursion (HasValue value_at) ranges → AllByRecursion (λ (range : Run (Result Grant Denial)). range.first ≤ range.last) ranges
proper_from value_at [] values = tt
proper_from value_at (range ∷ ranges) values = (values.0.proper, proper_from value_at ranges values.1)

runs_in_order : (value_at : ℕ → Result Grant Denial) (ranges : List (Run (Result Grant Denial))) → AreRuns value_at ranges → AreInOrder ranges
runs_in_order value_at ranges are = record {
  apart = apart_from ranges are.ascend;
  proper = All-from_recursion (λ (range : Run (Result Grant Denial)). range.first ≤ range.last) ranges (proper_from value_at ranges are.values);
}

-- a range of one of the places has an address, and its verdict names a line
pub record NamedAt (sections : List PlaceBreaches) (address line : ℕ) : Type 0 where
  pub section : PlaceBreaches
  pub has : Contains sections section
  pub range : Run (Result Grant Denial)
  pub listed : Contains section.ranges range
  pub low : range.first ≤ address
  pub high : address ≤ range.last
  pub named : named_line range.value ≡ Some line

-- the verdict on some path of a file system names a line
pub record PathNames (content : Content) (fs address line : ℕ) : Type 0 where
  pub path : List (List ℕ)
  pub here : fs_of content.table path ≡ Some fs
  pub names : names_line line (verdict_of content address path) ≡ true

module _ (content : Content) (fs : ℕ) (own : List PlaceBreaches) (are : AreSectionsOf content fs own) where
  verdicts : (section : PlaceBreaches) → Contains are.all section → AreVerdictsAt content section
  verdicts section has = All-contains (AreVerdictsAt content) are.all section are.are_all.verdicts has

  kept : (section : PlaceBreaches) → Contains own section → Contains are.all section × (is_section_in content.table fs section ≡ true)
  kept section has = kept_in (is_section_in content.table fs) are.all section (subst (λ some. Contains some section) are.are has)

  value_of : (section : PlaceBreaches) → Contains are.all section → (range : Run (Result Grant Denial)) → Contains section.ranges range → HasValue (λ address. place_verdict content section.place address) range
  value_of section has range listed =
      All-contains (HasValue (λ address. place_verdict content section.place address)) section.ranges range
      (All-from_recursion (HasValue (λ address. place_verdict content section.place address)) section.ranges (verdicts section has).values) listed

  pub own_value : (section : PlaceBreaches) → Contains own section → (range : Run (Result Grant Denial)) → Contains section.ranges range → HasValue (λ address. place_verdict content section.place address) range
  own_value section has range listed = value_of section (kept section has).0 range listed

  pub all_in_order : AllInOrder own
  all_in_order = by own (λ section has. runs_in_order (λ address. place_verdict content section.place address) section.ranges (verdicts section (kept section has).0))
    where
      by : (sections : List PlaceBreaches) → ((section : PlaceBreaches) → Contains sections section → AreInOrder section.ranges) → AllInOrder sections
      by sections each = λ k d within. each (get_or sections k d) (Contains-get_or sections k d within)

  module _ (tells : PlacesTellScope) (address line : ℕ) where
    pub on_path : NamedAt own address line → PathNames content fs address line
    on_path at =
        let in_all = kept at.section at.has in
        let place = at.section.place in
        let value = value_of at.section in_all.0 at.range at.listed in
        let has_path : HasPathFor content [] true place = All-contains (HasPathFor content [] true) (map (λ (s : PlaceBreaches). s.place) are.all) place
        (tells content [] true (map (λ (s : PlaceBreaches). s.place) are.all) are.are_all.places).1 (to_map (λ (s : PlaceBreaches). s.place) are.all at.section in_all.0) in
        record {
          path = has_path.path;
          here = sym (path_named content 0 has_path.path) ∙ ap named_fs (has_path.stands 0) ∙ place_named content 0 place ∙ same_fs fs (fs_of content.table (path_at place)) in_all.1;
          names = ap (names_line line) (has_path.stands address ∙ value.values address at.low at.high) ∙ names line at.range.value at.named;
        }

    pub at_place : address < 2 ^ 32 → PathNames content fs address line → NamedAt own address line
    at_place fits on =
        let place : HasPlaceFor content (map (λ (s : PlaceBreaches). s.place) are.all) on.path = (tells content [] true (map (λ (s : PlaceBreaches). s.place) are.all) are.are_all.places).0 on.path refl in
        let section = from_map (λ (s : PlaceBreaches). s.place) are.all place.place place.listed in
        let home : fs_of content.table (path_at section.x.place) ≡ Some fs =
        ap (λ p. fs_of content.table (path_at p)) section.is ∙ sym (place_named content 0 place.place) ∙ ap named_fs (sym (place.stands 0)) ∙ path_named content 0 on.path ∙ on.here in
        let in_own : Contains (filter (is_section_in content.table fs) are.all) section.x = in_kept (is_section_in content.table fs) are.all section.x section.has (ap (λ o. is_in o fs) home ∙ eq-eqb fs fs refl) in
        let any = Any-from_list_any (holds address) section.x.ranges ((verdicts section.x section.has).complete address fits) in
        let range : Run (Result Grant Denial) = any.1 in
        let listed : Contains section.x.ranges range = (any.0, any.2, any.3) in
        let parts = and_parts _ _ any.4 in
        let low = leb-true range.first address parts.0 in
        let high = leb-true address range.last parts.1 in
        let value = value_of section.x section.has range listed in
        record {
          section = section.x;
          has = subst (λ some. Contains some section.x) (sym are.are) in_own;
          range = range;
          listed = listed;
          low = low;
          high = high;
          named = is_named line range.value (ap (names_line line) (sym (value.values address low high) ∙ ap (λ p. place_verdict content p address) section.is ∙ sym (place.stands address)) ∙ on.names);
        }
