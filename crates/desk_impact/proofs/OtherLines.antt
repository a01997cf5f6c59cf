-- Other lines for one file system: they decide in it, nothing else changes, and its places tell of all that does.
use Rattle.std.proofs.Common.{◌≡◌, ◌∙◌, ◌<◌, ◌+◌, ◌++◌, ◌-◌, ◌||◌, ◌&&◌, ℕ, zero, suc, Bool, true, false, cond, List, [], ◌∷◌, ap, get_or, inl, inr, length, map, refl, subst, sym}
use Rattle.std.specs.Prelude.{All, Contains, Option, Some, None, Result, Ok, Err, filter, slice_get}
use Rattle.std.specs.List.{AllByRecursion, flat_map}
use Rattle.std.specs.Option.{option_map}
use Rattle.std.proofs.lemmas.Bool.{cases_Bool, cases_eq, eq-eqb, eqb-true, true≢false}
use Rattle.std.proofs.lemmas.List.{get_or-set_other, get_or-set_same}
use Rattle.std.proofs.lemmas.List.Sums.{sum_by-cons}
use Rattle.std.proofs.lemmas.List.Elements.{All-append, All-cons, All-contains, All-contains_itself, All-nil, Contains-append_cases, Contains-append_left, Contains-append_right, recursion_from_All}
use Rattle.desk_text.specs.Address.{addr_text}
use Rattle.desk_tables.specs.FileSystems.{fs_of}
use Rattle.desk_tables.specs.declared.filesystems.Mount.{Mount}
use Rattle.desk_origins.specs.declared.origins.Origin.{Origin}
use Rattle.desk_policy.specs.Listings.{written}
use Rattle.desk_policy.specs.Policy.{Content, rows_of, with_lines_of}
use Rattle.desk_policy.specs.Prints.{verdict_line}
use Rattle.desk_policy.specs.Verdict.{Grant, is_directory_among, is_in, lists, verdict_among, verdict_in, verdict_of}
use Rattle.desk_policy.specs.Weights.{selected}
use Rattle.desk_policy.specs.declared.row.Row.{Row}
use Rattle.desk_policy.specs.declared.verdict.Denial.{Denial}
use Rattle.desk_policy.specs.declared.verdict.Denial.TheVariants.{NoFileSystem, NoLine, NotListed}
use Rattle.desk_impact.specs.Impact.{HasNoLine, IsImpact, IsNotListed, SameSayingsAreNoChange, TwoVerdicts, saying}
use Rattle.desk_impact.specs.ImpactPrints.{impact_text, with_verdict}
use Rattle.desk_who.specs.Runs.{Run}
use Rattle.desk_who.specs.WhoPrints.{range_line}
use Rattle.desk_impact.specs.Places.{AreInOrder, ArePlaces, Directory, Others, Place, all_written, dirs_of_both, place_verdict, place_verdicts, verdict_elsewhere}
use Rattle.desk_impact.specs.PrivatePlaces.{ArePlacesWith, dirs_with, is_place_in}
use Rattle.desk_impact.specs.PrivateReport.{IsReportOf}
use Rattle.desk_impact.specs.Report.{AreChangesAt, IsReport, PlaceChanges, heading, last_line, listed, mattering_count, other_count, section, section_of}
use Rattle.desk_impact.specs.declared.report.Report.{Report}
use Rattle.desk_impact.proofs.Reporting.{same_impact}
use Rattle.desk_impact.proofs.Same.{Path}

-- ---- what is decided in a file system
in_place : (found : Option ℕ) (fs : ℕ) → is_in found fs ≡ true → found ≡ Some fs
in_place None fs is = absurd (true≢false (sym is))
in_place (Some own) fs is = ap Some (eqb-true own fs is)

-- the verdict on a path of a file system rests on the table and on these lines
abbrev by_lines : ℕ → Path → ℕ → List Mount → List Row → Result Grant Denial
by_lines address path fs table rows = verdict_among (record { 0 = fs }) (λ row. is_directory_among path row.entry.dirs || (row.entry.alldirs && is_in (fs_of table path) fs)) (selected rows address)

module _ (one other : Content) (fs : ℕ) (table : other.table ≡ one.table) (rows : rows_of other fs ≡ rows_of one fs) where
  same_here : (address : ℕ) (path : Path) → fs_of one.table path ≡ Some fs → verdict_of other address path ≡ verdict_of one address path
  unfolding verdict_of
  same_here address path here =
      ap (verdict_in other address path) (ap (λ t. fs_of t path) table ∙ here)
      ∙ ap (λ t. by_lines address path fs t (rows_of other fs)) table
      ∙ ap (λ rs. by_lines address path fs one.table rs) rows
      ∙ sym (ap (verdict_in one address path) here)

  pub same_place : (place : Place) → is_place_in one.table fs place ≡ true → (address : ℕ) → place_verdict other place address ≡ place_verdict one place address
  same_place (Directory path) here address = same_here address path (in_place (fs_of one.table path) fs here)
  same_place (Others mount) here address =
      let own = in_place (fs_of one.table mount) fs here in
      ap (verdict_elsewhere other address) (ap (λ t. fs_of t mount) table ∙ own)
      ∙ ap (λ rs. verdict_among (record { 0 = fs }) (λ (row : Row). row.entry.alldirs) (selected rs address)) rows
      ∙ sym (ap (verdict_elsewhere one address) own)

-- what a verdict says rests on the table, and how it is printed on the texts that lines are of, too
module _ (one other : Content) (table : other.table ≡ one.table) where
  pub same_saying : (verdict : Result Grant Denial) → saying other verdict ≡ saying one verdict
  same_saying (Ok grant) = refl
  same_saying (Err NoFileSystem) = refl
  same_saying (Err (NoLine fs)) = ap (λ (t : List Mount). HasNoLine (option_map (λ (mount : Mount). mount.path) (slice_get t fs.0))) table
  same_saying (Err (NotListed fs line)) = ap (λ (t : List Mount). IsNotListed (option_map (λ (mount : Mount). mount.path) (slice_get t fs.0)) line) table

module _ (one other : Content) (table : other.table ≡ one.table) (origins : other.origins ≡ one.origins) where
  -- a policy of this table, whose lines are of these texts
  abbrev of_both : List Mount → List Origin → Content
  of_both mounts texts = record { table = mounts; rows = []; warnings = []; origins = texts }

  same_line : (verdict : Result Grant Denial) → verdict_line other verdict ≡ verdict_line one verdict
  same_line (Ok grant) = ap (λ (os : List Origin). verdict_line (of_both one.table os) (Ok grant)) origins
  same_line (Err NoFileSystem) = refl
  same_line (Err (NoLine fs)) = ap (λ (t : List Mount). verdict_line (of_both t one.origins) (Err (NoLine fs))) table
  same_line (Err (NotListed fs line)) =
      ap (λ (t : List Mount). verdict_line (of_both t other.origins) (Err (NotListed fs line))) table
      ∙ ap (λ (os : List Origin). verdict_line (of_both one.table os) (Err (NotListed fs line))) origins

  same_text : (before : Content) (changes : List (Run TwoVerdicts)) → impact_text before other changes ≡ impact_text before one changes
  same_text before [] = refl
  same_text before (change ∷ changes) =
      ap (λ (l : List ℕ). ((45 ∷ 32 ∷ range_line before (with_verdict change change.value.before)) ++ (43 ∷ 32 ∷ (addr_text change.first ++ 45 ∷ addr_text change.last ++ 32 ∷ l ++ 10 ∷ []))) ++ impact_text before other changes)
      (same_line change.value.after)
      ∙ ap (λ t. ((45 ∷ 32 ∷ range_line before (with_verdict change change.value.before)) ++ (43 ∷ 32 ∷ range_line one (with_verdict change change.value.after))) ++ t) (same_text before changes)

  same_section : (before : Content) (place : Place) (changes : List (Run TwoVerdicts)) → section_of before other place changes ≡ section_of before one place changes
  same_section before place [] = refl
  same_section before place (change ∷ changes) = ap (λ t. heading place ++ t) (same_text before (change ∷ changes))

-- ---- other lines for one file system
module _ (before : Content) (fs : ℕ) (lines : Content) where
  elsewhere_in : (address : ℕ) (path : Path) (found : Option ℕ) → is_in found fs ≡ false → verdict_in (with_lines_of before fs lines) address path found ≡ verdict_in before address path found
  elsewhere_in address path None away = refl
  elsewhere_in address path (Some own) away =
      ap (λ rs. verdict_among (record { 0 = own }) (lists before own path) (selected rs address))
      (get_or-set_other before.rows fs own (rows_of lines fs) [] (λ e. true≢false (sym (eq-eqb own fs e) ∙ away)))

  elsewhere_others : (address : ℕ) (found : Option ℕ) → is_in found fs ≡ false → verdict_elsewhere (with_lines_of before fs lines) address found ≡ verdict_elsewhere before address found
  elsewhere_others address None away = refl
  elsewhere_others address (Some own) away =
      ap (λ rs. verdict_among (record { 0 = own }) (λ (row : Row). row.entry.alldirs) (selected rs address))
      (get_or-set_other before.rows fs own (rows_of lines fs) [] (λ e. true≢false (sym (eq-eqb own fs e) ∙ away)))

  elsewhere : (place : Place) → is_place_in before.table fs place ≡ false → (address : ℕ) → place_verdict (with_lines_of before fs lines) place address ≡ place_verdict before place address
  unfolding verdict_of
  elsewhere (Directory path) away address = elsewhere_in address path (fs_of before.table path) away
  elsewhere (Others mount) away address = elsewhere_others address (fs_of before.table mount) away

  pub no_changes : SameSayingsAreNoChange → (place : Place) → is_place_in before.table fs place ≡ false → AreChangesAt before (with_lines_of before fs lines) (record { place = place; changes = []; mattering = [] })
  no_changes law place away =
      let after = with_lines_of before fs lines in
      let none = law before after (place_verdicts before after place)
      (λ address within. ap (saying after) (elsewhere place away address) ∙ same_saying before after refl (place_verdict before place address)) in
      record { impact = none.0; those = none.1 }

-- ---- those of another policy
record Restored (before lines after : Content) (told : Bool) (places : List Place) (found : List PlaceChanges) : Type 0 where
  pub fuller : List PlaceChanges
  pub places_are : map (λ one. one.place) fuller ≡ places
  pub changes : All (AreChangesAt before after) fuller
  pub sections : flat_map (section before after told) fuller ≡ flat_map (section before lines told) found
  pub mattering : mattering_count fuller ≡ mattering_count found
  pub others : other_count fuller ≡ other_count found

module _ (law : SameSayingsAreNoChange) (before lines : Content) (fs : ℕ) (table : lines.table ≡ before.table) (within : fs < length before.rows) where
  abbrev after : Content
  after = with_lines_of before fs lines

  own : rows_of lines fs ≡ rows_of after fs
  own = sym (get_or-set_same before.rows fs (rows_of lines fs) [] within)

  pub same_verdicts : (place : Place) → is_place_in before.table fs place ≡ true → (address : ℕ) → place_verdicts before lines place address ≡ place_verdicts before after place address
  same_verdicts place here address = ap (λ v. record { before = place_verdict before place address; after = v }) (same_place after lines fs table own place here address)

  pub same_changes : (verdicts : ℕ → TwoVerdicts) (changes : List (Run TwoVerdicts)) → IsImpact before lines verdicts changes → IsImpact before after verdicts changes
  same_changes verdicts changes impact = record {
    whole = impact.whole;
    runs = impact.runs;
    chosen = record {
      test = impact.chosen.test;
      decides = λ run.
          let d = impact.chosen.decides run in
          let s = same_saying after lines table run.value.after in
          (λ is e. d.0 is (s ∙ e), λ apart. d.1 (λ e. apart (sym s ∙ e)));
      are = impact.chosen.are;
    };
  }

  here_changes : (found : PlaceChanges) → is_place_in before.table fs found.place ≡ true → AreChangesAt before lines found → AreChangesAt before after found
  here_changes found here are = record {
    impact = same_changes (place_verdicts before after found.place) found.changes
        (same_impact before lines (place_verdicts before lines found.place) (place_verdicts before after found.place) found.changes (same_verdicts found.place here) are.impact);
    those = are.those;
  }

  none_written : (told : Bool) (place : Place) → section before after told (record { place = place; changes = []; mattering = [] }) ≡ []
  none_written true place = refl
  none_written false place = refl

  abbrev pub test : Place → Bool
  test = is_place_in before.table fs

  module _ (told : Bool) where
    skipped : (place : Place) (places : List Place) (found : List PlaceChanges) → test place ≡ false → Restored before lines after told places found → Restored before lines after told (place ∷ places) found
    skipped place places found away more =
        let none : PlaceChanges = record { place = place; changes = []; mattering = [] } in
        record {
          fuller = none ∷ more.fuller;
          places_are = ap (λ ps. place ∷ ps) more.places_are;
          changes = All-cons (AreChangesAt before after) none more.fuller (no_changes before fs lines law place away) more.changes;
          sections = ap (λ t. t ++ flat_map (section before after told) more.fuller) (none_written told place) ∙ more.sections;
          mattering = more.mattering;
          others = more.others;
        }

    kept : (place : Place) (places : List Place) (first : PlaceChanges) (found : List PlaceChanges) → first.place ≡ place → test place ≡ true → AreChangesAt before lines first
        → Restored before lines after told places found → Restored before lines after told (place ∷ places) (first ∷ found)
    kept place places first found is here are more = record {
      fuller = first ∷ more.fuller;
      places_are = ap (λ p. p ∷ map (λ (one : PlaceChanges). one.place) more.fuller) is ∙ ap (λ ps. place ∷ ps) more.places_are;
      changes = All-cons (AreChangesAt before after) first more.fuller (here_changes first (ap test is ∙ here) are) more.changes;
      sections =
          ap (λ t. t ++ flat_map (section before after told) more.fuller) (sym (same_section after lines table refl before first.place (listed told first)))
          ∙ ap (λ t. section before lines told first ++ t) more.sections;
      mattering =
          sum_by-cons (λ (one : PlaceChanges). length one.mattering) first more.fuller ∙ ap (λ n. length first.mattering + n) more.mattering
          ∙ sym (sum_by-cons (λ (one : PlaceChanges). length one.mattering) first found);
      others =
          sum_by-cons (λ (one : PlaceChanges). length one.changes - length one.mattering) first more.fuller ∙ ap (λ n. (length first.changes - length first.mattering) + n) more.others
          ∙ sym (sum_by-cons (λ (one : PlaceChanges). length one.changes - length one.mattering) first found);
    }

    kept_first : (place : Place) (places : List Place) (found : List PlaceChanges) → test place ≡ true → map (λ (one : PlaceChanges). one.place) found ≡ place ∷ filter test places
        → AllByRecursion (AreChangesAt before lines) found
        → ((rest : List PlaceChanges) → map (λ (one : PlaceChanges). one.place) rest ≡ filter test places → AllByRecursion (AreChangesAt before lines) rest → Restored before lines after told places rest)
        → Restored before lines after told (place ∷ places) found
    kept_first place places [] here is are more = absurd (cc)
    kept_first place places (first ∷ found) here is are more = kept place places first found (cc) here are.0 (more found (cc) are.1)

    restore : (places : List Place) (found : List PlaceChanges) → map (λ (one : PlaceChanges). one.place) found ≡ filter test places → AllByRecursion (AreChangesAt before lines) found → Restored before lines after told places found
    restore [] [] is are = record { fuller = []; places_are = refl; changes = All-nil (AreChangesAt before after); sections = refl; mattering = refl; others = refl }
    restore [] (first ∷ found) is are = absurd (cc)
    restore (place ∷ places) found is are =
        elim (cases_Bool (test place)) as (λ _. Restored before lines after told (place ∷ places) found) [
          | inl here ↦ kept_first place places found here (is ∙ ap (λ b. cond b (place ∷ filter test places) (filter test places)) here) are (λ rest is' are'. restore places rest is' are')
          | inr away ↦ skipped place places found away (restore places found (is ∙ ap (λ b. cond b (place ∷ filter test places) (filter test places)) away) are)
        ]

  -- ---- the places
  in_all : (lists : List (List Row)) (k : ℕ) (path : Path) → Contains (written (get_or lists k [])) path → Contains (flat_map written lists) path
  in_all [] k path at = at
  in_all (first ∷ lists) zero path at = Contains-append_left (written first) (flat_map written lists) path at
  in_all (first ∷ lists) (suc k) path at = Contains-append_right (written first) (flat_map written lists) path (in_all lists k path at)

  of_all : (lists : List (List Row)) (path : Path) → Contains (flat_map written lists) path → (k : ℕ) × Contains (written (get_or lists k [])) path
  of_all [] path at = (0, at)
  of_all (first ∷ lists) path at = elim (Contains-append_cases (written first) (flat_map written lists) path at) [
    | inl here ↦ (0, here)
    | inr later ↦ let rest = of_all lists path later in (suc rest.0, rest.1)
  ]

  -- a line of the new policy is one of the file system's new ones, or an old one
  old_or_new : (path : Path) → Contains (all_written after) path → Contains (dirs_with before (rows_of lines fs)) path
  old_or_new path at =
      let place = of_all after.rows path at in
      elim (cases_eq place.0 fs) as (λ _. Contains (dirs_with before (rows_of lines fs)) path) [
        | inl here ↦ Contains-append_right (all_written before) (written (rows_of lines fs)) path
            (subst (λ rs. Contains (written rs) path) (ap (rows_of after) here ∙ sym own) place.1)
        | inr away ↦ Contains-append_left (all_written before) (written (rows_of lines fs)) path
            (in_all before.rows place.0 path (subst (λ rs. Contains (written rs) path) (get_or-set_other before.rows fs place.0 (rows_of lines fs) [] away) place.1))
      ]

  with_old : All (Contains (dirs_with before (rows_of lines fs))) (dirs_of_both before after)
  with_old =
      All-append (Contains (dirs_with before (rows_of lines fs))) (all_written before) (all_written after)
      (λ k d inside. Contains-append_left (all_written before) (written (rows_of lines fs)) _ (All-contains_itself (all_written before) k d inside))
      (λ k d inside. old_or_new _ (All-contains_itself (all_written after) k d inside))

  new_line : (path : Path) → Contains (written (rows_of lines fs)) path → Contains (all_written after) path
  new_line path at = in_all after.rows fs path (subst (λ rs. Contains (written rs) path) own at)

  with_new : All (Contains (dirs_of_both before after)) (dirs_with before (rows_of lines fs))
  with_new =
      All-append (Contains (dirs_of_both before after)) (all_written before) (written (rows_of lines fs))
      (λ k d inside. Contains-append_left (all_written before) (all_written after) _ (All-contains_itself (all_written before) k d inside))
      (λ k d inside. Contains-append_right (all_written before) (all_written after) _ (new_line _ (All-contains_itself (written (rows_of lines fs)) k d inside)))

  same_order : (given other ordered : List Path) → All (Contains given) other → All (Contains other) given → AreInOrder given ordered → AreInOrder other ordered
  same_order given other ordered some all are = record {
    ascend = are.ascend;
    all = λ k d inside. All-contains (Contains ordered) given _ are.all (some k d inside);
    only = λ k d inside. All-contains (Contains other) given _ all (are.only k d inside);
  }

  pub places_are : (places : List Place) → ArePlacesWith before (rows_of lines fs) places → ArePlaces before after places
  places_are places are = record {
    mounts = are.mounts;
    dirs = are.dirs;
    mounts_are = are.mounts_are;
    dirs_are = same_order (dirs_with before (rows_of lines fs)) (dirs_of_both before after) are.dirs with_old with_new are.dirs_are;
    are = are.are;
  }

  -- ---- the report
  pub lines_reported : (told : Bool) (places own_places : List Place) (report : Report) → ArePlacesWith before (rows_of lines fs) places → own_places ≡ filter test places
      → IsReportOf before lines own_places told report → IsReport before after told report
  lines_reported told places own_places report with_lines chosen is =
      let all = restore told places is.found (is.places_are ∙ chosen) (recursion_from_All (AreChangesAt before lines) is.found is.changes) in
      record {
        found = all.fuller;
        places = subst (ArePlaces before after) (sym all.places_are) (places_are places with_lines);
        changes = all.changes;
        text = is.text ∙ ap (λ t. t ++ last_line (mattering_count is.found) (other_count is.found)) (sym all.sections)
            ∙ ap (λ n. flat_map (section before after told) all.fuller ++ last_line n (other_count is.found)) (sym all.mattering)
            ∙ ap (λ n. flat_map (section before after told) all.fuller ++ last_line (mattering_count all.fuller) n) (sym all.others);
        count = is.count ∙ sym all.mattering;
      }
