-- What is told of each place, and of all.
use Rattle.std.proofs.Common.{◌≡◌, ℕ, ◌+◌, ◌-◌, ◌<◌, ◌≤◌, not, Bool, true, false, List, [], ◌∷◌, ◌++◌, get_or, length, map, refl, sym, take, ap, ◌∙◌, subst, arith, inl, inr}
use Rattle.std.specs.Prelude.{cond}
use Rattle.std.specs.List.{AllByRecursion, flat_map, list_all}
use Rattle.std.specs.String.{string_bytes}
use Rattle.std.proofs.lemmas.Bool.{and_from, cases_Bool, or_parts, or_right, true≢false}
use Rattle.std.proofs.lemmas.List.{flat_map_more, length-map, map-append, take_all, take_more}
use Rattle.std.proofs.lemmas.List.Elements.{All-nil, All-push}
use Rattle.std.proofs.lemmas.List.Folds.{list_any-append}
use Rattle.std.proofs.lemmas.List.Sums.{count_by-le-length, length-filter, sum_by_push}
use Rattle.desk_text.specs.Path.{is_under, same_path}
use Rattle.desk_policy.specs.Policy.{Content}
use Rattle.desk_policy.specs.Verdict.{is_directory_among}
use Rattle.desk_impact.specs.Impact.{IsImpact, ThoseThatMatter, TwoVerdicts, change_value, verdicts_at}
use Rattle.desk_who.specs.Runs.{HasValue, Run}
use Rattle.desk_impact.specs.declared.changes.TwoVerdicts.{TwoVerdicts as KeptVerdicts}
use Rattle.desk_who.specs.declared.runs.Run.{Run as KeptRun}
use Rattle.desk_impact.specs.Places.{ArePlaces, Others, Place, dirs_of_both, is_home, mounts_of_both, place_of, place_verdicts, taken_by}
use Rattle.desk_impact.specs.PrivatePlaces.{IsFree}
use Rattle.desk_impact.specs.PrivateReport.{AreTold, IsReportOf, IsTold}
use Rattle.desk_impact.specs.Report.{AreChangesAt, IsReport, PlaceChanges, last_line, mattering_count, other_count, section, section_of}
use Rattle.desk_impact.specs.declared.places.Place.{Place as LentPlace}
use Rattle.desk_impact.specs.declared.report.Report.{Report}
use Rattle.desk_impact.specs.declared.report.Told.{Told}
use Rattle.desk_impact.proofs.Elsewhere.{decided_as_others}
use Rattle.desk_impact.proofs.Same.{Path, is_same}
use Rattle.desk_impact.proofs.Under.{above_child, child_under, is_above, passes_apart}

-- ---- the changes of a free path are those of all others
same_values : (f g : ℕ → TwoVerdicts) → ((address : ℕ) → f address ≡ g address) → (runs : List (Run TwoVerdicts)) → AllByRecursion (HasValue f) runs → AllByRecursion (HasValue g) runs
same_values f g same [] values = tt
same_values f g same (run ∷ runs) values = (
  record { proper = values.0.proper; addresses = values.0.addresses; values = λ address low high. sym (same address) ∙ values.0.values address low high },
  same_values f g same runs values.1,
)

pub same_impact : (before after : Content) (f g : ℕ → TwoVerdicts) (changes : List (Run TwoVerdicts)) → ((address : ℕ) → f address ≡ g address) → IsImpact before after f changes → IsImpact before after g changes
same_impact before after f g changes same impact = record {
  whole = impact.whole;
  runs = record { values = same_values f g same impact.whole impact.runs.values; complete = impact.runs.complete; ascend = impact.runs.ascend; apart = impact.runs.apart };
  chosen = impact.chosen;
}

pub free_above : (mount : Path) (name : List ℕ) (mounts : List Path) → is_directory_among (mount ++ name ∷ []) mounts ≡ false → list_all (is_above (mount ++ name ∷ []) mount) mounts ≡ true
free_above mount name [] free = refl
free_above mount name (other ∷ mounts) free =
    let child = mount ++ name ∷ [] in
    let p = or_parts (same_path other child) (is_directory_among child mounts) free in
    and_from (is_above child mount other) (list_all (is_above child mount) mounts)
    (elim (cases_Bool (is_under child other)) as (λ _. is_above child mount other ≡ true) [
      | inl under ↦ elim (above_child mount other name under) as (λ _. is_above child mount other ≡ true) [
        | inl above ↦ or_right (not (is_under child other)) (is_under mount other) above
        | inr same ↦ absurd (true≢false (sym (is_same other child same) ∙ p.0))
      ]
      | inr apart ↦ passes_apart child mount other apart
    ])
    (free_above mount name mounts p.1)

-- a free path is decided on as all others are
pub free_is_home : (before after : Content) (mount path : Path) → IsFree mount (taken_by before after) path
    → (is_home (mounts_of_both before after) path mount ≡ true) × (is_directory_among path (dirs_of_both before after) ≡ false)
free_is_home before after mount path free =
    let child = mount ++ free.name ∷ [] in
    let p = or_parts (is_directory_among child (mounts_of_both before after)) (is_directory_among child (dirs_of_both before after))
    (sym (list_any-append (λ dir. same_path dir child) (mounts_of_both before after) (dirs_of_both before after)) ∙ ap (λ q. is_directory_among q (taken_by before after)) (sym free.below) ∙ free.free) in
    let home : is_home (mounts_of_both before after) child mount ≡ true =
    and_from (is_under child mount) (list_all (is_above child mount) (mounts_of_both before after)) (child_under mount free.name) (free_above mount free.name (mounts_of_both before after) p.0) in
    (ap (λ (q : Path). is_home (mounts_of_both before after) q mount) free.below ∙ home, ap (λ (q : Path). is_directory_among q (dirs_of_both before after)) free.below ∙ p.1)

pub free_decided : (before after : Content) (mount path : Path) → IsFree mount (taken_by before after) path → (address : ℕ) → verdicts_at before after path address ≡ place_verdicts before after (Others mount) address
free_decided before after mount path free address =
    let own = free_is_home before after mount path free in
    decided_as_others before after mount path own.0 own.1 address

pub changes_of_others : (before after : Content) (mount path : Path) (changes : List (Run TwoVerdicts)) → IsFree mount (taken_by before after) path → IsImpact before after (verdicts_at before after path) changes
    → IsImpact before after (place_verdicts before after (Others mount)) changes
changes_of_others before after mount path changes free impact =
    same_impact before after (verdicts_at before after path) (place_verdicts before after (Others mount)) changes (free_decided before after mount path free) impact

-- ---- a section
pub fewer : (changes mattering : List (KeptRun KeptVerdicts)) → ThoseThatMatter (map change_value changes) (map change_value mattering) → length mattering ≤ length changes
fewer changes mattering those =
    let all = map change_value changes in
    let count = ap length those.are ∙ length-filter those.test all in
    omega (arith, count, count_by-le-length those.test all, length-map changes change_value, length-map mattering change_value)

-- what is listed of a place is its section
pub section_is : (was will before after : Content) (place : Place) (all : Bool) (shown changes mattering : List (KeptRun KeptVerdicts)) → was ≡ before → will ≡ after → shown ≡ cond all changes mattering
    → section_of was will place (map change_value shown) ≡ section before after all (record { place = place; changes = map change_value changes; mattering = map change_value mattering })
section_is was will before after place true shown changes mattering old new are =
    ap (λ (c : Content). section_of c will place (map change_value shown)) old ∙ ap (λ (c : Content). section_of before c place (map change_value shown)) new
    ∙ ap (λ (s : List (KeptRun KeptVerdicts)). section_of before after place (map change_value s)) are
section_is was will before after place false shown changes mattering old new are =
    ap (λ (c : Content). section_of c will place (map change_value shown)) old ∙ ap (λ (c : Content). section_of before c place (map change_value shown)) new
    ∙ ap (λ (s : List (KeptRun KeptVerdicts)). section_of before after place (map change_value s)) are

-- ---- all places
pub told_first : (before after : Content) (all : Bool) (text : List ℕ) → text ≡ [] → AreTold before after all [] text 0 0
told_first before after all text none = record { found = []; places_are = refl; changes = All-nil (AreChangesAt before after); written = none; mattering_is = refl; others_are = refl }

pub told_more : (before after : Content) (all : Bool) (places : List Place) (text next : List ℕ) (mattering others : ℕ) (place : Place) (told : Told)
    → AreTold before after all places text mattering others → IsTold before after place all text next told
    → AreTold before after all (places ++ place ∷ []) next (mattering + told.mattering) (others + told.others)
told_more before after all places text next mattering others place told so_far one = record {
  found = so_far.found ++ one.found ∷ [];
  places_are = map-append (λ (f : PlaceChanges). f.place) so_far.found (one.found ∷ []) ∙ ap (λ ps. ps ++ one.found.place ∷ []) so_far.places_are ∙ ap (λ (p : Place). places ++ p ∷ []) one.place_is;
  changes = All-push (AreChangesAt before after) so_far.found one.found so_far.changes one.changes;
  written = one.text ∙ ap (λ t. t ++ section before after all one.found) so_far.written ∙ flat_map_more (section before after all) [] so_far.found one.found;
  mattering_is = ap (λ n. n + told.mattering) so_far.mattering_is ∙ ap (λ n. mattering_count so_far.found + n) one.mattering ∙ sym (sum_by_push (λ (f : PlaceChanges). length f.mattering) so_far.found one.found);
  others_are = ap (λ n. n + told.others) so_far.others_are ∙ ap (λ n. other_count so_far.found + n) one.others ∙ sym (sum_by_push (λ (f : PlaceChanges). length f.changes - length f.mattering) so_far.found one.found);
}

module _ (items : List LentPlace) (i : ℕ) (item : LentPlace) (below : i < length items) (is : item ≡ get_or items i item) where
  pub told_next : (before after : Content) (all : Bool) (text next : List ℕ) (mattering others : ℕ) (told : Told)
      → AreTold before after all (map place_of (take i items)) text mattering others → IsTold before after (place_of item) all text next told
      → AreTold before after all (map place_of (take (i + 1) items)) next (mattering + told.mattering) (others + told.others)
  told_next before after all text next mattering others told so_far one =
      let more : map place_of (take (i + 1) items) ≡ map place_of (take i items) ++ place_of item ∷ [] =
      ap (map place_of) (take_more items i item below ∙ ap (λ (p : LentPlace). take i items ++ p ∷ []) (sym is)) ∙ map-append place_of (take i items) (item ∷ []) in
      subst (λ ps. AreTold before after all ps next (mattering + told.mattering) (others + told.others)) (sym more)
      (told_more before after all (map place_of (take i items)) text next mattering others (place_of item) told so_far one)

pub reported : (before after : Content) (all : Bool) (items : List LentPlace) (i : ℕ) (text : List ℕ) (others : ℕ) (report : Report) → length items ≤ i
    → AreTold before after all (map place_of (take i items)) text report.mattering others → string_bytes report.text ≡ text ++ last_line report.mattering others
    → IsReportOf before after (map place_of items) all report
reported before after all items i text others report end told written = record {
  found = told.found;
  places_are = told.places_are ∙ ap (map place_of) (take_all i items end);
  changes = told.changes;
  text = written ∙ ap (λ t. t ++ last_line report.mattering others) told.written
      ∙ ap (λ n. flat_map (section before after all) told.found ++ last_line n others) told.mattering_is
      ∙ ap (λ n. flat_map (section before after all) told.found ++ last_line (mattering_count told.found) n) told.others_are;
  count = told.mattering_is;
}

-- a report of the places of two policies
pub reported_whole : (before after : Content) (all : Bool) (places : List Place) (report : Report) → ArePlaces before after places → IsReportOf before after places all report → IsReport before after all report
reported_whole before after all places report are is = record { found = is.found; places = subst (ArePlaces before after) (sym is.places_are) are; changes = is.changes; text = is.text; count = is.count }
