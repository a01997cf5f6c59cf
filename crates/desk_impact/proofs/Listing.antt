-- What is listed of each place, and of all.
use Rattle.std.proofs.Common.{◌≡◌, ◌<◌, ◌+◌, ◌++◌, ◌∷◌, ◌∙◌, ℕ, Bool, true, List, [], ap, get_or, inl, inr, length, map, refl, subst, sym, take}
use Rattle.std.specs.Prelude.{Option, Some, None}
use Rattle.std.specs.Bool.{Decides}
use Rattle.std.specs.List.{All}
use Rattle.std.proofs.lemmas.Bool.{cases_Bool}
use Rattle.std.proofs.lemmas.List.{map-append}
use Rattle.std.proofs.lemmas.List.Elements.{All-nil, All-push}
use Rattle.desk_tables.specs.declared.filesystems.FsId.{FsId}
use Rattle.desk_policy.specs.Policy.{Content, rows_of, with_lines_of}
use Rattle.desk_who.specs.Runs.{Run}
use Rattle.desk_who.specs.declared.runs.Run.{Run as KeptRun}
use Rattle.desk_impact.specs.Impact.{IsImpact, Matters, SameSayingsAreNoChange, TwoVerdicts, change_value}
use Rattle.desk_impact.specs.ListedChanges.{AreListed, AreListedAt, ListedChange, ListedPlace, listed_change, listed_place}
use Rattle.desk_impact.specs.Places.{ArePlaces, Place, place_of, place_verdicts}
use Rattle.desk_impact.specs.PrivateListedChanges.{AreListedAmong, AreMarked, IsListedAmong}
use Rattle.desk_impact.specs.PrivatePlaces.{ArePlacesWith, is_place_in}
use Rattle.desk_impact.specs.declared.changes.TwoVerdicts.{TwoVerdicts as KeptVerdicts}
use Rattle.desk_impact.specs.declared.listed_changes.ListedChange.{ListedChange as KeptChange}
use Rattle.desk_impact.specs.declared.listed_changes.ListedPlace.{ListedPlace as KeptPlace}
use Rattle.desk_impact.specs.declared.places.Place.{Place as LentPlace}
use Rattle.desk_impact.proofs.Gathered.{take_next}
use Rattle.desk_impact.proofs.OtherLines.{no_changes, places_are, same_changes, same_verdicts}
use Rattle.desk_impact.proofs.Reporting.{same_impact}

-- whether a change is rightly marked
abbrev pub IsMarked : ListedChange → Type 0
IsMarked one = Decides one.matters (Matters one.change.value)

-- ---- the changes of a place
pub none_marked : (listed : List KeptChange) → listed ≡ [] → AreMarked [] (map listed_change listed)
none_marked listed none = record {
  changes_are = ap (λ (all : List KeptChange). map (λ (one : ListedChange). one.change) (map listed_change all)) none;
  matter = subst (λ (all : List KeptChange). All IsMarked (map listed_change all)) (sym none) (All-nil IsMarked);
}

pub next_marked : (changes : List (KeptRun KeptVerdicts)) (i : ℕ) (change : KeptRun KeptVerdicts) → i < length changes → change ≡ get_or changes i change
    → (old new : List KeptChange) (matters : Bool) → new ≡ old ++ record { change = change; matters = matters } ∷ [] → Decides matters (Matters (change_value change).value)
    → AreMarked (map change_value (take i changes)) (map listed_change old) → AreMarked (map change_value (take (i + 1) changes)) (map listed_change new)
next_marked changes i change below is old new matters pushed decides so_far =
    let kept : KeptChange = record { change = change; matters = matters } in
    let one : ListedChange = listed_change kept in
    let all : map listed_change new ≡ map listed_change old ++ one ∷ [] = ap (map listed_change) pushed ∙ map-append listed_change old (kept ∷ []) in
    let more : map change_value (take (i + 1) changes) ≡ map change_value (take i changes) ++ change_value change ∷ [] =
    ap (map change_value) (take_next changes i change below is) ∙ map-append change_value (take i changes) (change ∷ []) in
    record {
      changes_are =
          ap (map (λ (l : ListedChange). l.change)) all ∙ map-append (λ (l : ListedChange). l.change) (map listed_change old) (one ∷ [])
          ∙ ap (λ (runs : List (Run TwoVerdicts)). runs ++ change_value change ∷ []) so_far.changes_are ∙ sym more;
      matter = subst (All IsMarked) (sym all) (All-push IsMarked (map listed_change old) one so_far.matter decides);
    }

-- ---- all places
module _ (before after : Content) (only : Option FsId) where
  pub none_listed : (listed : List KeptPlace) → listed ≡ [] → AreListedAmong before after only [] (map listed_place listed)
  none_listed listed none = record {
    places_are = ap (λ (all : List KeptPlace). map (λ (one : ListedPlace). one.place) (map listed_place all)) none;
    changes = subst (λ (all : List KeptPlace). All (IsListedAmong before after only) (map listed_place all)) (sym none) (All-nil (IsListedAmong before after only));
  }

  pub next_listed : (places : List LentPlace) (i : ℕ) (place : LentPlace) → i < length places → place ≡ get_or places i place
      → (old new : List KeptPlace) (kept : KeptPlace) → new ≡ old ++ kept ∷ [] → place_of kept.place ≡ place_of place → IsListedAmong before after only (listed_place kept)
      → AreListedAmong before after only (map place_of (take i places)) (map listed_place old) → AreListedAmong before after only (map place_of (take (i + 1) places)) (map listed_place new)
  next_listed places i place below is old new kept pushed same listed so_far =
      let one : ListedPlace = listed_place kept in
      let all : map listed_place new ≡ map listed_place old ++ one ∷ [] = ap (map listed_place) pushed ∙ map-append listed_place old (kept ∷ []) in
      let more : map place_of (take (i + 1) places) ≡ map place_of (take i places) ++ place_of place ∷ [] =
      ap (map place_of) (take_next places i place below is) ∙ map-append place_of (take i places) (place ∷ []) in
      record {
        places_are =
            ap (map (λ (l : ListedPlace). l.place)) all ∙ map-append (λ (l : ListedPlace). l.place) (map listed_place old) (one ∷ [])
            ∙ ap (λ (ps : List Place). ps ++ place_of kept.place ∷ []) so_far.places_are ∙ ap (λ (p : Place). map place_of (take i places) ++ p ∷ []) same ∙ sym more;
        changes = subst (All (IsListedAmong before after only)) (sym all) (All-push (IsListedAmong before after only) (map listed_place old) one so_far.changes listed);
      }

-- all are asked about
pub listed_whole : (before after : Content) (places : List Place) (found : List ListedPlace) → ArePlaces before after places → AreListedAmong before after None places found → AreListed before after found
listed_whole before after places found are listed = record {
  places = subst (ArePlaces before after) (sym listed.places_are) are;
  changes = λ k d inside. (listed.changes k d inside).asked refl;
}

-- ---- other lines for one file system
none_at : (before after : Content) (found : ListedPlace) → found.changes ≡ [] → IsImpact before after (place_verdicts before after found.place) [] → AreListedAt before after found
none_at before after found none impact = record {
  impact =
      subst (λ (changes : List ListedChange). IsImpact before after (place_verdicts before after found.place) (map (λ (one : ListedChange). one.change) changes)) (sym none) impact;
  matter = subst (All IsMarked) (sym none) (All-nil IsMarked);
}

module _ (law : SameSayingsAreNoChange) (before lines : Content) (fs : FsId) (table : lines.table ≡ before.table) (within : fs.0 < length before.rows) where
  abbrev after : Content
  after = with_lines_of before fs.0 lines

  here_listed : (found : ListedPlace) → is_place_in before.table fs.0 found.place ≡ true → AreListedAt before lines found → AreListedAt before after found
  here_listed found here are =
      let runs = map (λ (one : ListedChange). one.change) found.changes in
      record {
        impact = same_changes law before lines fs.0 table within (place_verdicts before after found.place) runs
            (same_impact before lines (place_verdicts before lines found.place) (place_verdicts before after found.place) runs
            (same_verdicts law before lines fs.0 table within found.place here) are.impact);
        matter = are.matter;
      }

  one_listed : (found : ListedPlace) → IsListedAmong before lines (Some fs) found → AreListedAt before after found
  one_listed found is =
      elim (cases_Bool (is_place_in before.table fs.0 found.place)) as (λ _. AreListedAt before after found) [
        | inl here ↦ here_listed found here (is.asked here)
        | inr away ↦ none_at before after found (is.silent away) (no_changes before fs.0 lines law found.place away).impact
      ]

  pub lines_listed : (places : List Place) (found : List ListedPlace) → ArePlacesWith before (rows_of lines fs.0) places → AreListedAmong before lines (Some fs) places found → AreListed before after found
  lines_listed places found with_lines listed = record {
    places = subst (ArePlaces before after) (sym listed.places_are) (places_are law before lines fs.0 table within places with_lines);
    changes = λ k d inside. one_listed _ (listed.changes k d inside);
  }
