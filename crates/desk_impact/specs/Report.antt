-- What another policy would change, told place by place. (this project's own)
use Rattle.std.specs.Prelude.{◌≡◌, ℕ, ◌++◌, ◌-◌, ◌==◌, All, Bool, true, false, List, [], ◌∷◌, codes, length, map, sum_by, if◌then◌else◌}
use Rattle.std.specs.Fmt.{decimal}
use Rattle.std.specs.List.{flat_map}
use Rattle.std.specs.String.{string_bytes}
use Rattle.desk_text.specs.Path.{path_text}
use Rattle.desk_policy.specs.Policy.{Content}
use Rattle.desk_impact.specs.Impact.{IsImpact, ThoseThatMatter, TwoVerdicts}
use Rattle.desk_impact.specs.ImpactPrints.{impact_text}
use Rattle.desk_who.specs.Runs.{Run}
use Rattle.desk_impact.specs.Places.{ArePlaces, Directory, Others, Place, place_verdicts}
use Rattle.desk_impact.specs.declared.report.Report.{Report}

-- what changes at a place, and what of that matters
pub record PlaceChanges : Type 0 where
  pub place : Place
  pub changes : List (Run TwoVerdicts)
  pub mattering : List (Run TwoVerdicts)

-- it is what changes there between these policies
pub record AreChangesAt (before after : Content) (found : PlaceChanges) : Type 0 where
  pub impact : IsImpact before after (place_verdicts before after found.place) found.changes
  pub those : ThoseThatMatter found.changes found.mattering

-- the line above the changes of a place, as `== /usr`
abbrev pub heading : Place → List ℕ
heading (Directory path) = codes "== " ++ path_text path ++ 10 ∷ []
heading (Others mount) = codes "== other directories of " ++ path_text mount ++ 10 ∷ []

-- the changes of a place below its heading; nothing if there are none
abbrev pub section_of : Content → Content → Place → List (Run TwoVerdicts) → List ℕ
section_of before after place [] = []
section_of before after place (change ∷ changes) = heading place ++ impact_text before after (change ∷ changes)

-- the changes that are listed: all, or those that matter
abbrev pub listed : Bool → PlaceChanges → List (Run TwoVerdicts)
listed true found = found.changes
listed false found = found.mattering

abbrev pub section : Content → Content → Bool → PlaceChanges → List ℕ
section before after all found = section_of before after found.place (listed all found)

-- how many changes matter, and how many do not
abbrev pub mattering_count : List PlaceChanges → ℕ
mattering_count found = sum_by (λ one. length one.mattering) found

abbrev pub other_count : List PlaceChanges → ℕ
other_count found = sum_by (λ one. length one.changes - length one.mattering) found

-- how many changes there are that matter, as `2 changes`
abbrev pub count_text : ℕ → List ℕ
count_text count = decimal count ++ (if count == 1 then codes " change" else codes " changes")

-- how many there are that do not, if there are any
abbrev pub rest_text : ℕ → List ℕ
rest_text count = if count == 0 then [] else codes ", " ++ decimal count ++ codes " of lines or reasons alone"

-- the last line
abbrev pub last_line : ℕ → ℕ → List ℕ
last_line mattering others = count_text mattering ++ rest_text others ++ 10 ∷ []

-- the sections of the places, and the last line
abbrev pub report_text : Content → Content → Bool → List PlaceChanges → List ℕ
report_text before after all found = flat_map (section before after all) found ++ last_line (mattering_count found) (other_count found)

-- The report tells what changes at each place between these policies, and how many changes matter.
pub record IsReport (before after : Content) (all : Bool) (report : Report) : Type 0 where
  pub found : List PlaceChanges
  pub places : ArePlaces before after (map (λ one. one.place) found)
  pub changes : All (AreChangesAt before after) found
  pub text : string_bytes report.text ≡ report_text before after all found
  pub count : report.mattering ≡ mattering_count found
