-- What the private contracts of the report cite.
use Rattle.std.specs.Prelude.{◌≡◌, ℕ, ◌++◌, ◌-◌, All, Bool, List, length, map}
use Rattle.std.specs.List.{flat_map}
use Rattle.std.specs.String.{string_bytes}
use Rattle.desk_policy.specs.Policy.{Content}
use Rattle.desk_impact.specs.Places.{Place}
use Rattle.desk_impact.specs.Report.{AreChangesAt, PlaceChanges, mattering_count, other_count, report_text, section}
use Rattle.desk_impact.specs.declared.report.Report.{Report}
use Rattle.desk_impact.specs.declared.report.Told.{Told}

-- the section of a place was written, and these are the numbers of its changes
pub record IsTold (before after : Content) (place : Place) (all : Bool) (old new : List ℕ) (told : Told) : Type 0 where
  pub found : PlaceChanges
  pub place_is : found.place ≡ place
  pub changes : AreChangesAt before after found
  pub text : new ≡ old ++ section before after all found
  pub mattering : told.mattering ≡ length found.mattering
  pub others : told.others ≡ length found.changes - length found.mattering

-- the sections of these places were written, and these are the numbers of all their changes
pub record AreTold (before after : Content) (all : Bool) (places : List Place) (text : List ℕ) (mattering others : ℕ) : Type 0 where
  pub found : List PlaceChanges
  pub places_are : map (λ one. one.place) found ≡ places
  pub changes : All (AreChangesAt before after) found
  pub written : text ≡ flat_map (section before after all) found
  pub mattering_is : mattering ≡ mattering_count found
  pub others_are : others ≡ other_count found

-- The report tells what changes at each of these places between these policies, and how many changes matter.
pub record IsReportOf (before after : Content) (places : List Place) (all : Bool) (report : Report) : Type 0 where
  pub found : List PlaceChanges
  pub places_are : map (λ one. one.place) found ≡ places
  pub changes : All (AreChangesAt before after) found
  pub text : string_bytes report.text ≡ report_text before after all found
  pub count : report.mattering ≡ mattering_count found
