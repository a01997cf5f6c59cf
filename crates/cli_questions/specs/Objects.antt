-- What is printed of an answer as one object of JSON, on a line of its own. (this project's own)
use Rattle.std.specs.Prelude.{ℕ, ◌∷◌, Bool, List, [], Result, codes, if◌then◌else◌, is_ok}
use Rattle.serde_json.specs.Data.{Data, string}
use Rattle.desk_policy.specs.ListingPrints.{listing_text}
use Rattle.desk_policy.specs.Policy.{Content}
use Rattle.desk_policy.specs.Verdict.{Grant}
use Rattle.desk_policy.specs.declared.listings.Shown.{Shown}
use Rattle.desk_policy.specs.declared.verdict.Denial.{Denial}
use Rattle.desk_who.specs.Runs.{Run}
use Rattle.desk_who.specs.WhoPrints.{who_text}
use Rattle.desk_impact.specs.ListedChanges.{AreListed, ListedPlace}
use Rattle.desk_service.specs.Foreseeing.{Foreseen, content_after}
use Rattle.desk_service.specs.Questions.{Listing, Question, Who}
use Rattle.desk_service.specs.Refused.{refused_name, refused_number}
use Rattle.desk_service.specs.declared.refused.Refused.{Refused}
use Rattle.desk_service.specs.declared.refused.Refused.TheVariants as refused
use Rattle.desk_http_bodies.specs.Edits.{refused_data}
use Rattle.desk_http_bodies.specs.Exports.{exports_data}
use Rattle.desk_http_bodies.specs.Json.{count, entries}
use Rattle.desk_http_bodies.specs.Ranges.{who_data}
use Rattle.desk_json.specs.Changes.{changes_data}
use Rattle.cli_output.specs.Printed.{Prints}
use Rattle.cli_output.specs.declared.printed.Printed.{Printed}
use Rattle.cli_verdict.specs.Changes.{changes_status}
use Rattle.cli_verdict.specs.ObjectLine.{data_line}
use Rattle.cli_desk.specs.RefusalLines.{refused_status}

-- the exit status of a verdict: 0 if it grants the mount, else 1
abbrev pub verdict_status : Result Grant Denial → ℕ
verdict_status verdict = if is_ok verdict then 0 else 1

-- what a client may mount, of whom it is asked; in lines if no client is asked of
abbrev pub listing_line : Question → Content → List Shown → List ℕ
listing_line (Listing address) content listing = data_line (exports_data content address listing)
listing_line question content listing = listing_text content listing

-- who may mount a path, of which it is asked; in lines if no path is asked of
abbrev pub ranges_line : Question → Content → List (Run (Result Grant Denial)) → List ℕ
ranges_line (Who path) content ranges = data_line (who_data content path ranges)
ranges_line question content ranges = who_text content ranges

-- an object with a name and a number
abbrev pub numbered_data : List ℕ → ℕ → Data
numbered_data name number = entries ((codes "error", string name) ∷ (codes "number", count number) ∷ [])

-- the object of a refusal: of an edit that of HTTP, else its name and number
abbrev pub refused_object : Refused → Data
refused_object (refused.Edit why) = refused_data why
refused_object why = numbered_data (refused_name why) (refused_number why)

-- this refusal is printed as an object
abbrev pub SaysObject : Refused → Printed → Type 0
SaysObject why printed = Prints (refused_status why) (data_line (refused_object why)) printed

-- what would change is printed as an object, of all changes or of those that matter; the status is 1 if one of them
-- matters to a client, else 0
pub record PrintsChangesObject (all : Bool) (foreseen : Foreseen) (printed : Printed) : Type 0 where
  pub found : List ListedPlace
  pub are : AreListed foreseen.before (content_after foreseen) found
  pub prints : Prints (changes_status found) (data_line (changes_data foreseen.before (content_after foreseen) all found)) printed
