-- Who may mount a path, as commands print it. (this project's own)
use Rattle.std.specs.Prelude.{ℕ, Bool, true, false, List, Result}
use Rattle.std.specs.String.{string_bytes}
use Rattle.desk_policy.specs.Policy.{Content}
use Rattle.desk_policy.specs.Verdict.{Grant}
use Rattle.desk_policy.specs.declared.verdict.Denial.{Denial}
use Rattle.desk_who.specs.Runs.{Run}
use Rattle.desk_who.specs.Who.{IsWho}
use Rattle.desk_who.specs.WhoPrints.{who_text}
use Rattle.desk_json.specs.Named.{named_who}
use Rattle.desk_server_prints.specs.LeftOutNote.{TellsLeftOut}
use Rattle.desk_server_prints.specs.Listing.{IsServerWho, TellsFirst}
use Rattle.cli_output.specs.Printed.{Prints}
use Rattle.cli_output.specs.declared.printed.Printed.{Printed}
use Rattle.cli_verdict.specs.ObjectLine.{data_line}

-- the ranges of the verdicts on a path: in lines, or as one object, if JSON is asked
abbrev pub ranges_text : Bool → Content → List (List ℕ) → List (Run (Result Grant Denial)) → List ℕ
ranges_text false content path ranges = who_text content ranges
ranges_text true content path ranges = data_line (named_who content path ranges)

-- The ranges of the verdicts of this desk are printed; and beside them to which client first the server grants what is denied.
pub record PrintsHere (json : Bool) (content : Content) (path : List (List ℕ)) (printed : Printed) : Type 0 where
  pub ranges : List (Run (Result Grant Denial))
  pub who : IsWho content path ranges
  pub prints : Prints 0 (ranges_text json content path ranges) printed
  pub beside : TellsFirst content path (string_bytes printed.note)

-- The ranges of the verdicts by the rule of mountd(8) are printed; and beside them the lines that it may leave out.
pub record PrintsThere (json : Bool) (content : Content) (path : List (List ℕ)) (printed : Printed) : Type 0 where
  pub ranges : List (Run (Result Grant Denial))
  pub who : IsServerWho content path ranges
  pub prints : Prints 0 (ranges_text json content path ranges) printed
  pub beside : TellsLeftOut content (string_bytes printed.note)

-- those by the rule of mountd(8), if that is asked, and else those of this desk
abbrev pub PrintsRanges : Bool → Bool → Content → List (List ℕ) → Printed → Type 0
PrintsRanges true json content path printed = PrintsThere json content path printed
PrintsRanges false json content path printed = PrintsHere json content path printed
