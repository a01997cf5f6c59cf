-- Where the server grants what this desk denies. (this project's own, over mountd(8))
use Rattle.std.specs.Prelude.{ℕ, true, List, [], None, Option, Some, Result, Ok, Err}
use Rattle.desk_policy.specs.Policy.{Content}
use Rattle.desk_policy.specs.Verdict.{Grant, verdict_among, verdict_of}
use Rattle.desk_policy.specs.Weights.{selected}
use Rattle.desk_policy.specs.declared.verdict.Denial.{Denial}
use Rattle.desk_policy.specs.declared.verdict.Denial.TheVariants.{NoFileSystem, NoLine, NotListed}
use Rattle.desk_who.specs.Searching.{Rule}
use Rattle.desk_impact.specs.Sections.{AreFoundIn, PlaceFound, place_found}
use Rattle.desk_impact.specs.declared.sections.Section.{Section}
use Rattle.desk_server.specs.Server.{server_verdict_among, server_verdict_of}
use Rattle.page_data.specs.declared.opening.Opening.{Opening}

-- the line by which the server grants what a line's denial names, if it grants it
abbrev pub opening_by : ℕ → Result Grant Denial → Option Opening
opening_by denied (Ok grant) = Some (record { denied = denied; line = grant.line })
opening_by denied (Err denial) = None

-- Of the verdict here and that of the server: the line by which the server grants what is denied here. (Where no line matches, the
-- server grants nothing either.)
abbrev pub opening : Result Grant Denial → Result Grant Denial → Option Opening
opening (Ok grant) server = None
opening (Err (NotListed fs denied)) server = opening_by denied server
opening (Err (NoLine fs)) server = None
opening (Err NoFileSystem) server = None

-- so it is at an address of a path
abbrev pub opening_of : Content → List (List ℕ) → ℕ → Option Opening
opening_of content path address = opening (verdict_of content address path) (server_verdict_of content address path)

-- the rule by which that is found: where there is no file system, and among the lines of one
abbrev pub opening_rule : Rule (Option Opening)
opening_rule = record {
  nowhere = λ address. None;
  among = λ fs listing rows address. opening (verdict_among fs listing (selected rows address)) (server_verdict_among fs listing rows address);
}

-- an opening by value
abbrev pub opening_value : Opening → Opening
opening_value opened = opened

abbrev pub opening_section : Section Opening → PlaceFound Opening
opening_section section = place_found opening_value section

-- The places of a site at which the server grants what is denied here, with all addresses at which it does.
abbrev pub AreOpenings : Content → List (PlaceFound Opening) → Type 0
AreOpenings content sections = AreFoundIn opening_rule content [] true sections
