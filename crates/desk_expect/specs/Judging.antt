-- What breaks an expectation: the verdict of this desk; or, of what is forbidden, that of the server alone. (this project's own)
use Rattle.std.specs.Prelude.{ℕ, not, Bool, true, false, List, None, Option, Some, Result, Err, if◌then◌else◌}
use Rattle.desk_policy.specs.Policy.{Content}
use Rattle.desk_policy.specs.Verdict.{Grant, verdict_among, verdict_of, verdict_result}
use Rattle.desk_policy.specs.Weights.{selected}
use Rattle.desk_policy.specs.declared.verdict.Denial.{Denial}
use Rattle.desk_policy.specs.declared.verdict.Denial.TheVariants.{NoFileSystem}
use Rattle.desk_who.specs.Searching.{Rule}
use Rattle.desk_impact.specs.Sections.{PlaceFound, place_found}
use Rattle.desk_impact.specs.declared.sections.Section.{Section}
use Rattle.desk_server.specs.Server.{server_verdict_among, server_verdict_of}
use Rattle.desk_expect.specs.Action.{is_allowed_by}
use Rattle.desk_expect.specs.Audience.{contains}
use Rattle.desk_expect.specs.declared.action.Action.{Action}
use Rattle.desk_expect.specs.declared.expectation.Expectation.{Expectation}
use Rattle.desk_expect.specs.declared.judging.Judged.{Judged}

-- a verdict that breaks an expectation, and whether it is that of the server alone
pub record JudgedValue : Type 0 where
  pub verdict : Result Grant Denial
  pub by_server : Bool

abbrev pub judged_value : Judged → JudgedValue
judged_value judged = record { verdict = verdict_result judged.verdict; by_server = judged.by_server }

-- a place at which an expectation is broken, and for whom
abbrev pub PlaceJudged : Type 0
PlaceJudged = PlaceFound JudgedValue

abbrev pub judged_section : Section Judged → PlaceJudged
judged_section section = place_found judged_value section

-- a verdict allows what is forbidden, or does not allow what is expected
abbrev pub is_against : Bool → Action → Result Grant Denial → Bool
is_against forbids action verdict = if forbids then is_allowed_by action verdict else not (is_allowed_by action verdict)

-- the server's verdict, if it allows an action
abbrev pub by_server : Action → Result Grant Denial → Option JudgedValue
by_server action server = if is_allowed_by action server then Some (record { verdict = server; by_server = true }) else None

-- Of the verdicts of this desk and of the server, what breaks it: the desk's, if that is against it; else the server's, if it
-- allows what is forbidden.
abbrev pub judged : Bool → Action → Result Grant Denial → Result Grant Denial → Option JudgedValue
judged forbids action own server =
    if is_against forbids action own then Some (record { verdict = own; by_server = false })
    else if forbids then by_server action server
    else None

-- the same for an address, if the line is about it
abbrev pub judged_at : Expectation → ℕ → Result Grant Denial → Result Grant Denial → Option JudgedValue
judged_at expectation address own server = if contains expectation.audience address then judged expectation.forbids expectation.action own server else None

-- what breaks an expectation at an address of a path
abbrev pub judged_of : Expectation → Content → List (List ℕ) → ℕ → Option JudgedValue
judged_of expectation content path address = judged_at expectation address (verdict_of content address path) (server_verdict_of content address path)

-- the rule by which that is found: where there is no file system, and among the lines of one
abbrev pub judging_rule : Expectation → Rule (Option JudgedValue)
judging_rule expectation = record {
  nowhere = λ address. judged_at expectation address (Err NoFileSystem) (Err NoFileSystem);
  among = λ fs listing rows address. judged_at expectation address (verdict_among fs listing (selected rows address)) (server_verdict_among fs listing rows address);
}
