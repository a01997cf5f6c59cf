-- Which expectations a policy breaks, where, and for whom. (this project's own)
use Rattle.std.specs.Prelude.{◌≡◌, ℕ, ◌==◌, not, All, Bool, List, filter, length, map}
use Rattle.std.specs.List.{AllZip, flat_map}
use Rattle.std.specs.String.{string_bytes}
use Rattle.desk_policy.specs.Policy.{Content}
use Rattle.desk_impact.specs.Sections.{AreFoundIn}
use Rattle.desk_expect.specs.Judging.{PlaceJudged, judged_section, judging_rule}
use Rattle.desk_expect.specs.ReportText.{BrokenValue, report_text}
use Rattle.desk_expect.specs.declared.expectation.Expectation.{Expectation}
use Rattle.desk_expect.specs.declared.report.Broken.{Broken}
use Rattle.desk_expect.specs.declared.report.TestReport.{TestReport}
use Rattle.desk_expect.specs.declared.scope.Scope.{Scope}

-- an expectation that is broken, by value
abbrev pub broken_value : Broken → BrokenValue
broken_value broken = record { expectation = broken.expectation.now; sections = map judged_section broken.sections }

-- These are all sections at which an expectation is broken in these scopes, scope by scope.
pub record IsTestedIn (content : Content) (expectation : Expectation) (scopes : List Scope) (sections : List PlaceJudged) : Type 0 where
  pub by_scope : List (List PlaceJudged)
  pub each : AllZip (λ scope some. AreFoundIn (judging_rule expectation) content scope.path scope.below some) scopes by_scope
  pub are : sections ≡ flat_map (λ some. some) by_scope

-- These are all sections at which an expectation is broken.
abbrev pub IsTested : Content → Expectation → List PlaceJudged → Type 0
IsTested content expectation sections = IsTestedIn content expectation expectation.scopes sections

-- what is found of an expectation
abbrev pub IsTestOf : Content → BrokenValue → Type 0
IsTestOf content one = IsTested content one.expectation one.sections

-- it is broken
abbrev pub is_broken : BrokenValue → Bool
is_broken one = not (length one.sections == 0)

-- Of what is found of these expectations, those that are broken.
pub record AreBroken (content : Content) (expectations : List Expectation) (broken : List BrokenValue) : Type 0 where
  pub found : List BrokenValue
  pub expectations_are : map (λ one. one.expectation) found ≡ expectations
  pub each : All (IsTestOf content) found
  pub are : broken ≡ filter is_broken found

-- The report has each broken expectation with where and for whom, and how many there are.
pub record IsTestReport (content : Content) (file : List ℕ) (expectations : List Expectation) (report : TestReport) : Type 0 where
  pub broken : List BrokenValue
  pub are : AreBroken content expectations broken
  pub text : string_bytes report.text ≡ report_text content file (length expectations) broken
  pub count : report.broken ≡ length broken
