-- What the private contracts of the report cite.
use Rattle.std.specs.Prelude.{◌≡◌, ◌++◌, ◌∷◌, List, [], filter}
use Rattle.desk_policy.specs.Policy.{Content}
use Rattle.desk_expect.specs.Report.{IsTestOf, is_broken}
use Rattle.desk_expect.specs.ReportText.{BrokenValue}
use Rattle.desk_expect.specs.declared.expectation.Expectation.{Expectation}

-- an expectation was tested, and is added if it is broken
pub record AddsTested (content : Content) (expectation : Expectation) (old new : List BrokenValue) : Type 0 where
  pub found : BrokenValue
  pub expectation_is : found.expectation ≡ expectation
  pub tested : IsTestOf content found
  pub added : new ≡ old ++ filter is_broken (found ∷ [])
