-- What the private contracts of beside cite.
use Rattle.std.specs.Prelude.{◌≡◌, Option, None, Some}
use Rattle.desk_policy.specs.Policy.{Content}
use Rattle.desk_impact.specs.Impact.{SayOtherwise, TwoVerdicts}

-- two verdicts, if these policies say something else by them
pub record IsChangeAt (before after : Content) (verdicts : TwoVerdicts) (found : Option TwoVerdicts) : Type 0 where
  pub told : SayOtherwise before after verdicts → found ≡ Some verdicts
  pub silent : (SayOtherwise before after verdicts → ⊥) → found ≡ None
