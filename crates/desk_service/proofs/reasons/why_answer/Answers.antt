-- The site in force is that of the history.
use Rattle.std.proofs.Common.{ap}
use Rattle.desk_service.specs.Questions.{WhyIs}
use Rattle.desk_service.proofs.reasons.why_answer.Goals as goal

pub returns : goal.returns
returns g c = λ history pending stands.
    let content = g.V.PolicyView.in_force c.view-view.result.now in (
      record { content = content; tables = c.tables.result.now },
      record { content = c.view-view.ensures.stood_at history pending stands; tables = c.tables.ensures.stood_at history pending stands },
      ap (WhyIs content) c.in_ok-reasons.ensures,
    )
