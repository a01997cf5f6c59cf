use Rattle.desk_impact.proofs.Telling.{impacts_tell_effects}
use Rattle.desk_impact.proofs.laws.impacts_tell_effects.Goals as goal

pub returns : goal.returns
returns c = impacts_tell_effects c.verdicts_are_discrete.ensures c.runs_pass_tests.ensures c.runs_tell_values.ensures
