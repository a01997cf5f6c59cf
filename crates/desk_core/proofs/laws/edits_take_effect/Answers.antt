use Rattle.desk_core.proofs.Runs.{edits_take_effect}
use Rattle.desk_core.proofs.laws.edits_take_effect.Goals as goal

pub returns : goal.returns
returns c = edits_take_effect
