use Rattle.cli.proofs.AtFour.{four_is_refused}
use Rattle.cli.proofs.laws.four_is_refused.Goals as goal

pub returns : goal.returns
returns c = four_is_refused
