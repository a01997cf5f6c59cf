use Rattle.cli_expectations.proofs.Status.{status_zero}
use Rattle.cli_expectations.proofs.laws.status_zero_is_all_hold.Goals as goal

pub returns : goal.returns
returns c = status_zero c.no_broken_is_all_hold.ensures
