use Rattle.desk_who.proofs.Kept.{no_run_is_no_value}
use Rattle.desk_who.proofs.laws.no_run_is_no_value.Goals as goal

pub returns : goal.returns
returns g c = no_run_is_no_value
