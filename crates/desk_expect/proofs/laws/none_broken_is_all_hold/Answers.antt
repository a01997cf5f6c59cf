use Rattle.desk_expect.proofs.Holding.{none_broken}
use Rattle.desk_expect.proofs.laws.none_broken_is_all_hold.Goals as goal

pub returns : goal.returns
returns c = none_broken c.no_broken_is_all_hold.ensures
