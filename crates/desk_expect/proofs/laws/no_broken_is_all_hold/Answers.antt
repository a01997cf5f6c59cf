use Rattle.desk_expect.proofs.Holding.{no_broken}
use Rattle.desk_expect.proofs.laws.no_broken_is_all_hold.Goals as goal

pub returns : goal.returns
returns c = no_broken c.unreported_lines_hold.ensures
