use Rattle.desk_server.proofs.Agreeing.{nothing_wider_is_equal}
use Rattle.desk_server.proofs.laws.nothing_wider_is_equal.Goals as goal

pub returns : goal.returns
returns c = nothing_wider_is_equal c.verdicts_are_discrete.ensures
