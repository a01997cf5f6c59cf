use Rattle.desk_idle.proofs.Bringing.{lines_decide_by_what_they_bring}
use Rattle.desk_idle.proofs.laws.lines_decide_by_what_they_bring.Goals as goal

pub returns : goal.returns
returns c = lines_decide_by_what_they_bring
