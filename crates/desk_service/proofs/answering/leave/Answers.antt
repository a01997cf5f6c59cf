-- Nothing was done.
use Rattle.desk_service.proofs.QuestionAnswers.{left_alone}
use Rattle.desk_service.proofs.answering.leave.Goals as goal

pub returns : goal.returns
returns g c = left_alone g.S.Store c.args.desk.now
