-- A question that takes no statement is answered by what the desk keeps.
use Rattle.desk_service.proofs.answering.answer.Goals as goal

pub returns-in-Nothing-clause-answered : goal.returns-in-Nothing-clause-answered
returns-in-Nothing-clause-answered g c = λ history pending stands found. c.answer_kept.ensures history pending stands
