-- The revisions that are listed are those of the history.
use Rattle.std.proofs.Common.{◌∙◌, ap, sym}
use Rattle.desk_service.specs.Questions.{revisions_answer}
use Rattle.desk_service.proofs.QuestionAnswers.{lists_none, lists_some}
use Rattle.desk_service.proofs.texts.revisions_looked.Goals as goal

pub returns-in-Ok-clause-found : goal.returns-in-Ok-clause-found
returns-in-Ok-clause-found g c = λ good history pending stands.
    lists_none c.in-Ok.found (sym c.is_empty.ensures ∙ c.if-is_empty.true)
    ∙ ap revisions_answer (c.in-Ok.ensures.found good history pending stands)

pub returns-in-Ok-2-clause-found : goal.returns-in-Ok-2-clause-found
returns-in-Ok-2-clause-found g c = λ good history pending stands.
    lists_some c.in-Ok.found (sym c.is_empty.ensures ∙ c.if-is_empty.false)
    ∙ ap revisions_answer (c.in-Ok.ensures.found good history pending stands)
