-- The revision that is found is that of the history.
use Rattle.std.proofs.Common.{◌∙◌, ap, sym}
use Rattle.desk_core.specs.History.{revisions_of}
use Rattle.desk_service.proofs.QuestionAnswers.{numbered_answer, same_text}
use Rattle.desk_service.proofs.texts.text_looked.Goals as goal

pub returns-in-Ok-Some-clause-found : goal.returns-in-Ok-Some-clause-found
returns-in-Ok-Some-clause-found g c = λ good history pending stands.
    ap (numbered_answer c.args.rev) (sym c.in-Ok-Some.field-0-is ∙ c.in-Ok-Some.ensures.found good history pending stands)
    ∙ same_text c.args.rev (revisions_of c.args.name.now history)

pub returns-in-Ok-None-clause-found : goal.returns-in-Ok-None-clause-found
returns-in-Ok-None-clause-found g c = λ good history pending stands.
    ap (numbered_answer c.args.rev) (sym c.in-Ok-None.field-0-is ∙ c.in-Ok-None.ensures.found good history pending stands)
    ∙ same_text c.args.rev (revisions_of c.args.name.now history)
