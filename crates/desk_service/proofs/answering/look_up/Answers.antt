-- What the statements of a question found is its answer.
use Rattle.std.proofs.Common.{◌≡◌, ◌∙◌, IfOk, Option, Some, ap, subst, sym, ℕ}
use Rattle.desk_service.specs.Questions.{IsLookedUp, OfFile, Question, Text, question_of}
use Rattle.desk_service.specs.declared.questions.FileQuestion.{FileQuestion}
use Rattle.desk_service.specs.declared.questions.FileQuestion.TheVariants as of_file
use Rattle.desk_service.proofs.answering.look_up.Goals as goal

pub returns-in-Some-clause-found : goal.returns-in-Some-clause-found
returns-in-Some-clause-found g c = λ good history pending stands.
    let asked : question_of c.args.question ≡ Text c.in-Text.name.now (Some c.in-Some.rev) = ap question_of c.in-Text.is ∙ ap (λ (rev : Option ℕ). Text c.in-Text.name.now rev) c.in-Some.is in
    subst (λ (q : Question). IfOk c.text_looked.result (λ looked. IsLookedUp history q looked)) (sym asked) (c.text_looked.ensures.found good history pending stands)

pub returns-in-Revisions-clause-found : goal.returns-in-Revisions-clause-found
returns-in-Revisions-clause-found g c = λ good history pending stands.
    let asked : question_of c.args.question ≡ OfFile c.in-OfFile.name.now of_file.Revisions = ap question_of c.in-OfFile.is ∙ ap (λ (what : FileQuestion). OfFile c.in-OfFile.name.now what) c.in-Revisions.is in
    subst (λ (q : Question). IfOk c.revisions_looked.result (λ looked. IsLookedUp history q looked)) (sym asked) (c.revisions_looked.ensures.found good history pending stands)
