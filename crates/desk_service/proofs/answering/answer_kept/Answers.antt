-- Each question has the answer of the function that it is handed to.
use Rattle.std.proofs.Common.{◌≡◌, ◌∙◌, IfOk, None, Option, ap, subst, sym, ℕ}
use Rattle.desk_service.specs.Questions.{AnswersByHistory, OfFile, Question, Text, answer_of, question_of}
use Rattle.desk_service.specs.declared.questions.FileQuestion.{FileQuestion}
use Rattle.desk_service.specs.declared.questions.FileQuestion.TheVariants as of_file
use Rattle.desk_service.proofs.answering.answer_kept.Goals as goal

pub returns-in-Mount : goal.returns-in-Mount
returns-in-Mount g c = λ history pending stands.
    subst (λ (q : Question). AnswersByHistory history q (answer_of g.V.PolicyView.in_force c.verdict_answer.result)) (sym (ap question_of c.in-Mount.is)) (c.verdict_answer.ensures history pending stands)

pub returns-in-Why : goal.returns-in-Why
returns-in-Why g c = λ history pending stands.
    subst (λ (q : Question). IfOk c.why_answer.result (λ answer. AnswersByHistory history q (answer_of g.V.PolicyView.in_force answer))) (sym (ap question_of c.in-Why.is)) (c.why_answer.ensures history pending stands)

pub returns-in-Exports : goal.returns-in-Exports
returns-in-Exports g c = λ history pending stands.
    subst (λ (q : Question). AnswersByHistory history q (answer_of g.V.PolicyView.in_force c.exports_answer.result)) (sym (ap question_of c.in-Exports.is)) (c.exports_answer.ensures history pending stands)

pub returns-in-None : goal.returns-in-None
returns-in-None g c = λ history pending stands.
    let asked : question_of c.args.question ≡ Text c.in-Text.name.now None = ap question_of c.in-Text.is ∙ ap (λ (rev : Option ℕ). Text c.in-Text.name.now rev) c.in-None.is in
    subst (λ (q : Question). IfOk c.newest_text.result (λ answer. AnswersByHistory history q (answer_of g.V.PolicyView.in_force answer))) (sym asked) (c.newest_text.ensures history pending stands)

pub returns-in-Listing : goal.returns-in-Listing
returns-in-Listing g c = λ history pending stands.
    subst (λ (q : Question). IfOk c.listing_answer.result (λ answer. AnswersByHistory history q (answer_of g.V.PolicyView.in_force answer))) (sym (ap question_of c.in-Listing.is)) (c.listing_answer.ensures history pending stands)

pub returns-in-Who : goal.returns-in-Who
returns-in-Who g c = λ history pending stands.
    subst (λ (q : Question). IfOk c.who_answer.result (λ answer. AnswersByHistory history q (answer_of g.V.PolicyView.in_force answer))) (sym (ap question_of c.in-Who.is)) (c.who_answer.ensures history pending stands)

pub returns-in-Proposal : goal.returns-in-Proposal
returns-in-Proposal g c = λ history pending stands.
    let asked : question_of c.args.question ≡ OfFile c.in-OfFile.name.now of_file.Proposal = ap question_of c.in-OfFile.is ∙ ap (λ (what : FileQuestion). OfFile c.in-OfFile.name.now what) c.in-Proposal.is in
    subst (λ (q : Question). AnswersByHistory history q (answer_of g.V.PolicyView.in_force c.proposal_answer.result)) (sym asked) (c.proposal_answer.ensures history pending stands)

pub returns-in-Files : goal.returns-in-Files
returns-in-Files g c = λ history pending stands.
    subst (λ (q : Question). IfOk c.files_answer.result (λ answer. AnswersByHistory history q (answer_of g.V.PolicyView.in_force answer))) (sym (ap question_of c.in-Files.is)) (c.files_answer.ensures history pending stands)

pub returns-in-Foresee : goal.returns-in-Foresee
returns-in-Foresee g c = λ history pending stands.
    subst (λ (q : Question). IfOk c.foresee_text.result (λ answer. AnswersByHistory history q (answer_of g.V.PolicyView.in_force answer))) (sym (ap question_of c.in-Foresee.is)) (c.foresee_text.ensures history pending stands)

pub returns-in-ForeseeProposal : goal.returns-in-ForeseeProposal
returns-in-ForeseeProposal g c = λ history pending stands.
    subst (λ (q : Question). IfOk c.foresee_proposal.result (λ answer. AnswersByHistory history q (answer_of g.V.PolicyView.in_force answer))) (sym (ap question_of c.in-ForeseeProposal.is)) (c.foresee_proposal.ensures history pending stands)

pub returns-in-Site : goal.returns-in-Site
returns-in-Site g c = λ history pending stands.
    subst (λ (q : Question). AnswersByHistory history q (answer_of g.V.PolicyView.in_force c.site_answer.result)) (sym (ap question_of c.in-Site.is)) (c.site_answer.ensures history pending stands)

pub returns-in-ForeseeSite : goal.returns-in-ForeseeSite
returns-in-ForeseeSite g c = λ history pending stands.
    subst (λ (q : Question). IfOk c.foresee_site_text.result (λ answer. AnswersByHistory history q (answer_of g.V.PolicyView.in_force answer))) (sym (ap question_of c.in-ForeseeSite.is)) (c.foresee_site_text.ensures history pending stands)

pub returns-in-ForeseeProposedSite : goal.returns-in-ForeseeProposedSite
returns-in-ForeseeProposedSite g c = λ history pending stands.
    subst (λ (q : Question). IfOk c.foresee_proposed_site.result (λ answer. AnswersByHistory history q (answer_of g.V.PolicyView.in_force answer))) (sym (ap question_of c.in-ForeseeProposedSite.is)) (c.foresee_proposed_site.ensures history pending stands)
