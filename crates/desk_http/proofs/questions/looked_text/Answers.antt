-- The answer is right by each history at which the desk stands, if what was looked up is.
use Rattle.std.specs.String.{string_bytes}
use Rattle.desk_store.specs.Desk.{HasGoodDisk, StandsAt}
use Rattle.desk_service.specs.Questions.{answer_of, question_of}
use Rattle.desk_http.proofs.AnswerLemmas.{looked_told}
use Rattle.desk_http.proofs.questions.looked_text.Goals as goal

pub returns : goal.returns
returns g c =
    looked_told (HasGoodDisk g.S.Store) (StandsAt g.S.Store) string_bytes c.answer_text.result (question_of c.args.question) c.args.own.now c.args.looked c.args.ends c.args.desk.now
    (answer_of g.V.PolicyView.in_force c.in_ok-found.found) c.in_ok-found.ensures.answered c.answer_text.ensures
