-- What the desk answers is the answer by its history; if a statement failed, that is replied.
use Rattle.std.proofs.Common.{arith, inl, inr, refl}
use Rattle.std.specs.String.{string_bytes}
use Rattle.desk_store.specs.Desk.{HasGoodDisk, StandsAt}
use Rattle.desk_store.specs.declared.error.Task.TheVariants as tasks
use Rattle.desk_service.specs.Questions.{question_of, takes_statements}
use Rattle.desk_service.specs.Refused.{refused_by}
use Rattle.desk_http_messages.specs.Replies.{memory_reply}
use Rattle.desk_http.specs.Replies.{refused_reply}
use Rattle.desk_http.proofs.AnswerLemmas.{looked_given, told, told_err, told_text}
use Rattle.desk_http.proofs.EditLemmas.{failed_look}
use Rattle.desk_http.proofs.questions.answer_question.Goals as goal

pub returns-in-Ok-clause-ok : goal.returns-in-Ok-clause-ok
returns-in-Ok-clause-ok g c =
    let looks = c.look_up.ensures.looks in
    looked_given (HasGoodDisk g.S.Store) (StandsAt g.S.Store) string_bytes c.looked_text.result (question_of c.args.question) c.args.own.now c.in-Ok.looked c.args.ends c.args.desk.now c.look_up.new.desk
    (λ clean. omega (arith, looks.0.disk, clean)) looks.0.stands c.in-Ok.ensures.found c.looked_text.ensures

pub returns-in-Ok-clause-err : goal.returns-in-Ok-clause-err
returns-in-Ok-clause-err g c =
    let looks = c.look_up.ensures.looks in
    told_err (HasGoodDisk g.S.Store) (StandsAt g.S.Store) c.looked_text.result (question_of c.args.question) c.args.own.now c.args.desk.now c.look_up.new.desk
    (told (HasGoodDisk g.S.Store) (StandsAt g.S.Store) (question_of c.args.question) c.args.own.now c.args.desk.now c.look_up.new.desk memory_reply
    (λ clean. omega (arith, looks.0.disk, clean)) looks.0.stands (λ clean history pending at. inr (inl refl)))

pub returns-in-Err-clause-ok : goal.returns-in-Err-clause-ok
returns-in-Err-clause-ok g c =
    let looks = c.look_up.ensures.looks in
    let reply = refused_reply (refused_by c.in-Err.error) in
    told_text (HasGoodDisk g.S.Store) (StandsAt g.S.Store) string_bytes c.failed_text.result (question_of c.args.question) c.args.own.now c.args.ends c.args.desk.now c.look_up.new.desk reply
    (told (HasGoodDisk g.S.Store) (StandsAt g.S.Store) (question_of c.args.question) c.args.own.now c.args.desk.now c.look_up.new.desk reply
    (λ clean. omega (arith, looks.0.disk, clean)) looks.0.stands (λ clean history pending at. inr (failed_look tasks.ReadRevisions c.in-Err.error (takes_statements (question_of c.args.question)) c.in-Err.ensures.errors c.in-Err.ensures.statements)))
    c.failed_text.ensures

pub returns-in-Err-clause-err : goal.returns-in-Err-clause-err
returns-in-Err-clause-err g c =
    let looks = c.look_up.ensures.looks in
    told_err (HasGoodDisk g.S.Store) (StandsAt g.S.Store) c.failed_text.result (question_of c.args.question) c.args.own.now c.args.desk.now c.look_up.new.desk
    (told (HasGoodDisk g.S.Store) (StandsAt g.S.Store) (question_of c.args.question) c.args.own.now c.args.desk.now c.look_up.new.desk memory_reply
    (λ clean. omega (arith, looks.0.disk, clean)) looks.0.stands (λ clean history pending at. inr (inl refl)))
