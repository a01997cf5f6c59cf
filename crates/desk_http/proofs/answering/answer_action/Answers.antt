-- The reply to what a request calls for is the reply to the request.
use Rattle.std.proofs.Common.{subst}
use Rattle.std.specs.String.{string_bytes}
use Rattle.desk_core.specs.Edit.{asked}
use Rattle.desk_store.specs.Desk.{HasGoodDisk, StandsAt}
use Rattle.desk_service.specs.Questions.{question_of}
use Rattle.desk_http_messages.specs.Asked.{asked_of}
use Rattle.desk_http_requests.specs.Calls.{IsCall}
use Rattle.desk_http_requests.specs.declared.calls.Call.{Call}
use Rattle.desk_http.proofs.AnswerLemmas.{edit_err, edit_given, fault_given, question_err, question_given, unasked}
use Rattle.desk_http.proofs.answering.answer_action.Goals as goal

pub returns-in_err-parameters-clause-err : goal.returns-in_err-parameters-clause-err
returns-in_err-parameters-clause-err g c = unasked (HasGoodDisk g.S.Store) (StandsAt g.S.Store) c.from_residual.result (asked_of c.args.request.now) c.args.desk.now

pub returns-in_err-path-clause-err : goal.returns-in_err-path-clause-err
returns-in_err-path-clause-err g c = unasked (HasGoodDisk g.S.Store) (StandsAt g.S.Store) c.from_residual-in_err-path.result (asked_of c.args.request.now) c.args.desk.now

pub returns-in_err-call-clause-err : goal.returns-in_err-call-clause-err
returns-in_err-call-clause-err g c = unasked (HasGoodDisk g.S.Store) (StandsAt g.S.Store) c.from_residual-in_err-call.result (asked_of c.args.request.now) c.args.desk.now

pub returns-in-Refused-clause-ok : goal.returns-in-Refused-clause-ok
returns-in-Refused-clause-ok g c =
    let call = subst (λ (x : Call). IsCall (asked_of c.args.request.now) x) c.in-Refused.is c.in_ok-call.ensures in
    fault_given (HasGoodDisk g.S.Store) (StandsAt g.S.Store) string_bytes c.request_fault_text.result (asked_of c.args.request.now) c.in-Refused.fault c.args.ends c.args.desk.now call c.request_fault_text.ensures

pub returns-in-Refused-clause-err : goal.returns-in-Refused-clause-err
returns-in-Refused-clause-err g c = unasked (HasGoodDisk g.S.Store) (StandsAt g.S.Store) c.request_fault_text.result (asked_of c.args.request.now) c.args.desk.now

pub returns-in-Asks-clause-ok : goal.returns-in-Asks-clause-ok
returns-in-Asks-clause-ok g c =
    let call = subst (λ (x : Call). IsCall (asked_of c.args.request.now) x) c.in-Asks.is c.in_ok-call.ensures in
    question_given (HasGoodDisk g.S.Store) (StandsAt g.S.Store) string_bytes c.answer_question.result (asked_of c.args.request.now) (question_of c.in-Asks.question) c.in-Asks.own c.args.ends c.args.desk.now c.answer_question.new.desk
    call.0 call.1 c.answer_question.ensures.ok

pub returns-in-Asks-clause-err : goal.returns-in-Asks-clause-err
returns-in-Asks-clause-err g c =
    let call = subst (λ (x : Call). IsCall (asked_of c.args.request.now) x) c.in-Asks.is c.in_ok-call.ensures in
    question_err (HasGoodDisk g.S.Store) (StandsAt g.S.Store) c.answer_question.result (asked_of c.args.request.now) (question_of c.in-Asks.question) c.in-Asks.own c.args.desk.now c.answer_question.new.desk
    call.0 call.1 c.answer_question.ensures.err

pub returns-clause-ok : goal.returns-clause-ok
returns-clause-ok g c =
    let call = subst (λ (x : Call). IsCall (asked_of c.args.request.now) x) c.in-Edits.is c.in_ok-call.ensures in
    edit_given (HasGoodDisk g.S.Store) (StandsAt g.S.Store) string_bytes c.answer_edit.result (asked_of c.args.request.now) c.in-Edits.edit.file.now c.in-Edits.edit.base (asked c.in-Edits.edit) c.args.ends c.args.desk.now c.answer_edit.new.desk
    call.0 call.2 call.3 c.answer_edit.ensures.ok

pub returns-clause-err : goal.returns-clause-err
returns-clause-err g c =
    let call = subst (λ (x : Call). IsCall (asked_of c.args.request.now) x) c.in-Edits.is c.in_ok-call.ensures in
    edit_err (HasGoodDisk g.S.Store) (StandsAt g.S.Store) c.answer_edit.result (asked_of c.args.request.now) c.in-Edits.edit.file.now c.in-Edits.edit.base (asked c.in-Edits.edit) c.args.desk.now c.answer_edit.new.desk
    call.0 call.2 call.3 c.answer_edit.ensures.err
