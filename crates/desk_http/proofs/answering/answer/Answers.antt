-- A request without a route or a method is replied that.
use Rattle.std.specs.String.{string_bytes}
use Rattle.desk_store.specs.Desk.{HasGoodDisk, StandsAt}
use Rattle.desk_http_messages.specs.Asked.{asked_of}
use Rattle.desk_http.proofs.AnswerLemmas.{fault_given, unasked}
use Rattle.desk_http.proofs.answering.answer.Goals as goal

pub returns-in-Err-clause-ok : goal.returns-in-Err-clause-ok
returns-in-Err-clause-ok g c =
    fault_given (HasGoodDisk g.S.Store) (StandsAt g.S.Store) string_bytes c.request_fault_text.result (asked_of c.args.request.now) c.in-Err.fault c.args.ends c.args.desk.now c.in-Err.ensures c.request_fault_text.ensures

pub returns-in-Err-clause-err : goal.returns-in-Err-clause-err
returns-in-Err-clause-err g c = unasked (HasGoodDisk g.S.Store) (StandsAt g.S.Store) c.request_fault_text.result (asked_of c.args.request.now) c.args.desk.now
