-- What is at the front, and the reply to it.
use Rattle.std.proofs.Common.{◌+◌, ◌++◌, ◌∙◌, ap, drop, refl, subst, sym}
use Rattle.desk_store.specs.Desk.{HasGoodDisk, StandsAt}
use Rattle.desk_http_messages.specs.Asked.{asked_by}
use Rattle.desk_http_messages.specs.Stream.{HasFault, print_message}
use Rattle.desk_http.specs.PrivateAnswering.{AnswersAsked}
use Rattle.desk_http.specs.Stepping.{text_bytes}
use Rattle.desk_http.proofs.RunLemmas.{Serves-one}
use Rattle.desk_http.proofs.stepping.take_step.Goals as goal

pub returns-in-Message-clause-steps : goal.returns-in-Message-clause-steps
returns-in-Message-clause-steps g c =
    let e = c.in-Message.extent in
    let at = c.in-Message.ensures in
    let m = at.message in
    let text = text_bytes c.reply_to-text.result in
    let same = c.waiting-bytes.ensures.value in
    let by_message = subst (λ a. AnswersAsked (HasGoodDisk g.S.Store) (StandsAt g.S.Store) c.args.desk.now a e.ends text c.reply_to-text.new.desk) (c.request_at-request.ensures.asks at) c.reply_to-text.ensures in
    let answers = subst (λ b. AnswersAsked (HasGoodDisk g.S.Store) (StandsAt g.S.Store) c.args.desk.now (asked_by m) b text c.reply_to-text.new.desk) at.ends by_message in
    let rest = ap (drop (e.head.len + e.body)) same ∙ sym c.consume.ensures in
    (m, at.valid, sym same ∙ at.at_front ∙ ap (λ l. print_message m ++ l) rest, at.ends, Serves-one (HasGoodDisk g.S.Store) (StandsAt g.S.Store) c.args.desk.now c.reply_to-text.new.desk m text answers)

pub returns-in-Fault-clause-steps : goal.returns-in-Fault-clause-steps
returns-in-Fault-clause-steps g c = (λ more. subst (λ b. HasFault (b ++ more) c.in-Fault.fault) c.waiting-bytes.ensures.value (c.in-Fault.ensures more), refl, refl)
