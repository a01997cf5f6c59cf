-- A step of the connection, whose reply waits now, is an exchange.
use Rattle.std.proofs.Common.{◌∷◌, [], ◌∙◌, ap, refl, subst, sym}
use Rattle.desk_store.specs.Desk.{HasGoodDisk, StandsAt}
use Rattle.desk_http_messages.specs.Replies.{joined}
use Rattle.desk_http_sessions.specs.PrivateSession.{unsent_of}
use Rattle.desk_http_sessions.specs.Session.{Exchanges, Kept}
use Rattle.desk_http_sessions.proofs.ExchangeLemmas.{answered, step_event}
use Rattle.desk_http_sessions.proofs.session.Session.answer.Goals as goal

pub returns-clause-exchanges : goal.returns-clause-exchanges
returns-clause-exchanges g c =
    let i = c.self.inside in
    let old : Kept g.row.W.Denot = record { place = i.connection; unsent = unsent_of i.reply i.sent; wire = i.wire } in
    let new : Kept g.row.W.Denot = record { place = c.step-step.new.self; unsent = unsent_of c.reply_in.result 0; wire = i.wire } in
    let step = step_event (HasGoodDisk g.S.Store) (StandsAt g.S.Store) i.connection c.step-step.new.self c.args.desk.now c.step-step.result c.step-step.new.desk c.step-step.ensures.moves in
    let taken = ap (λ (k : Kept g.row.W.Denot). k.unsent) c.self.view_is ∙ c.requires.taken in (
      step.0,
      subst (λ (k : Kept g.row.W.Denot). Exchanges g.W.Wire.left g.W.Wire.held k (step.0 ∷ []) new) c.self.view_is
          (answered g.W.Wire.left g.W.Wire.held old new step.0 step.1 step.4 step.5 taken (c.reply_in.ensures.texts ∙ ap joined (sym step.3)) refl),
      step.2,
    )
