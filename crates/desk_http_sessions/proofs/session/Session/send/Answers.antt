-- What was sent is an exchange.
use Rattle.std.proofs.Common.{◌∙◌, [], ap, refl, subst, sym, List, ℕ, Option, Ok, take, take-append-drop}
use Rattle.std.specs.Io.KnownBytes.{Appends}
use Rattle.desk_http_sessions.specs.PrivateSession.{unsent_of}
use Rattle.desk_http_sessions.specs.Session.{Exchanges, Kept}
use Rattle.desk_http_sessions.specs.Wire.{Sends}
use Rattle.desk_http_sessions.proofs.ExchangeLemmas.{sends, waits}
use Rattle.desk_http_sessions.proofs.session.Session.send.Goals as goal

pub returns-in-Ok-Some-clause-exchanges : goal.returns-in-Ok-Some-clause-exchanges
returns-in-Ok-Some-clause-exchanges g c =
    let left = g.W.Wire.left in
    let held = g.W.Wire.held in
    let i = c.self.inside in
    let count = c.in-Ok-Some.count in
    let unsent = unsent_of i.reply i.sent in
    let old : Kept g.row.W.Denot = record { place = i.connection; unsent = unsent; wire = i.wire } in
    let told = subst (λ (f : Option ℕ). Sends (held i.wire) (held c.send.new.self) (Ok f) c.unsent_of.result.now) c.in-Ok-Some.field-0-is c.in-Ok-Some.ensures.sent in
    let sent = subst (λ (u : List ℕ). Appends (held i.wire) (held c.send.new.self) (take count u)) c.unsent_of.ensures told in
    subst (λ (k : Kept g.row.W.Denot). Exchanges left held k [] c.go_on.new.self) c.self.view_is
    (sends left held old c.go_on.new.self count c.go_on.ensures.place (subst (λ (w : g.row.W.Denot). Appends (held i.wire) (held w) (take count unsent)) (sym c.go_on.ensures.wire) sent)
    c.go_on.ensures.unsent (ap left c.go_on.ensures.wire ∙ c.in-Ok-Some.ensures.left) (take-append-drop count unsent))

pub returns-in-Ok-None-clause-exchanges : goal.returns-in-Ok-None-clause-exchanges
returns-in-Ok-None-clause-exchanges g c =
    let left = g.W.Wire.left in
    let held = g.W.Wire.held in
    let i = c.self.inside in
    let old : Kept g.row.W.Denot = record { place = i.connection; unsent = unsent_of i.reply i.sent; wire = i.wire } in
    let new : Kept g.row.W.Denot = record { place = i.connection; unsent = unsent_of i.reply i.sent; wire = c.send.new.self } in
    let told = subst (λ (f : Option ℕ). Sends (held i.wire) (held c.send.new.self) (Ok f) c.unsent_of.result.now) c.in-Ok-None.field-0-is c.in-Ok-None.ensures.sent in
    subst (λ (k : Kept g.row.W.Denot). Exchanges left held k [] new) c.self.view_is
    (waits left held old new refl refl c.in-Ok-None.ensures.left told)

pub returns-in-Err-clause-exchanges : goal.returns-in-Err-clause-exchanges
returns-in-Err-clause-exchanges g c =
    let left = g.W.Wire.left in
    let held = g.W.Wire.held in
    let i = c.self.inside in
    let old : Kept g.row.W.Denot = record { place = i.connection; unsent = unsent_of i.reply i.sent; wire = i.wire } in
    let new : Kept g.row.W.Denot = record { place = i.connection; unsent = unsent_of i.reply i.sent; wire = c.send.new.self } in
    subst (λ (k : Kept g.row.W.Denot). Exchanges left held k [] new) c.self.view_is
    (waits left held old new refl refl c.in-Err.ensures.left c.in-Err.ensures.sent)
