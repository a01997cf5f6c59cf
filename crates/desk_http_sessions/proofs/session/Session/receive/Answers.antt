-- What came is an exchange.
use Rattle.std.proofs.Common.{◌≡◌, ◌∷◌, [], ◌∙◌, ◌+◌, ◌<◌, ◌≤◌, ap, false, refl, subst, List, ℕ, Option, Ok, length, take}
use Rattle.std.specs.Prelude.{IfSome}
use Rattle.desk_http.specs.Connection.{Came, Event, has_ended, is_waiting}
use Rattle.desk_http_sessions.specs.PrivateSession.{unsent_of}
use Rattle.desk_http_sessions.specs.Session.{AreReads, Exchanges, Kept}
use Rattle.desk_http_sessions.specs.Wire.{Receives}
use Rattle.desk_http_sessions.proofs.ExchangeLemmas.{Appends-same, ended, ends, goes_on, idle, roomy}
use Rattle.desk_http_sessions.proofs.session.Session.receive.Goals as goal

pub returns-in-None : goal.returns-in-None
returns-in-None g c =
    let left = g.W.Wire.left in
    let held = g.W.Wire.held in
    let i = c.self.inside in
    let old : Kept g.row.W.Denot = record { place = i.connection; unsent = unsent_of i.reply i.sent; wire = i.wire } in
    let new : Kept g.row.W.Denot = record { place = c.take_in.new.connection; unsent = unsent_of i.reply i.sent; wire = c.receive.new.self } in
    let count = c.in-Ok-Some.count in
    let buf = c.receive.new.buf in
    let bytes = take count buf in
    let within = subst (λ (f : Option ℕ). IfSome f (λ n. n ≤ length buf)) c.in-Ok-Some.field-0-is c.in-Ok-Some.ensures.count in
    let room : 0 < length buf = roomy c.room.result c.min-most.result (length buf) c.args.room.now c.in-Ok-Some.ensures.room c.min-most.ensures (c.room.ensures.some (ap (λ (k : Kept g.row.W.Denot). is_waiting k.place.state) c.self.view_is ∙ c.requires.waits)) c.requires.room in
    let taken = ap (λ (k : Kept g.row.W.Denot). k.unsent) c.self.view_is ∙ c.requires.taken in
    let read = subst (λ (f : Option ℕ). Receives (left i.wire) (left c.receive.new.self) (Ok f) c.receive.new.buf) c.in-Ok-Some.field-0-is c.in-Ok-Some.ensures.received in
    record {
      exchanges = (
        Came bytes ∷ [],
        subst (λ (k : Kept g.row.W.Denot). Exchanges left held k (Came bytes ∷ []) new) c.self.view_is
            (goes_on left held old new count buf within room taken c.in-Ok-Some.ensures.held read c.in-None.ensures taken),
        (tt, tt),
      );
      came_to = subst (λ (k : Kept g.row.W.Denot). (new.place.reads ≡ k.place.reads + 1) × (has_ended new.place.state ≡ false)) c.self.view_is
          (c.in-None.ensures.4, c.in-None.ensures.3);
    }

pub returns-in-Some : goal.returns-in-Some
returns-in-Some g c =
    let left = g.W.Wire.left in
    let held = g.W.Wire.held in
    let i = c.self.inside in
    let old : Kept g.row.W.Denot = record { place = i.connection; unsent = unsent_of i.reply i.sent; wire = i.wire } in
    let new : Kept g.row.W.Denot = record { place = c.take_in.new.connection; unsent = unsent_of c.last_reply.result 0; wire = c.receive.new.self } in
    let count = c.in-Ok-Some.count in
    let buf = c.receive.new.buf in
    let bytes = take count buf in
    let within = subst (λ (f : Option ℕ). IfSome f (λ n. n ≤ length buf)) c.in-Ok-Some.field-0-is c.in-Ok-Some.ensures.count in
    let room : 0 < length buf = roomy c.room.result c.min-most.result (length buf) c.args.room.now c.in-Ok-Some.ensures.room c.min-most.ensures (c.room.ensures.some (ap (λ (k : Kept g.row.W.Denot). is_waiting k.place.state) c.self.view_is ∙ c.requires.waits)) c.requires.room in
    let taken = ap (λ (k : Kept g.row.W.Denot). k.unsent) c.self.view_is ∙ c.requires.taken in
    let read = subst (λ (f : Option ℕ). Receives (left i.wire) (left c.receive.new.self) (Ok f) c.receive.new.buf) c.in-Ok-Some.field-0-is c.in-Ok-Some.ensures.received in
    record {
      exchanges = subst (λ (k : Kept g.row.W.Denot). (events : List Event) × Exchanges left held k events new × AreReads events) c.self.view_is
          (ended left held old new count buf within room taken c.in-Ok-Some.ensures.held read c.in-Some.end c.last_reply.ensures c.in-Some.ensures);
      came_to = ends i.connection new.place c.in-Some.ensures.0 c.in-Some.end c.in-Some.ensures.3;
    }

pub returns-in-Ok-None : goal.returns-in-Ok-None
returns-in-Ok-None g c =
    let left = g.W.Wire.left in
    let held = g.W.Wire.held in
    let i = c.self.inside in
    let old : Kept g.row.W.Denot = record { place = i.connection; unsent = unsent_of i.reply i.sent; wire = i.wire } in
    let new : Kept g.row.W.Denot = record { place = i.connection; unsent = unsent_of i.reply i.sent; wire = c.receive.new.self } in
    let read = subst (λ (f : Option ℕ). Receives (left i.wire) (left c.receive.new.self) (Ok f) c.receive.new.buf) c.in-Ok-None.field-0-is c.in-Ok-None.ensures.received in
    record {
      exchanges = (
        [],
        subst (λ (k : Kept g.row.W.Denot). Exchanges left held k [] new) c.self.view_is
            (idle left held old new refl refl read (Appends-same (held i.wire) (held c.receive.new.self) c.in-Ok-None.ensures.held)),
        tt,
      );
      came_to = ap (λ (k : Kept g.row.W.Denot). k.place) c.self.view_is;
    }

pub returns-in-Err : goal.returns-in-Err
returns-in-Err g c =
    let left = g.W.Wire.left in
    let held = g.W.Wire.held in
    let i = c.self.inside in
    let old : Kept g.row.W.Denot = record { place = i.connection; unsent = unsent_of i.reply i.sent; wire = i.wire } in
    let new : Kept g.row.W.Denot = record { place = i.connection; unsent = unsent_of i.reply i.sent; wire = c.receive.new.self } in
    record {
      exchanges = (
        [],
        subst (λ (k : Kept g.row.W.Denot). Exchanges left held k [] new) c.self.view_is
            (idle left held old new refl refl c.in-Err.ensures.received (Appends-same (held i.wire) (held c.receive.new.self) c.in-Err.ensures.held)),
        tt,
      );
      came_to = ap (λ (k : Kept g.row.W.Denot). k.place) c.self.view_is;
    }
