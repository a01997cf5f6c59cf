-- A peer that is served: where its connection is, what waits to be sent to it, and what was exchanged with it. (this project's own)
use Rattle.std.specs.Prelude.{◌≡◌, ◌≢◌, ◌⊎◌, ℕ, ◌+◌, false, true, List, [], ◌∷◌, ◌++◌, Option, None, Some}
use Rattle.std.specs.Io.KnownBytes.{Appends, Consumes, IsAtEnd}
use Rattle.desk_http_messages.specs.declared.requests.End.TheVariants.{ReadFault}
use Rattle.desk_http_messages.specs.Replies.{joined}
use Rattle.desk_http.specs.declared.connection.State.TheVariants.{Ended}
use Rattle.desk_http.specs.Connection.{Came, Ends, Event, Goes, Looked, Place, Refused, Replied, came, has_ended, has_last, written}
use Rattle.desk_http_sessions.specs.declared.session.Received.{Received}
use Rattle.desk_http_sessions.specs.declared.session.Received.TheVariants as received
use Rattle.desk_http_sessions.specs.declared.session.Sent.{Sent}
use Rattle.desk_http_sessions.specs.declared.session.Sent.TheVariants as sent

-- a session: the place of its connection, the bytes that wait to be sent, and its wire
pub record Kept (W : Type 0) : Type 0 where
  pub place : Place
  pub unsent : List ℕ
  pub wire : W

-- no byte is left of these, if they are known
abbrev pub LeavesNone : Option (List ℕ) → Option (List ℕ) → Type 0
LeavesNone None left = Unit {0}
LeavesNone (Some bytes) left = IsAtEnd left

-- A session went through these events of its connection. What was sent, and what waits to be sent now, is what waited before and the
-- replies since, each once and whole, in their order. What came is what was read, from its first byte on; more was read only if the stream
-- has ended since a read failed, or would have been one too many: then what was read last was lost. And a stream that ends by a read ends so
-- too, or no byte is left to be read.
pub record Exchanges {W : Type 0} (left held : W → Option (List ℕ)) (old : Kept W) (events : List Event) (new : Kept W) : Type 0 where
  pub goes : Goes old.place events new.place
  pub sent : List ℕ
  pub wrote : Appends (held old.wire) (held new.wire) sent
  pub order : old.unsent ++ joined (written events) ≡ sent ++ new.unsent
  pub lost : List ℕ
  pub read : Consumes (left old.wire) (left new.wire) (came events ++ lost)
  pub loss : (lost ≡ []) ⊎ (new.place.state ≡ Ended ReadFault)
  pub over : has_last events ≡ true → LeavesNone (left old.wire) (left new.wire) ⊎ (new.place.state ≡ Ended ReadFault)

-- a read makes this event: it brings bytes, or none, or the stream ends
abbrev pub IsRead : Event → Type 0
IsRead (Came bytes) = Unit {0}
IsRead Looked = ⊥
IsRead (Replied m text) = ⊥
IsRead (Refused fault) = ⊥
IsRead (Ends end) = Unit {0}

-- reads alone make these events: no message is answered
abbrev pub AreReads : List Event → Type 0
AreReads [] = Unit {0}
AreReads (e ∷ events) = IsRead e × AreReads events

-- What a read of a session came to: bytes came, and its stream goes on; or the stream has ended; or there was nothing, or the read failed,
-- and its connection is where it was.
abbrev pub IsReceived : Place → Received → Place → Type 0
IsReceived p received.Nothing q = q ≡ p
IsReceived p (received.Bytes full) q = (q.reads ≡ p.reads + 1) × (has_ended q.state ≡ false)
IsReceived p (received.Ended read_out) q = has_ended q.state ≡ true
IsReceived p received.Failed q = q ≡ p

-- What a write of a session came to, of what waited before and what waits now: all of it was sent, or a part; or none, since the peer takes
-- nothing now, or the write failed.
abbrev pub IsSent : List ℕ → Sent → List ℕ → Type 0
IsSent old sent.All new = new ≡ []
IsSent old sent.Part new = new ≢ []
IsSent old sent.Nothing new = new ≡ old
IsSent old sent.Failed new = new ≡ old
