-- A connection, step by step: what happens at it, where that leaves it, and what several do beside one another. (this project's own)
use Rattle.std.specs.Prelude.{◌≡◌, ◌⊎◌, ◌==◌, ℕ, ◌+◌, ◌≤◌, Bool, true, false, List, [], ◌∷◌, ◌++◌, length, map, None, Option, Some, if◌then◌else◌}
use Rattle.std.specs.Io.KnownBytes.{IsAtEnd}
use Rattle.std.specs.List.{flat_map}
use Rattle.desk_store.specs.Desk.{History}
use Rattle.desk_http_messages.specs.declared.requests.End.{End}
use Rattle.desk_http_messages.specs.declared.requests.End.TheVariants.{Bad, Closed, Input, Memory, ReadFault, WriteFault}
use Rattle.desk_http_messages.specs.declared.requests.StreamFault.{StreamFault}
use Rattle.desk_http_messages.specs.Front.{IsWaiting}
use Rattle.desk_http_messages.specs.Head.{ends_stream}
use Rattle.desk_http_messages.specs.Replies.{last_texts}
use Rattle.desk_http_messages.specs.Stream.{EndsSo, GoesOn, HasFault, HasNoHead, IsMessage, IsOpen, IsUnfaulted, IsUnfinished, Message, Splits, print_message}
use Rattle.desk_http.specs.declared.connection.State.{State}
use Rattle.desk_http.specs.declared.connection.State.TheVariants.{Due, Ended, Waits}
use Rattle.desk_http.specs.declared.stepping.Step.{Step}
use Rattle.desk_http.specs.declared.stepping.Step.TheVariants as step
use Rattle.desk_http.specs.Answering.{Serves}
use Rattle.desk_http.specs.Stepping.{text_bytes}

-- where a connection is: the bytes that came and were not consumed, what is known of them, and how many reads were made
pub record Place : Type 0 where
  pub waiting : List ℕ
  pub state : State
  pub reads : ℕ

-- a connection of which nothing was read
abbrev pub fresh : Place
fresh = record { waiting = []; state = Due; reads = 0 }

-- the stream has ended
abbrev pub has_ended : State → Bool
has_ended Due = false
has_ended (Waits pending) = false
has_ended (Ended end) = true

-- the bytes wait for more
abbrev pub is_waiting : State → Bool
is_waiting Due = false
is_waiting (Waits pending) = true
is_waiting (Ended end) = false

-- how the stream has ended, if it has
abbrev pub end_in : State → Option End
end_in Due = None
end_in (Waits pending) = None
end_in (Ended end) = Some end

-- what is known of bytes in a state
abbrev pub IsKnown : State → List ℕ → Type 0
IsKnown Due bytes = Unit {0}
IsKnown (Waits pending) bytes = IsWaiting bytes pending
IsKnown (Ended end) bytes = Unit {0}

-- what is known after a reply, behind which the stream ends or not
abbrev pub after_reply : Bool → State
after_reply true = Ended Closed
after_reply false = Due

-- what is known after a step
abbrev pub state_after : Step → State
state_after (step.Reply text ends) = after_reply ends
state_after (step.Fault fault) = Ended (Bad fault)
state_after (step.Waits pending) = Waits pending

-- What happens at a connection: a read brings bytes, or none; it is found that they wait for more; the message at their front is answered
-- with a text; a fault is found there; or no more come, or none are read, and the stream ends.
pub data Event : Type 0 where
  Came : List ℕ → Event
  Looked : Event
  Replied : Message → List ℕ → Event
  Refused : StreamFault → Event
  Ends : End → Event

-- how bytes that wait may end a stream: that of these bytes ends so if no more come; or a read failed, and they are neither a whole
-- message nor refused for what their head says, and no fault has been read in them if they have no head
abbrev pub IsLast : List ℕ → End → Type 0
IsLast waiting Input = EndsSo [] waiting Input
IsLast waiting Closed = ⊥
IsLast waiting (Bad fault) = EndsSo [] waiting (Bad fault)
IsLast waiting ReadFault = IsOpen waiting × IsUnfaulted waiting × (HasNoHead waiting → IsUnfinished waiting)
IsLast waiting WriteFault = ⊥
IsLast waiting Memory = ⊥

-- a read may end a stream so
abbrev pub IsReadEnd : End → Type 0
IsReadEnd Input = Unit {0}
IsReadEnd Closed = ⊥
IsReadEnd (Bad fault) = Unit {0}
IsReadEnd ReadFault = Unit {0}
IsReadEnd WriteFault = ⊥
IsReadEnd Memory = ⊥

-- where an event takes a connection. Bytes come only while those there wait, into the room that is left, and in at most 1,000,000 reads;
-- and nothing happens once the stream has ended.
abbrev pub Moves : Place → Event → Place → Type 0
Moves p (Came bytes) q =
    (is_waiting p.state ≡ true) × (length p.waiting + length bytes ≤ 73728) × (q.waiting ≡ p.waiting ++ bytes)
    × (has_ended q.state ≡ false) × (q.reads ≡ p.reads + 1) × (q.reads ≤ 1000000)
Moves p Looked q = (has_ended p.state ≡ false) × (q.waiting ≡ p.waiting) × (is_waiting q.state ≡ true) × (q.reads ≡ p.reads)
Moves p (Replied m text) q =
    (has_ended p.state ≡ false) × IsMessage m × (p.waiting ≡ print_message m ++ q.waiting)
    × (q.state ≡ after_reply (ends_stream m.head)) × (q.reads ≡ p.reads)
Moves p (Refused fault) q =
    (has_ended p.state ≡ false) × ((more : List ℕ) → HasFault (p.waiting ++ more) fault) × (q.waiting ≡ p.waiting)
    × (q.state ≡ Ended (Bad fault)) × (q.reads ≡ p.reads)
Moves p (Ends end) q = (has_ended p.state ≡ false) × IsLast p.waiting end × (q.waiting ≡ p.waiting) × (q.state ≡ Ended end)

-- what an event does at the desk: it answers the message, or does nothing
abbrev pub AtDesk : {S : Type 0} → (S → Type 0) → (S → History → History → Type 0) → S → Event → S → Type 0
AtDesk good stands old (Came bytes) new = new ≡ old
AtDesk good stands old Looked new = new ≡ old
AtDesk good stands old (Replied m text) new = Serves good stands old (m ∷ []) (text ∷ []) new
AtDesk good stands old (Refused fault) new = new ≡ old
AtDesk good stands old (Ends end) new = new ≡ old

-- a step of a connection, as an event
abbrev pub StepMoves : {S : Type 0} → (S → Type 0) → (S → History → History → Type 0) → Place → S → Step → Place → S → Type 0
StepMoves good stands p old (step.Reply text ends) q new =
    (m : Message) × (ends ≡ ends_stream m.head) × Moves p (Replied m (text_bytes text)) q × AtDesk good stands old (Replied m (text_bytes text)) new
StepMoves good stands p old (step.Fault fault) q new = Moves p (Refused fault) q × AtDesk good stands old (Refused fault) new
StepMoves good stands p old (step.Waits pending) q new = Moves p Looked q × AtDesk good stands old Looked new

-- a read of a connection, as an event, and as another if the stream has ended: that bytes came, if there was a read
abbrev pub ReadMoves : Place → List ℕ → Option End → Place → Type 0
ReadMoves p bytes None q = Moves p (Came bytes) q
ReadMoves p bytes (Some end) q =
    ((between : Place) × Moves p (Came bytes) between × Moves between (Ends end) q)
    ⊎ ((p.reads ≡ 1000000) × (bytes ≡ []) × (end ≡ ReadFault) × Moves p (Ends end) q)

-- How a read ended a stream, if it did, after so many reads: as the bytes that wait say, at the end of the input; or since it failed, or
-- would be one too many.
abbrev pub EndsRead : Option End → ℕ → Bool → Option (List ℕ) → Type 0
EndsRead None reads failed left = failed ≡ false
EndsRead (Some end) reads failed left =
    IsReadEnd end × (IsAtEnd left ⊎ (end ≡ ReadFault)) × (failed ≡ true → end ≡ ReadFault)
    × (end ≡ ReadFault → (failed ≡ true) ⊎ (reads ≡ 1000000))

-- the way of a connection through these events
abbrev pub Goes : Place → List Event → Place → Type 0
Goes p [] q = q ≡ p
Goes p (e ∷ events) q = (between : Place) × Moves p e between × Goes between events q

-- the way of a desk through these events
abbrev pub DeskGoes : {S : Type 0} → (S → Type 0) → (S → History → History → Type 0) → S → List Event → S → Type 0
DeskGoes good stands old [] new = new ≡ old
DeskGoes {S} good stands old (e ∷ events) new = (between : S) × AtDesk good stands old e between × DeskGoes good stands between events new

-- the bytes that came
abbrev pub bytes_in : Event → List ℕ
bytes_in (Came bytes) = bytes
bytes_in Looked = []
bytes_in (Replied m text) = []
bytes_in (Refused fault) = []
bytes_in (Ends end) = []

abbrev pub came : List Event → List ℕ
came events = flat_map bytes_in events

-- the messages that were answered
abbrev pub message_in : Event → List Message
message_in (Came bytes) = []
message_in Looked = []
message_in (Replied m text) = m ∷ []
message_in (Refused fault) = []
message_in (Ends end) = []

abbrev pub answered : List Event → List Message
answered events = flat_map message_in events

-- the replies to them
abbrev pub reply_in : Event → List (List ℕ)
reply_in (Came bytes) = []
reply_in Looked = []
reply_in (Replied m text) = text ∷ []
reply_in (Refused fault) = []
reply_in (Ends end) = []

abbrev pub replies : List Event → List (List ℕ)
replies events = flat_map reply_in events

-- what is written: these, and the reply to a fault
abbrev pub text_in : Event → List (List ℕ)
text_in (Came bytes) = []
text_in Looked = []
text_in (Replied m text) = text ∷ []
text_in (Refused fault) = last_texts (Bad fault)
text_in (Ends end) = last_texts end

abbrev pub written : List Event → List (List ℕ)
written events = flat_map text_in events

-- no more bytes come
abbrev pub is_last : Event → Bool
is_last (Came bytes) = false
is_last Looked = false
is_last (Replied m text) = false
is_last (Refused fault) = false
is_last (Ends end) = true

-- the bytes that came to an event are the whole stream, or more follow that were not read
abbrev pub has_last : List Event → Bool
has_last [] = false
has_last (e ∷ events) = if is_last e then true else has_last events

-- this is the stream of which these bytes came: more may follow that were not read, unless the input has ended
abbrev pub IsStreamOf : List Event → List ℕ → Type 0
IsStreamOf events stream = (more : List ℕ) × (stream ≡ came events ++ more) × (has_last events ≡ true → more ≡ [])

-- A stream of these messages and this rest is left in this state: it goes on after each message if it has not ended, or if a read failed;
-- else it has ended so.
abbrev pub HasEndedSo : End → List Message → List ℕ → Type 0
HasEndedSo Input messages rest = EndsSo messages rest Input
HasEndedSo Closed messages rest = EndsSo messages rest Closed
HasEndedSo (Bad fault) messages rest = EndsSo messages rest (Bad fault)
HasEndedSo ReadFault messages rest = GoesOn messages
HasEndedSo WriteFault messages rest = ⊥
HasEndedSo Memory messages rest = ⊥

abbrev pub IsLeft : State → List Message → List ℕ → Type 0
IsLeft Due messages rest = GoesOn messages
IsLeft (Waits pending) messages rest = GoesOn messages
IsLeft (Ended end) messages rest = HasEndedSo end messages rest

-- the reply to the fault by which a stream has ended
abbrev pub last_in : State → List (List ℕ)
last_in Due = []
last_in (Waits pending) = []
last_in (Ended end) = last_texts end

-- What a connection came to. The bytes that came are the messages that were answered and those that wait; however the stream goes on, it
-- goes on after these messages, or has ended so; and what is written are their replies, in order, and that to a fault.
pub record IsServed (events : List Event) (p : Place) : Type 0 where
  pub splits : Splits (came events) (answered events) p.waiting
  pub left : (more : List ℕ) → (has_last events ≡ true → more ≡ []) → IsLeft p.state (answered events) (p.waiting ++ more)
  pub written_are : written events ≡ replies events ++ last_in p.state

-- events of several connections, each with the number of its own, without these
abbrev pub happened : List (ℕ × Event) → List Event
happened events = map (λ x. x.1) events

-- the events of one of them
abbrev pub own : ℕ → List (ℕ × Event) → List Event
own i [] = []
own i (x ∷ events) = if i == x.0 then x.1 ∷ own i events else own i events

-- Several connections beside one another, each at its place in the end: the desk goes through all events in the order in which they
-- happened, and each connection through its own alone.
pub record Interleaves {S : Type 0} (good : S → Type 0) (stands : S → History → History → Type 0)
    (old : S) (events : List (ℕ × Event)) (places : ℕ → Place) (new : S)
    : Type 0 where
  pub desk : DeskGoes good stands old (happened events) new
  pub each : (i : ℕ) → Goes fresh (own i events) (places i)
