-- What one connection did: what it read, what it wrote, and what the desk became. (this project's own)
use Rattle.std.specs.Prelude.{◌≡◌, ℕ, ◌+◌, ◌<◌, ◌⊎◌, true, List, [], ◌∷◌, ◌++◌, length, take, Option}
use Rattle.std.specs.Io.KnownBytes.{Consumes, Appends, Keeps, IsAtEnd}
use Rattle.desk_http_messages.specs.declared.requests.End.{End}
use Rattle.desk_http_messages.specs.declared.requests.End.TheVariants.{Input, Closed, Bad, ReadFault, WriteFault, Memory}
use Rattle.desk_http_messages.specs.declared.requests.StreamFault.{StreamFault}
use Rattle.desk_http_messages.specs.Stream.{Message, Splits, GoesOn, ClosesAfter, HasFault, HasNoHead, EndsSo, IsOpen, IsUnfaulted, IsUnfinished}
use Rattle.desk_store.specs.Desk.{History}
use Rattle.desk_http_messages.specs.Replies.{print_reply, fault_reply, joined, last_texts}
use Rattle.desk_http.specs.Answering.{Serves}

-- these texts are the replies to a stream of these bytes, which ends so and leaves the desk as new
pub record IsReplyTo {S : Type 0} (good : S → Type 0) (stands : S → History → History → Type 0)
    (old : S) (bytes : List ℕ) (texts : List (List ℕ)) (end : End) (new : S)
    : Type 0 where
  pub messages : List Message
  pub rest : List ℕ
  pub replies : List (List ℕ)
  pub splits : Splits bytes messages rest
  pub ends : EndsSo messages rest end
  pub run : Serves good stands old messages replies new
  pub texts_are : texts ≡ replies ++ last_texts end

-- The stream was answered to its end: what was read, and the replies to it. Either the reader told its end, or the replies are the
-- same however the input goes on.
pub record AnswersAll {S : Type 0} (good : S → Type 0) (stands : S → History → History → Type 0)
    (end : End) (old new : S) (left left' held held' : Option (List ℕ)) (replied written : ℕ)
    : Type 0 where
  pub received : List ℕ
  pub texts : List (List ℕ)
  pub read : Consumes left left' received
  pub sent : Appends held held' (joined texts)
  pub answers : IsReplyTo good stands old received texts end new
  pub final : IsAtEnd left' ⊎ ((more : List ℕ) → IsReplyTo good stands old (received ++ more) texts end new)
  pub replied_is : replied ≡ length texts
  pub written_is : written ≡ length (joined texts)

-- A read failed: the messages before the one in which it failed were answered. What was read of that one is neither a whole message
-- nor refused for what its head says; and if it has no head, no fault has been read in it.
pub record AnswersBefore {S : Type 0} (good : S → Type 0) (stands : S → History → History → Type 0)
    (old new : S) (left left' held held' : Option (List ℕ)) (replied written : ℕ)
    : Type 0 where
  pub received : List ℕ
  pub messages : List Message
  pub rest : List ℕ
  pub texts : List (List ℕ)
  pub read : Consumes left left' received
  pub sent : Appends held held' (joined texts)
  pub splits : Splits received messages rest
  pub goes_on : GoesOn messages
  pub is_open : IsOpen rest
  pub unfaulted : IsUnfaulted rest
  pub unfinished : HasNoHead rest → IsUnfinished rest
  pub run : Serves good stands old messages texts new
  pub replied_is : replied ≡ length texts
  pub written_is : written ≡ length (joined texts)

-- what the reply that was cut is a reply to: the last of the messages, or the rest
abbrev pub CutReply : {S : Type 0} → (S → Type 0) → (S → History → History → Type 0) → S → S → List Message → List ℕ → List (List ℕ) → List ℕ → Option (List ℕ) → Type 0
CutReply good stands old new messages rest whole cut left' =
    (Serves good stands old messages (whole ++ cut ∷ []) new × (GoesOn messages ⊎ ClosesAfter messages))
    ⊎ ((fault : StreamFault) × Serves good stands old messages whole new × GoesOn messages
    × (cut ≡ print_reply true (fault_reply fault)) × HasFault rest fault
    × (IsAtEnd left' ⊎ ((more : List ℕ) → HasFault (rest ++ more) fault)))

-- a write failed: some replies were written whole, and a part of one more
pub record AnswersInPart {S : Type 0} (good : S → Type 0) (stands : S → History → History → Type 0)
    (old new : S) (left left' held held' : Option (List ℕ)) (replied written : ℕ)
    : Type 0 where
  pub received : List ℕ
  pub messages : List Message
  pub rest : List ℕ
  pub whole : List (List ℕ)
  pub cut : List ℕ
  pub part : ℕ
  pub read : Consumes left left' received
  pub splits : Splits received messages rest
  pub answers : CutReply good stands old new messages rest whole cut left'
  pub sent : Appends held held' (joined whole ++ take part cut)
  pub shorter : part < length cut
  pub replied_is : replied ≡ length whole
  pub written_is : written ≡ length (joined whole) + part

-- what a connection that ended so did, with so many replies written whole and so many bytes written
abbrev pub SessionOf : {S : Type 0} → (S → Type 0) → (S → History → History → Type 0) → End → S → S → Option (List ℕ) → Option (List ℕ) → Option (List ℕ) → Option (List ℕ) → ℕ → ℕ → Type 0
SessionOf good stands Input old new left left' held held' replied written = AnswersAll good stands Input old new left left' held held' replied written
SessionOf good stands Closed old new left left' held held' replied written = AnswersAll good stands Closed old new left left' held held' replied written
SessionOf good stands (Bad fault) old new left left' held held' replied written = AnswersAll good stands (Bad fault) old new left left' held held' replied written
SessionOf good stands ReadFault old new left left' held held' replied written = AnswersBefore good stands old new left left' held held' replied written
SessionOf good stands WriteFault old new left left' held held' replied written = AnswersInPart good stands old new left left' held held' replied written
SessionOf good stands Memory old new left left' held held' replied written =
    (new ≡ old) × Keeps left left' × Keeps held held' × (replied ≡ 0) × (written ≡ 0)
