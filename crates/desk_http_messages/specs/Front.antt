-- What is at the front of the bytes that wait. (this project's own)
use Rattle.std.specs.Prelude.{◌≡◌, ℕ, ◌+◌, ◌<◌, ◌≤◌, List, [], ◌++◌, length, take, drop, slice_range, Ok}
use Rattle.httparse.specs.Spans.{IsRequestAt, IsRequestWithin, RequestExceeds}
use Rattle.httparse.specs.declared.spans.HeaderSpan.{HeaderSpan}
use Rattle.desk_http_messages.specs.declared.framing.Extent.{Extent}
use Rattle.desk_http_messages.specs.declared.framing.Front.{Front}
use Rattle.desk_http_messages.specs.declared.framing.Front.TheVariants.{Message, Fault, Open}
use Rattle.desk_http_messages.specs.declared.framing.Pending.{Pending}
use Rattle.desk_http_messages.specs.declared.framing.Pending.TheVariants as pending
use Rattle.desk_http_messages.specs.declared.requests.End.{End}
use Rattle.desk_http_messages.specs.declared.requests.End.TheVariants.{Bad, Input}
use Rattle.desk_http_messages.specs.declared.requests.StreamFault.TheVariants.{BadHead, BodyCut}
use Rattle.httparse.specs.Grammar.{MayBecomeRequest, RequestHead, print_request}
use Rattle.desk_http_messages.specs.Head.{body_length, ends_stream, headers_of}
use Rattle.desk_http_messages.specs.Stream.{IsMessage, print_message, HasFault, HasHead, HasNoHead, EndsSo, IsOpen, IsUnfaulted, IsUnfinished}
use Rattle.desk_http_messages.specs.Stream as stream

-- a whole message is at the front, and its parts are at the places of the extent
pub record IsMessageAt (bytes : List ℕ) (headers : List HeaderSpan) (e : Extent) : Type 0 where
  pub message : stream.Message
  pub valid : IsMessage message
  pub at_front : bytes ≡ print_message message ++ drop (e.head.len + e.body) bytes
  pub long : 0 < e.head.len + e.body
  pub in_range : e.head.len + e.body ≤ length bytes
  pub within : IsRequestWithin (take 8192 bytes) headers e.head
  pub head : IsRequestAt (take 8192 bytes) headers e.head message.head
  pub body : slice_range bytes e.head.len (e.head.len + e.body) ≡ message.body
  pub ends : e.ends ≡ ends_stream message.head

-- how the stream ends if no more bytes come
abbrev pub end_of : Pending → End
end_of pending.Message = Input
end_of pending.Head = Bad BadHead
end_of pending.NoHead = Bad BadHead
end_of (pending.Body whole) = Bad BodyCut

-- What is known of bytes that wait so: bytes can follow that make them a head, or they end within its target; they have too many
-- header lines, and will never have a head; or they have one, and with its body they will be so long.
abbrev pub Pends : List ℕ → Pending → Type 0
Pends bytes pending.Message = Unit {0}
Pends bytes pending.Head = MayBecomeRequest bytes
Pends bytes pending.NoHead = RequestExceeds 32 bytes × ((more : List ℕ) → HasNoHead (bytes ++ more))
Pends bytes (pending.Body whole) =
    (head : RequestHead) × (more : List ℕ) × (n : ℕ) × HasHead bytes head more
    × (body_length (headers_of head) ≡ Ok n) × (whole ≡ length (print_request head) + n)

-- The bytes have no message at their front, no head that is refused, and room for more; if they have no head, no fault has been read
-- in them; and the stream ends so if no more come.
pub record IsWaiting (bytes : List ℕ) (pending : Pending) : Type 0 where
  pub ends : EndsSo [] bytes (end_of pending)
  pub is_open : IsOpen bytes
  pub unfaulted : IsUnfaulted bytes
  pub unfinished : HasNoHead bytes → IsUnfinished bytes
  pub room : length bytes < 73728
  pub pends : Pends bytes pending

-- what is at the front of the bytes: a message; a fault that holds whatever follows; or neither yet
abbrev pub IsFront : List ℕ → List HeaderSpan → Front → Type 0
IsFront bytes headers (Message e) = IsMessageAt bytes headers e
IsFront bytes headers (Fault fault) = (more : List ℕ) → HasFault (bytes ++ more) fault
IsFront bytes headers (Open pending) = IsWaiting bytes pending
