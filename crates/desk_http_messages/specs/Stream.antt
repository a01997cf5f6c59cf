-- A stream of requests: messages, a rest, and how it ends. (RFC 9112, sections 2, 3, 5, 6 and 9; the limits are this project's own)
use Rattle.std.specs.Prelude.{◌≡◌, ◌≢◌, ℕ, ◌<◌, ◌≤◌, ◌⊎◌, true, false, List, [], ◌∷◌, ◌++◌, length, All, Ok, Err}
use Rattle.std.specs.List.{flat_map}
use Rattle.httparse.specs.Grammar.{RequestHead, IsRequestHead, MayBecomeRequest, print_request}
use Rattle.httparse.specs.Spans.{RequestExceeds}
use Rattle.desk_http_messages.specs.declared.requests.StreamFault.{StreamFault}
use Rattle.desk_http_messages.specs.declared.requests.StreamFault.TheVariants.{BadHead, TransferEncoding, BadLength, BodyTooLarge, BodyCut}
use Rattle.desk_http_messages.specs.declared.requests.End.{End}
use Rattle.desk_http_messages.specs.declared.requests.End.TheVariants.{Input, Closed, Bad, ReadFault, WriteFault, Memory}
use Rattle.desk_http_messages.specs.Head.{headers_of, body_length, ends_stream}

-- a head of the grammar that `httparse` reads, of at most 8,192 bytes and 32 header lines
pub record IsHead (head : RequestHead) : Type 0 where
  pub grammar : IsRequestHead head
  pub short : length (print_request head) ≤ 8192
  pub lines : length head.fields ≤ 32

-- the bytes begin with this head, and more follows it
pub record HasHead (bytes : List ℕ) (head : RequestHead) (more : List ℕ) : Type 0 where
  pub is_head : IsHead head
  pub bytes_are : bytes ≡ print_request head ++ more

-- no front of the bytes is a head
abbrev pub HasNoHead : List ℕ → Type 0
HasNoHead bytes = (head : RequestHead) (more : List ℕ) → ¬ (HasHead bytes head more)

-- a request: its head and its body
pub record Message : Type 0 where
  pub head : RequestHead
  pub body : List ℕ

-- the bytes of a message
abbrev pub print_message : Message → List ℕ
print_message m = print_request m.head ++ m.body

-- the body is as long as the head says
pub record IsMessage (m : Message) : Type 0 where
  pub head : IsHead m.head
  pub body : body_length (headers_of m.head) ≡ Ok (length m.body)

-- the stream goes on after each of these messages
abbrev pub GoesOn : List Message → Type 0
GoesOn messages = All (λ m. ends_stream m.head ≡ false) messages

-- the stream ends after the last of these messages, and goes on after those before it
abbrev pub ClosesAfter : List Message → Type 0
ClosesAfter messages =
    (before : List Message) × (last : Message) × (messages ≡ before ++ last ∷ [])
    × GoesOn before × (ends_stream last.head ≡ true)

-- the head at the front of the rest has this fault
abbrev pub HasHeadFault : List ℕ → StreamFault → Type 0
HasHeadFault rest fault =
    (head : RequestHead) × (more : List ℕ) × HasHead rest head more × (body_length (headers_of head) ≡ Err fault)

-- What is wrong with a rest after which no more bytes come: it is not empty and has no head; the lines of its head say what is wrong;
-- or its body is cut.
abbrev pub HasFault : List ℕ → StreamFault → Type 0
HasFault rest BadHead = (rest ≢ []) × HasNoHead rest
HasFault rest TransferEncoding = HasHeadFault rest TransferEncoding
HasFault rest BadLength = HasHeadFault rest BadLength
HasFault rest BodyTooLarge = HasHeadFault rest BodyTooLarge
HasFault rest BodyCut =
    (head : RequestHead) × (more : List ℕ) × (n : ℕ)
    × HasHead rest head more × (body_length (headers_of head) ≡ Ok n) × (length more < n)

-- the stream of these messages and this rest ends so
abbrev pub EndsSo : List Message → List ℕ → End → Type 0
EndsSo messages rest Input = GoesOn messages × (rest ≡ [])
EndsSo messages rest Closed = ClosesAfter messages
EndsSo messages rest (Bad fault) = GoesOn messages × HasFault rest fault
EndsSo messages rest ReadFault = ⊥
EndsSo messages rest WriteFault = ⊥
EndsSo messages rest Memory = ⊥

-- the bytes are these messages and then the rest
pub record Splits (bytes : List ℕ) (messages : List Message) (rest : List ℕ) : Type 0 where
  pub whole : bytes ≡ flat_map print_message messages ++ rest
  pub each : All IsMessage messages

-- the rest after which a read failed: no whole message is at its front, and it may go on
abbrev pub IsOpen : List ℕ → Type 0
IsOpen rest = (m : Message) (more : List ℕ) → IsMessage m → rest ≡ print_message m ++ more → ⊥

-- No fault has been read in bytes without a head. They are fewer than 8,192; and either bytes can follow that make them a head of the
-- grammar, or they end within its target, which is tested for UTF-8 at its end; or a front of them has more than 32 header lines, and
-- what follows these is not looked at.
abbrev pub IsUnfinished : List ℕ → Type 0
IsUnfinished bytes = (length bytes < 8192) × (MayBecomeRequest bytes ⊎ RequestExceeds 32 bytes)

-- no head at the front of the rest is refused for what its lines say
abbrev pub IsUnfaulted : List ℕ → Type 0
IsUnfaulted rest = (fault : StreamFault) → HasHeadFault rest fault → ⊥
