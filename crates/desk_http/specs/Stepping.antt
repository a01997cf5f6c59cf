-- One step: what is replied to the message at the front of the bytes that came. (this project's own)
use Rattle.std.specs.Prelude.{◌≡◌, ℕ, Bool, true, false, List, [], ◌∷◌, ◌++◌}
use Rattle.std.specs.String.{string_bytes}
use Rattle.desk_store.specs.Desk.{History}
use Rattle.desk_http_messages.specs.Front.{IsWaiting}
use Rattle.desk_http_messages.specs.Head.{ends_stream}
use Rattle.desk_http_messages.specs.Stream.{HasFault, IsMessage, Message, print_message}
use Rattle.desk_http.specs.declared.stepping.ReplyText.{ReplyText}
use Rattle.desk_http.specs.declared.stepping.ReplyText.TheVariants.{Constant, Made}
use Rattle.desk_http.specs.declared.stepping.Step.{Step}
use Rattle.desk_http.specs.declared.stepping.Step.TheVariants.{Fault, Reply, Waits}
use Rattle.desk_http.specs.Answering.{Serves}

-- the bytes of a reply
abbrev pub text_bytes : ReplyText → List ℕ
text_bytes (Made text) = string_bytes text
text_bytes (Constant bytes) = bytes.now

-- a message was answered
abbrev pub is_reply : Step → Bool
is_reply (Reply text ends) = true
is_reply (Fault fault) = false
is_reply (Waits pending) = false

-- A step over these bytes, which leaves the rest. The message at their front was answered by the desk, and is gone, and the stream ends
-- after it if it says so; or there is a fault at their front, whatever follows; or they wait so: and then nothing changes.
abbrev pub Steps : {S : Type 0} → (S → Type 0) → (S → History → History → Type 0) → List ℕ → S → Step → List ℕ → S → Type 0
Steps good stands bytes old (Reply text ends) rest new =
    (m : Message) × IsMessage m × (bytes ≡ print_message m ++ rest) × (ends ≡ ends_stream m.head)
    × Serves good stands old (m ∷ []) (text_bytes text ∷ []) new
Steps good stands bytes old (Fault fault) rest new = ((more : List ℕ) → HasFault (bytes ++ more) fault) × (rest ≡ bytes) × (new ≡ old)
Steps good stands bytes old (Waits pending) rest new = IsWaiting bytes pending × (rest ≡ bytes) × (new ≡ old)
