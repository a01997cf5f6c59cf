-- Replies and their bytes, and those that are constant. (RFC 9112, sections 4 and 6; their numbers and names are this project's own)
use Rattle.std.specs.Prelude.{ℕ, Bool, true, List, [], ◌∷◌, ◌++◌, length, codes, if◌then◌else◌}
use Rattle.std.specs.List.{flat_map}
use Rattle.std.specs.Fmt.{decimal}
use Rattle.http.specs.StatusCode.{status_text}
use Rattle.serde_json.specs.Data.{Data, member, no_members, number, object, string, unsigned}
use Rattle.serde_json.specs.Written.{compact_text}
use Rattle.desk_http_messages.specs.declared.requests.StreamFault.{StreamFault}
use Rattle.desk_http_messages.specs.declared.requests.StreamFault.TheVariants.{BadHead, TransferEncoding, BadLength, BodyTooLarge, BodyCut}
use Rattle.desk_http_messages.specs.declared.requests.End.{End}
use Rattle.desk_http_messages.specs.declared.requests.End.TheVariants.{Input, Closed, Bad, ReadFault, WriteFault, Memory}

-- a status and a body
pub record Reply : Type 0 where
  pub status : ℕ
  pub body : List ℕ

-- CR LF
abbrev pub line_end : List ℕ
line_end = 13 ∷ 10 ∷ []

-- the bytes of a reply; ends says that the stream ends after it
unfoldable pub print_reply : Bool → Reply → List ℕ
print_reply ends reply =
    codes "HTTP/1.1 " ++ status_text reply.status ++ line_end
    ++ codes "content-type: application/json" ++ line_end
    ++ codes "content-length: " ++ decimal (length reply.body) ++ line_end
    ++ (if ends then codes "connection: close" ++ line_end else [])
    ++ line_end ++ reply.body

-- a reply whose body is this JSON value
abbrev pub reply_with : ℕ → Data → Reply
reply_with status value = record { status = status; body = compact_text value }

-- a refusal with nothing but its name and number
abbrev pub refusal_data : List ℕ → ℕ → Data
refusal_data name n = object (member (codes "error") (string name) (member (codes "number") (number (unsigned n)) no_members))

-- the reply to such a refusal
abbrev pub refusal_reply : ℕ → List ℕ → ℕ → Reply
refusal_reply status name n = reply_with status (refusal_data name n)

-- the number of a fault
abbrev pub fault_number : StreamFault → ℕ
fault_number BadHead = 101
fault_number TransferEncoding = 102
fault_number BadLength = 103
fault_number BodyTooLarge = 104
fault_number BodyCut = 105

-- the name of a fault
abbrev pub fault_name : StreamFault → List ℕ
fault_name BadHead = codes "BadHead"
fault_name TransferEncoding = codes "TransferEncoding"
fault_name BadLength = codes "BadLength"
fault_name BodyTooLarge = codes "BodyTooLarge"
fault_name BodyCut = codes "BodyCut"

-- the status of the reply to a fault
abbrev pub fault_status : StreamFault → ℕ
fault_status BadHead = 400
fault_status TransferEncoding = 501
fault_status BadLength = 400
fault_status BodyTooLarge = 413
fault_status BodyCut = 400

-- the reply to a fault of the stream
abbrev pub fault_reply : StreamFault → Reply
fault_reply fault = refusal_reply (fault_status fault) (fault_name fault) (fault_number fault)

-- the reply to want of memory
abbrev pub memory_reply : Reply
memory_reply = refusal_reply 503 (codes "Memory") 203

-- what is written after the replies to the messages of a stream that ends so
abbrev pub last_texts : End → List (List ℕ)
last_texts Input = []
last_texts Closed = []
last_texts (Bad fault) = print_reply true (fault_reply fault) ∷ []
last_texts ReadFault = []
last_texts WriteFault = []
last_texts Memory = []

-- texts, one after another
abbrev pub joined : List (List ℕ) → List ℕ
joined texts = flat_map (λ text. text) texts
