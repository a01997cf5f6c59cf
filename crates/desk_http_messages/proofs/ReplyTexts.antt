-- The texts that are written without memory.
use Rattle.std.proofs.Common.{◌≡◌, ℕ, List, [], ◌++◌, length, codes, refl, sym, true, false, Result, Ok, Err, IfOk, append_assoc, ◌∙◌}
use Rattle.std.specs.Fmt.{digits, decimal}
use Rattle.json.specs.Print.{escape_byte}
use Rattle.http.specs.StatusCode.{status_text}
use Rattle.std.specs.Prelude.{String, string_bytes}
use Rattle.std.specs.declared.alloc.Global.{Global}
use Rattle.std.specs.declared.alloc.AllocError.{AllocError}
use Rattle.desk_http_messages.specs.declared.requests.StreamFault.TheVariants.{BadHead, TransferEncoding, BadLength, BodyTooLarge, BodyCut}
use Rattle.desk_http_messages.specs.Replies.{print_reply, line_end, fault_reply, memory_reply}

pub BadHead_text : codes "HTTP/1.1 400 Bad Request\r\ncontent-type: application/json\r\ncontent-length: 32\r\nconnection: close\r\n\r\n{\"error\":\"BadHead\",\"number\":101}" ≡ print_reply true (fault_reply BadHead)
unfolding print_reply digits escape_byte
BadHead_text = refl

pub TransferEncoding_text : codes "HTTP/1.1 501 Not Implemented\r\ncontent-type: application/json\r\ncontent-length: 41\r\nconnection: close\r\n\r\n{\"error\":\"TransferEncoding\",\"number\":102}" ≡ print_reply true (fault_reply TransferEncoding)
unfolding print_reply digits escape_byte
TransferEncoding_text = refl

pub BadLength_text : codes "HTTP/1.1 400 Bad Request\r\ncontent-type: application/json\r\ncontent-length: 34\r\nconnection: close\r\n\r\n{\"error\":\"BadLength\",\"number\":103}" ≡ print_reply true (fault_reply BadLength)
unfolding print_reply digits escape_byte
BadLength_text = refl

pub BodyTooLarge_text : codes "HTTP/1.1 413 Payload Too Large\r\ncontent-type: application/json\r\ncontent-length: 37\r\nconnection: close\r\n\r\n{\"error\":\"BodyTooLarge\",\"number\":104}" ≡ print_reply true (fault_reply BodyTooLarge)
unfolding print_reply digits escape_byte
BodyTooLarge_text = refl

pub BodyCut_text : codes "HTTP/1.1 400 Bad Request\r\ncontent-type: application/json\r\ncontent-length: 32\r\nconnection: close\r\n\r\n{\"error\":\"BodyCut\",\"number\":105}" ≡ print_reply true (fault_reply BodyCut)
unfolding print_reply digits escape_byte
BodyCut_text = refl

pub memory_text_true : codes "HTTP/1.1 503 Service Unavailable\r\ncontent-type: application/json\r\ncontent-length: 31\r\nconnection: close\r\n\r\n{\"error\":\"Memory\",\"number\":203}" ≡ print_reply true memory_reply
unfolding print_reply digits escape_byte
memory_text_true = refl

pub memory_text_false : codes "HTTP/1.1 503 Service Unavailable\r\ncontent-type: application/json\r\ncontent-length: 31\r\n\r\n{\"error\":\"Memory\",\"number\":203}" ≡ print_reply false memory_reply
unfolding print_reply digits escape_byte
memory_text_false = refl

-- parts, grouped from either side
regroup : (a s f g h k n l m o b : List ℕ) → a ++ s ++ f ++ g ++ h ++ k ++ n ++ l ++ m ++ o ++ b ≡ a ++ (s ++ (f ++ (g ++ (h ++ (k ++ (n ++ (l ++ (m ++ (o ++ b)))))))))
regroup a s f g h k n l m o b = simp append_assoc

-- what `format!` writes is the reply
pub formatted_last : (status : ℕ) (body : List ℕ)
    → codes "HTTP/1.1 " ++ (status_text status ++ (codes "\r\ncontent-type: application/json\r\ncontent-length: " ++ (decimal (length body) ++ (codes "\r\nconnection: close\r\n\r\n" ++ body))))
    ≡ print_reply true (record { status = status; body = body })
unfolding print_reply
formatted_last status body =
    sym (regroup (codes "HTTP/1.1 ") (status_text status) line_end (codes "content-type: application/json") line_end (codes "content-length: ") (decimal (length body)) line_end (codes "connection: close" ++ line_end) line_end body)

pub formatted_next : (status : ℕ) (body : List ℕ)
    → codes "HTTP/1.1 " ++ (status_text status ++ (codes "\r\ncontent-type: application/json\r\ncontent-length: " ++ (decimal (length body) ++ (codes "\r\n\r\n" ++ body))))
    ≡ print_reply false (record { status = status; body = body })
unfolding print_reply
formatted_next status body =
    sym (regroup (codes "HTTP/1.1 ") (status_text status) line_end (codes "content-type: application/json") line_end (codes "content-length: ") (decimal (length body)) line_end [] line_end body)

pub text_is : (r : Result (String Global) AllocError) (x y : List ℕ) → x ≡ y → IfOk r (λ s. string_bytes s ≡ x) → IfOk r (λ s. string_bytes s ≡ y)
text_is (Ok s) x y same is = is ∙ same
text_is (Err e) x y same is = is
