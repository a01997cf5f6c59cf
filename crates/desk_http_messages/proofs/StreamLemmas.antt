-- A stream has one way to be read: what is at its front, and what can still come of it.
use Rattle.std.proofs.Common.{◌≡◌, ℕ, ◌+◌, ◌-◌, ◌<◌, ◌≤◌, Bool, true, false, cond, nat_le, List, [], ◌++◌, length, take, drop, Option, Some, None, Result, Ok, Err, refl, sym, ap, ◌∙◌, arith, append_assoc, length-take, length-append, codes, nat_lt}
use Rattle.std.proofs.Math.Seq.{take-append-add}
use Rattle.std.proofs.lemmas.Bool.{leb-true}
use Rattle.std.proofs.lemmas.List.{length-map, take-append-drop, take-append-le, drop_at, take_all}
use Rattle.httparse.specs.Grammar.{RequestHead, print_request, HasNoRequest, NeverHasRequest}
use Rattle.httparse.specs.Spans.{IsRequestAt, IsRequestWithin, RequestOverflows, header_bytes, name_and_value}
use Rattle.httparse.specs.declared.spans.HeaderSpan.{HeaderSpan}
use Rattle.httparse.specs.declared.spans.RequestSpans.{RequestSpans}
use Rattle.httparse.proofs.GrammarLemmas.{request_unique}
use Rattle.desk_http_messages.specs.declared.requests.StreamFault.{StreamFault}
use Rattle.desk_http_messages.specs.declared.requests.StreamFault.TheVariants.{BadHead, TransferEncoding, BadLength, BodyTooLarge, BodyCut}
use Rattle.desk_http_messages.specs.Head.{Header, header_values}
use Rattle.desk_http_messages.specs.Head.{headers_of, given_length, limited_length, body_length}
use Rattle.desk_http_messages.specs.Stream.{HasHead, HasNoHead, HasFault, IsOpen, IsUnfaulted}

-- the bytes have one head and one rest
pub HasHead_unique : (bytes : List ℕ) (h k : RequestHead) (m n : List ℕ) → HasHead bytes h m → HasHead bytes k n → (h ≡ k) × (m ≡ n)
HasHead_unique bytes h k m n x y = request_unique bytes h k m n (x.is_head.grammar, x.bytes_are) (y.is_head.grammar, y.bytes_are)

-- the head stays whatever follows
pub HasHead-append : (bytes : List ℕ) (h : RequestHead) (m more : List ℕ) → HasHead bytes h m → HasHead (bytes ++ more) h (m ++ more)
HasHead-append bytes h m more x = record {
  is_head = x.is_head;
  bytes_are = ap (λ l. l ++ more) x.bytes_are ∙ append_assoc (print_request h) m more;
}

-- the bytes, with more behind them, begin with their first 8192
windowed : (bytes more : List ℕ) → take 8192 bytes ++ (drop 8192 bytes ++ more) ≡ bytes ++ more
windowed bytes more = sym (append_assoc (take 8192 bytes) (drop 8192 bytes) more) ∙ ap (λ l. l ++ more) (take-append-drop 8192 bytes)

pub never_head : (bytes : List ℕ) → NeverHasRequest (take 8192 bytes) → (more : List ℕ) → HasNoHead (bytes ++ more)
never_head bytes never more h m x = never (drop 8192 bytes ++ more) h m (x.is_head.grammar, windowed bytes more ∙ x.bytes_are)

pub over_head : (bytes : List ℕ) → RequestOverflows 32 (take 8192 bytes) → (more : List ℕ) → HasNoHead (bytes ++ more)
over_head bytes over more h m x =
    let many = over (drop 8192 bytes ++ more) h m (x.is_head.grammar, windowed bytes more ∙ x.bytes_are) in
    absurd (omega (arith, many, x.is_head.lines))

-- a head in bytes that fill the window is in the window
in_window : (bytes more : List ℕ) (h : RequestHead) (m : List ℕ) → 8192 ≤ length bytes → HasHead (bytes ++ more) h m → take 8192 bytes ≡ print_request h ++ take (8192 - length (print_request h)) m
in_window bytes more h m full x =
    let n = 8192 - length (print_request h) in
    let whole : 8192 ≡ length (print_request h) + n = omega (arith, x.is_head.short) in
    sym (take-append-le 8192 bytes more full)
    ∙ ap (take 8192) x.bytes_are
    ∙ ap (λ k. take k (print_request h ++ m)) whole
    ∙ take-append-add (print_request h) m n

pub full_head : (bytes : List ℕ) → HasNoRequest (take 8192 bytes) → 8192 ≤ length bytes → (more : List ℕ) → HasNoHead (bytes ++ more)
full_head bytes none full more h m x = none h _ (x.is_head.grammar, in_window bytes more h m full x)

pub short_head : (bytes : List ℕ) → HasNoRequest (take 8192 bytes) → length bytes < 8192 → HasNoHead bytes
short_head bytes none short h m x = none h m (x.is_head.grammar, take_all 8192 bytes (omega arith) ∙ x.bytes_are)

-- bytes with no head have no message
pub open_without_head : (bytes : List ℕ) → HasNoHead bytes → IsOpen bytes
open_without_head bytes none m more valid is =
    none m.head (m.body ++ more) (record { is_head = valid.head; bytes_are = is ∙ append_assoc (print_request m.head) m.body more })

pub ok_same : (a b : ℕ) (E : Type 0) → ◌≡◌ {A = Result ℕ E} (Ok a) (Ok b) → a ≡ b
ok_same a b E h = cc

-- bytes with less than a whole body have no message
pub open_with_head : (bytes : List ℕ) (h : RequestHead) (m : List ℕ) (n : ℕ) → HasHead bytes h m → body_length (headers_of h) ≡ Ok n → length m < n → IsOpen bytes
open_with_head bytes h m n x long cut message more valid is =
    let y : HasHead bytes message.head (message.body ++ more) = record { is_head = valid.head; bytes_are = is ∙ append_assoc (print_request message.head) message.body more } in
    let same = HasHead_unique bytes h message.head m (message.body ++ more) x y in
    let lengths : Ok n ≡ Ok (length message.body) = sym long ∙ ap (λ k. body_length (headers_of k)) same.0 ∙ valid.body in
    let body = ok_same n (length message.body) StreamFault lengths in
    let total = ap length same.1 ∙ length-append message.body more in
    absurd (omega (arith, cut, body, total))

limited : (o : Option ℕ) → (limited_length o ≡ Err BadHead → ⊥) × (limited_length o ≡ Err BodyCut → ⊥)
limited None = (λ h. cc, λ h. cc)
limited (Some n) = tested (nat_le n 65536)
  where
    tested : (b : Bool) → (cond b (Ok n) (Err BodyTooLarge) ≡ Err BadHead → ⊥) × (cond b (Ok n) (Err BodyTooLarge) ≡ Err BodyCut → ⊥)
    tested true = (λ h. cc, λ h. cc)
    tested false = (λ h. cc, λ h. cc)

-- a head gives none but its own faults
never_given : (b : Bool) (o : Option ℕ) → (cond b (Err TransferEncoding) (limited_length o) ≡ Err BadHead → ⊥) × (cond b (Err TransferEncoding) (limited_length o) ≡ Err BodyCut → ⊥)
never_given true o = (λ h. cc, λ h. cc)
never_given false o = limited o

abbrev encoded : RequestHead → Bool
encoded h = nat_lt 0 (length (header_values (codes "transfer-encoding") (headers_of h)))

abbrev given : RequestHead → Option ℕ
given h = given_length (header_values (codes "content-length") (headers_of h))

pub head_fault : (bytes : List ℕ) (h : RequestHead) (m : List ℕ) (fault : StreamFault) → HasHead bytes h m → body_length (headers_of h) ≡ Err fault → HasFault bytes fault
head_fault bytes h m BadHead x e = absurd ((never_given (encoded h) (given h)).0 e)
head_fault bytes h m TransferEncoding x e = (h, m, x, e)
head_fault bytes h m BadLength x e = (h, m, x, e)
head_fault bytes h m BodyTooLarge x e = (h, m, x, e)
head_fault bytes h m BodyCut x e = absurd ((never_given (encoded h) (given h)).1 e)

-- the head that the parser found
pub head_found : (bytes window : List ℕ) (headers : List HeaderSpan) (spans : RequestSpans) (h : RequestHead) → window ≡ take 8192 bytes → length headers ≡ 32 → IsRequestWithin window headers spans → IsRequestAt window headers spans h → HasHead bytes h (drop spans.len bytes)
head_found bytes window headers spans h is many within at =
    let text = print_request h in
    let rest = drop spans.len window ++ drop 8192 bytes in
    let whole : bytes ≡ text ++ rest = sym (take-append-drop 8192 bytes) ∙ ap (λ l. l ++ drop 8192 bytes) (sym is ∙ at.reads.1) ∙ append_assoc text (drop spans.len window) (drop 8192 bytes) in
    let behind : drop spans.len bytes ≡ rest = ap (drop spans.len) whole ∙ drop_at text rest spans.len (sym at.len) in
    let short = ap length is ∙ length-take 8192 bytes in
    let lines = sym (length-map (take spans.headers headers) (header_bytes window)) ∙ ap length at.fields ∙ length-map h.fields name_and_value in
    record {
      is_head = record {
        grammar = at.reads.0;
        short = omega (arith, at.len, within.section.len_fits, short);
        lines = omega (arith, lines, length-take spans.headers headers, many);
      };
      bytes_are = whole ∙ ap (λ l. text ++ l) (sym behind);
    }

-- a body is at most as long as is allowed
pub short_body : (headers : List Header) (n : ℕ) → body_length headers ≡ Ok n → n ≤ 65536
short_body headers n e = tested (nat_lt 0 (length (header_values (codes "transfer-encoding") headers))) (given_length (header_values (codes "content-length") headers)) e
  where
    bounded : (k : ℕ) (b : Bool) → b ≡ nat_le k 65536 → cond b (Ok k) (Err BodyTooLarge) ≡ Ok n → n ≤ 65536
    bounded k true is h = let same = ok_same k n StreamFault h in let fits = leb-true k 65536 (sym is) in omega (arith, same, fits)
    bounded k false is h = cc

    tested : (b : Bool) (o : Option ℕ) → cond b (Err TransferEncoding) (limited_length o) ≡ Ok n → n ≤ 65536
    tested true o h = cc
    tested false None h = cc
    tested false (Some k) h = bounded k (nat_le k 65536) refl h

pub some_bytes : (bytes more : List ℕ) → 0 < length bytes → bytes ++ more ≡ [] → ⊥
some_bytes bytes more some e = absurd (omega (arith, some, sym (length-append bytes more) ∙ ap length e))

-- bytes with no head have no head that is refused
pub unfaulted_without_head : (bytes : List ℕ) → HasNoHead bytes → IsUnfaulted bytes
unfaulted_without_head bytes none fault x = none x.0 x.1 x.2

mixed : (n : ℕ) (a : StreamFault) → ◌≡◌ {A = Result ℕ StreamFault} (Ok n) (Err a) → ⊥
mixed n a h = cc

-- nor have bytes whose head gives its body a length
pub unfaulted_with_head : (bytes : List ℕ) (h : RequestHead) (m : List ℕ) (n : ℕ) → HasHead bytes h m → body_length (headers_of h) ≡ Ok n → IsUnfaulted bytes
unfaulted_with_head bytes h m n x long fault y =
    let same = HasHead_unique bytes h y.0 m y.1 x y.2 in
    mixed n fault (sym long ∙ ap (λ k. body_length (headers_of k)) same.0 ∙ y.3)
