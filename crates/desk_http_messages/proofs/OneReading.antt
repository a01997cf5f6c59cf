-- A list of bytes is read in one way.
use Rattle.std.proofs.Common.{◌≡◌, ℕ, ◌<◌, ◌⊎◌, inl, inr, Bool, true, false, List, [], ◌∷◌, ◌++◌, length, All, Result, Ok, Err, refl, sym, ap, ◌∙◌, subst, arith, append_assoc, length-append}
use Rattle.std.specs.List.{flat_map}
use Rattle.std.proofs.Common.{take, drop, MatchBool, append-nil}
use Rattle.std.proofs.lemmas.List.{take_at, drop_at}
use Rattle.std.proofs.lemmas.List.Elements.{All-head, All-tail}
use Rattle.httparse.specs.Grammar.{RequestHead, print_request}
use Rattle.desk_http_messages.specs.declared.requests.StreamFault.{StreamFault}
use Rattle.desk_http_messages.specs.declared.requests.StreamFault.TheVariants.{BadHead, TransferEncoding, BadLength, BodyTooLarge, BodyCut}
use Rattle.desk_http_messages.specs.declared.requests.End.{End}
use Rattle.desk_http_messages.specs.declared.requests.End.TheVariants.{Input, Closed, Bad, ReadFault, WriteFault, Memory}
use Rattle.desk_http_messages.specs.Head.{headers_of, body_length, ends_stream}
use Rattle.desk_http_messages.specs.Stream.{HasHead, HasNoHead, Message, IsMessage, print_message, GoesOn, HasFault, EndsSo, Splits, IsOpen}
use Rattle.desk_http_messages.proofs.StreamLemmas.{HasHead_unique, open_with_head, ok_same}
use Rattle.desk_http_messages.proofs.FrontLemmas.{head_long}

-- the fault of a rest, as a fact on its head
abbrev FaultOf : List ℕ → StreamFault → Type 0
FaultOf rest fault =
    ((fault ≡ BadHead) × HasNoHead rest)
    ⊎ ((h : RequestHead) × (m : List ℕ) × HasHead rest h m
    × ((body_length (headers_of h) ≡ Err fault) ⊎ ((n : ℕ) × (body_length (headers_of h) ≡ Ok n) × (length m < n) × (fault ≡ BodyCut))))

fault_of : (rest : List ℕ) (fault : StreamFault) → HasFault rest fault → FaultOf rest fault
fault_of rest BadHead x = inl (refl, x.1)
fault_of rest TransferEncoding x = inr (x.0, x.1, x.2, inl x.3)
fault_of rest BadLength x = inr (x.0, x.1, x.2, inl x.3)
fault_of rest BodyTooLarge x = inr (x.0, x.1, x.2, inl x.3)
fault_of rest BodyCut x = inr (x.0, x.1, x.3, inr (x.2, x.4, x.5, refl))

err_same : (a b : StreamFault) → ◌≡◌ {A = Result ℕ StreamFault} (Err a) (Err b) → a ≡ b
err_same a b h = cc

mixed : (n : ℕ) (a : StreamFault) → ◌≡◌ {A = Result ℕ StreamFault} (Ok n) (Err a) → ⊥
mixed n a h = cc

-- a rest has one fault
one_fault : (rest : List ℕ) (a b : StreamFault) → FaultOf rest a → FaultOf rest b → a ≡ b
one_fault rest a b (inl x) (inl y) = x.0 ∙ sym y.0
one_fault rest a b (inl x) (inr y) = absurd (x.1 y.0 y.1 y.2)
one_fault rest a b (inr x) (inl y) = absurd (y.1 x.0 x.1 x.2)
one_fault rest a b (inr x) (inr y) =
    let same = ap (λ h. body_length (headers_of h)) (HasHead_unique rest x.0 y.0 x.1 y.1 x.2 y.2).0 in
    told (length x.1) (length y.1) x.3 y.3 same
  where
    told : (p q : ℕ) {h k : Result ℕ StreamFault} → ((h ≡ Err a) ⊎ ((n : ℕ) × (h ≡ Ok n) × (p < n) × (a ≡ BodyCut))) → ((k ≡ Err b) ⊎ ((n : ℕ) × (k ≡ Ok n) × (q < n) × (b ≡ BodyCut))) → h ≡ k → a ≡ b
    told p q (inl u) (inl v) e = err_same a b (sym u ∙ e ∙ v)
    told p q (inl u) (inr v) e = absurd (mixed v.0 a (sym v.1 ∙ sym e ∙ u))
    told p q (inr u) (inl v) e = absurd (mixed u.0 b (sym u.1 ∙ e ∙ v))
    told p q (inr u) (inr v) e = u.3 ∙ sym v.3

-- how a rest with no message before it ends
abbrev Ends : List ℕ → End → Type 0
Ends rest Input = rest ≡ []
Ends rest Closed = ⊥
Ends rest (Bad fault) = HasFault rest fault
Ends rest ReadFault = ⊥
Ends rest WriteFault = ⊥
Ends rest Memory = ⊥

no_head_in : (h : RequestHead) (m : List ℕ) → HasHead [] h m → ⊥
no_head_in h m x = absurd (omega (arith, head_long h x.is_head.grammar, ap length x.bytes_are ∙ length-append (print_request h) m))

not_empty : (fault : StreamFault) → FaultOf [] fault → HasFault [] fault → ⊥
not_empty fault (inl x) y = nothing fault x.0 y
  where
    nothing : (f : StreamFault) → f ≡ BadHead → HasFault [] f → ⊥
    nothing BadHead e z = z.0 refl
    nothing TransferEncoding e z = cc
    nothing BadLength e z = cc
    nothing BodyTooLarge e z = cc
    nothing BodyCut e z = cc
not_empty fault (inr x) y = no_head_in x.0 x.1 x.2

empty_fault : (rest : List ℕ) (fault : StreamFault) → rest ≡ [] → HasFault rest fault → ⊥
empty_fault rest fault e x = let y = subst (λ r. HasFault r fault) e x in not_empty fault (fault_of [] fault y) y

one_end : (rest : List ℕ) (a b : End) → Ends rest a → Ends rest b → a ≡ b
one_end rest Input Input x y = refl
one_end rest Input (Bad g) x y = absurd (empty_fault rest g x y)
one_end rest (Bad f) Input x y = absurd (empty_fault rest f y x)
one_end rest (Bad f) (Bad g) x y = ap Bad (one_fault rest f g (fault_of rest f x) (fault_of rest g y))
one_end rest Closed b x y = absurd x
one_end rest ReadFault b x y = absurd x
one_end rest WriteFault b x y = absurd x
one_end rest Memory b x y = absurd x
one_end rest Input Closed x y = absurd y
one_end rest Input ReadFault x y = absurd y
one_end rest Input WriteFault x y = absurd y
one_end rest Input Memory x y = absurd y
one_end rest (Bad f) Closed x y = absurd y
one_end rest (Bad f) ReadFault x y = absurd y
one_end rest (Bad f) WriteFault x y = absurd y
one_end rest (Bad f) Memory x y = absurd y

-- the bytes are read message by message
abbrev Reads : List ℕ → List Message → End → Type 0
Reads bytes [] end = Ends bytes end
Reads bytes (m ∷ messages) end =
    IsMessage m × (rest : List ℕ) × (bytes ≡ print_message m ++ rest)
    × MatchBool (ends_stream m.head) ((messages ≡ []) × (end ≡ Closed)) (Reads rest messages end)

-- no message is at the front of a rest with which a stream ends
ends_open : (rest : List ℕ) (end : End) → Ends rest end → IsOpen rest
ends_open rest Input x m more valid is = absurd (omega (arith, head_long m.head valid.head.grammar, sym (ap length x) ∙ ap length is, length-append (print_message m) more, length-append (print_request m.head) m.body))
ends_open rest Closed x m more valid is = absurd x
ends_open rest (Bad fault) x m more valid is = faulty (fault_of rest fault x)
  where
    front : HasHead rest m.head (m.body ++ more)
    front = record { is_head = valid.head; bytes_are = is ∙ append_assoc (print_request m.head) m.body more }

    faulty : FaultOf rest fault → ⊥
    faulty (inl y) = y.1 m.head (m.body ++ more) front
    faulty (inr y) = told y.3
      where
        same : m.head ≡ y.0
        same = (HasHead_unique rest m.head y.0 (m.body ++ more) y.1 front y.2).0

        told : ((body_length (headers_of y.0) ≡ Err fault) ⊎ ((n : ℕ) × (body_length (headers_of y.0) ≡ Ok n) × (length y.1 < n) × (fault ≡ BodyCut))) → ⊥
        told (inl u) = mixed (length m.body) fault (sym valid.body ∙ ap (λ h. body_length (headers_of h)) same ∙ u)
        told (inr u) = open_with_head rest y.0 y.1 u.0 y.2 u.1 u.2 m more valid is
ends_open rest ReadFault x m more valid is = absurd x
ends_open rest WriteFault x m more valid is = absurd x
ends_open rest Memory x m more valid is = absurd x

-- one message is at the front, and one rest behind it
one_message : (m n : Message) (r s : List ℕ) → IsMessage m → IsMessage n → print_message m ++ r ≡ print_message n ++ s → (m ≡ n) × (r ≡ s)
one_message m n r s x y e =
    let a : HasHead (print_message m ++ r) m.head (m.body ++ r) = record { is_head = x.head; bytes_are = append_assoc (print_request m.head) m.body r } in
    let b : HasHead (print_message m ++ r) n.head (n.body ++ s) = record { is_head = y.head; bytes_are = e ∙ append_assoc (print_request n.head) n.body s } in
    let both = HasHead_unique _ m.head n.head (m.body ++ r) (n.body ++ s) a b in
    let long = ok_same (length m.body) (length n.body) StreamFault (sym x.body ∙ ap (λ h. body_length (headers_of h)) both.0 ∙ y.body) in
    let body : m.body ≡ n.body = sym (take_at m.body r (length m.body) refl) ∙ ap (take (length m.body)) both.1 ∙ take_at n.body s (length m.body) (sym long) in
    let rest : r ≡ s = sym (drop_at m.body r (length m.body) refl) ∙ ap (drop (length m.body)) both.1 ∙ drop_at n.body s (length m.body) (sym long) in
    (λ i. record { head = both.0 i; body = body i }, rest)

after_same : (p q : Bool) (messages others : List Message) (a b : End) (r s : List ℕ) → p ≡ q → r ≡ s → (Reads r messages a → Reads r others b → (messages ≡ others) × (a ≡ b)) → MatchBool p ((messages ≡ []) × (a ≡ Closed)) (Reads r messages a) → MatchBool q ((others ≡ []) × (b ≡ Closed)) (Reads s others b) → (messages ≡ others) × (a ≡ b)
after_same true true messages others a b r s e f more x y = (x.0 ∙ sym y.0, x.1 ∙ sym y.1)
after_same false false messages others a b r s e f more x y = more x (subst (λ t. Reads t others b) (sym f) y)
after_same true false messages others a b r s e f more x y = cc
after_same false true messages others a b r s e f more x y = cc

pub one_reading : (bytes : List ℕ) (messages others : List Message) (a b : End) → Reads bytes messages a → Reads bytes others b → (messages ≡ others) × (a ≡ b)
one_reading bytes [] [] a b x y = (refl, one_end bytes a b x y)
one_reading bytes [] (n ∷ others) a b x y = absurd (ends_open bytes a x n y.1 y.0 y.2)
one_reading bytes (m ∷ messages) [] a b x y = absurd (ends_open bytes b y m x.1 x.0 x.2)
one_reading bytes (m ∷ messages) (n ∷ others) a b x y =
    let same = one_message m n x.1 y.1 x.0 y.0 (sym x.2 ∙ y.2) in
    let more = after_same (ends_stream m.head) (ends_stream n.head) messages others a b x.1 y.1 (ap (λ (k : Message). ends_stream k.head) same.0) same.1 (one_reading x.1 messages others a b) x.3 y.3 in
    (λ i. same.0 i ∷ more.0 i, more.1)

reads_open : (messages : List Message) (bytes rest : List ℕ) (end : End) → bytes ≡ flat_map print_message messages ++ rest → All IsMessage messages → GoesOn messages → Ends rest end → Reads bytes messages end
reads_open [] bytes rest end e each on x = subst (λ t. Ends t end) (sym e) x
reads_open (m ∷ messages) bytes rest end e each on x =
    let behind = flat_map print_message messages ++ rest in
    let more = reads_open messages behind rest end refl (All-tail IsMessage m messages each) (All-tail (λ (k : Message). ends_stream k.head ≡ false) m messages on) x in (
      All-head IsMessage m messages each,
      behind,
      e ∙ append_assoc (print_message m) (flat_map print_message messages) rest,
      subst (λ p. MatchBool p ((messages ≡ []) × (end ≡ Closed)) (Reads behind messages end)) (sym (All-head (λ (k : Message). ends_stream k.head ≡ false) m messages on)) more,
    )

reads_closed : (before : List Message) (last : Message) (bytes rest : List ℕ) → bytes ≡ flat_map print_message (before ++ last ∷ []) ++ rest → All IsMessage (before ++ last ∷ []) → GoesOn before → ends_stream last.head ≡ true → Reads bytes (before ++ last ∷ []) Closed
reads_closed [] last bytes rest e each on ends = (
  All-head IsMessage last [] each,
  rest,
  e ∙ ap (λ l. l ++ rest) (append-nil (print_message last)),
  subst (λ p. MatchBool p ((◌≡◌ {A = List Message} [] []) × (Closed ≡ Closed)) (Reads rest [] Closed)) (sym ends) (refl, refl),
)
reads_closed (m ∷ before) last bytes rest e each on ends =
    let messages = before ++ last ∷ [] in
    let behind = flat_map print_message messages ++ rest in
    let more = reads_closed before last behind rest refl (All-tail IsMessage m messages each) (All-tail (λ (k : Message). ends_stream k.head ≡ false) m before on) ends in (
      All-head IsMessage m messages each,
      behind,
      e ∙ append_assoc (print_message m) (flat_map print_message messages) rest,
      subst (λ p. MatchBool p ((messages ≡ []) × (Closed ≡ Closed)) (Reads behind messages Closed)) (sym (All-head (λ (k : Message). ends_stream k.head ≡ false) m before on)) more,
    )

-- the reading of a stream, message by message
pub reads : (bytes : List ℕ) (messages : List Message) (rest : List ℕ) (end : End) → Splits bytes messages rest → EndsSo messages rest end → Reads bytes messages end
reads bytes messages rest Input s x = reads_open messages bytes rest Input s.whole s.each x.0 x.1
reads bytes messages rest Closed s x =
    subst (λ ms. Reads bytes ms Closed) (sym x.2) (reads_closed x.0 x.1 bytes rest (s.whole ∙ ap (λ ms. flat_map print_message ms ++ rest) x.2) (subst (All IsMessage) x.2 s.each) x.3 x.4)
reads bytes messages rest (Bad fault) s x = reads_open messages bytes rest (Bad fault) s.whole s.each x.0 x.1
reads bytes messages rest ReadFault s x = absurd x
reads bytes messages rest WriteFault s x = absurd x
reads bytes messages rest Memory s x = absurd x
