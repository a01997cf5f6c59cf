-- A message at the front of the bytes that wait.
use Rattle.std.proofs.Common.{◌≡◌, inl, ℕ, ◌+◌, ◌<◌, ◌≤◌, List, [], ◌∷◌, ◌++◌, append-nil, length, take, drop, slice_range, Ok, refl, sym, ap, ◌∙◌, subst, arith, append_assoc, length-append}
use Rattle.std.proofs.Common.{Bool, IsTrue, false, ◌==◌, ◌||◌}
use Rattle.std.proofs.lemmas.List.{nil_from_length}
use Rattle.desk_http_messages.specs.declared.framing.Front.TheVariants.{Open}
use Rattle.desk_http_messages.specs.declared.framing.Pending.TheVariants as pending
use Rattle.std.proofs.lemmas.List.Elements.{All-cons, All-nil}
use Rattle.std.proofs.lemmas.List.Folds.{drop_split}
use Rattle.std.proofs.lemmas.Bool.Decides.{nat_tests}
use Rattle.std.proofs.lemmas.Grind.{common_steps}
use Rattle.httparse.specs.Grammar.{AllPass, IsField, IsRequestHead, IsToken, MayBecomeRequest, RequestHead, is_token_byte, is_uri_byte, lf, print_request}
use Rattle.httparse.specs.Spans.{IsRequestAt, IsRequestWithin}
use Rattle.httparse.specs.declared.spans.HeaderSpan.{HeaderSpan}
use Rattle.httparse.proofs.GrammarLemmas.{print_request-append}
use Rattle.desk_http_messages.specs.declared.framing.Extent.{Extent}
use Rattle.desk_http_messages.specs.Head.{headers_of, body_length, ends_stream}
use Rattle.desk_http_messages.specs.Front.{IsMessageAt, IsFront}
use Rattle.desk_http_messages.proofs.ByteLemmas.{length-slice_range}
use Rattle.desk_http_messages.proofs.StreamLemmas.{head_found}

-- a head has bytes
pub head_long : (h : RequestHead) → IsRequestHead h → 0 < length (print_request h)
head_long h valid =
    let whole = simp length-append at (ap length (print_request-append h [])) in
    omega (arith, whole, valid.method.0)

pub message_found : (bytes window : List ℕ) (headers : List HeaderSpan) (e : Extent) (h : RequestHead) → window ≡ take 8192 bytes → length headers ≡ 32 → IsRequestWithin window headers e.head → IsRequestAt window headers e.head h → body_length (headers_of h) ≡ Ok e.body → e.head.len + e.body ≤ length bytes → e.ends ≡ ends_stream h → IsMessageAt bytes headers e
message_found bytes window headers e h is many within at long fits ends =
    let len = e.head.len in
    let end = len + e.body in
    let x = head_found bytes window headers e.head h is many within at in
    let body = slice_range bytes len end in
    let count : length body ≡ e.body = length-slice_range bytes len end fits ∙ omega arith in
    record {
      message = record { head = h; body = body };
      valid = record { head = x.is_head; body = long ∙ ap Ok (sym count) };
      at_front = x.bytes_are ∙ ap (λ l. print_request h ++ l) (drop_split bytes len end (omega arith)) ∙ sym (append_assoc (print_request h) body (drop end bytes));
      long = omega (arith, at.len, head_long h at.reads.0);
      in_range = fits;
      within = subst (λ w. IsRequestWithin w headers e.head) is within;
      head = subst (λ w. IsRequestAt w headers e.head h) is at;
      body = refl;
      ends = ends;
    }

-- whether the stream ends, as the code asks it
pub ends_then : (version minor : ℕ) (asks : Bool) → version ≡ minor → version ≡ 0 → (version == 0) ≡ (minor == 0 || asks)
ends_then version minor asks same old = grind (arith, nat_tests, common_steps)

pub ends_else : (version minor : ℕ) (asks result : Bool) → version ≡ minor → (version ≡ 0 → ⊥) → result ≡ asks → result ≡ (minor == 0 || asks)
ends_else version minor asks result same new is = grind (arith, nat_tests, common_steps)

pub some_there : (n : ℕ) → (n == 0) ≡ false → 0 < n
some_there n h = grind (arith, nat_tests, common_steps)

-- the shortest head
abbrev shortest : RequestHead
shortest = record { blank = []; method = 65 ∷ []; target = 65 ∷ []; minor = 0; line_end = lf; fields = []; last = lf }

letter_is_token : IsToken (65 ∷ [])
unfolding is_token_byte
letter_is_token = (omega arith, All-cons (λ b. IsTrue (is_token_byte b)) 65 [] refl (All-nil (λ b. IsTrue (is_token_byte b))))

-- no bytes may become a head
empty_may : MayBecomeRequest []
unfolding lib.Utf8.encode
empty_may =
    let letter : AllPass is_uri_byte (65 ∷ []) = All-cons (λ b. IsTrue (is_uri_byte b)) 65 [] refl (All-nil (λ b. IsTrue (is_uri_byte b))) in
    let valid : IsRequestHead shortest = record {
      method = letter_is_token;
      target = (omega arith, letter);
      target_text = (65 ∷ [], (refl, refl));
      minor = omega arith;
      fields = All-nil IsField;
    } in
    inl (print_request shortest, shortest, (valid, sym (append-nil (print_request shortest))))

-- of no bytes
pub empty_open : (bytes : List ℕ) → length bytes ≡ 0 → IsFront bytes [] (Open pending.Message)
empty_open bytes none =
    let nothing = nil_from_length bytes none in
    record {
      ends = (λ k d below. absurd (omega (arith, below)), nothing);
      is_open = λ m more valid is.
          let long = head_long m.head valid.head.grammar in
          let total = ap length is in
          absurd (omega (arith, long, simp length-append at total, none));
      unfaulted = λ fault x.
          let long = head_long x.0 x.2.is_head.grammar in
          absurd (omega (arith, long, simp length-append at (ap length x.2.bytes_are), none));
      unfinished = λ _. (omega (arith, none), inl (subst MayBecomeRequest (sym nothing) empty_may));
      room = omega (arith, none);
      pends = tt;
    }
