-- Bytes that wait as before when more have come.
use Rattle.std.proofs.Common.{◌≡◌, inr, ℕ, zero, suc, ◌+◌, ◌<◌, ◌≤◌, List, [], ◌++◌, length, take, drop, refl, sym, ap, ◌∙◌, subst, arith, append_assoc, append-nil, length-append}
use Rattle.std.proofs.lemmas.List.{take-append-drop}
use Rattle.httparse.specs.Grammar.{print_request}
use Rattle.httparse.specs.Spans.{RequestExceeds}
use Rattle.desk_http_messages.specs.declared.framing.Pending.{Pending}
use Rattle.desk_http_messages.specs.declared.framing.Pending.TheVariants as pending
use Rattle.desk_http_messages.specs.Front.{IsWaiting}
use Rattle.desk_http_messages.specs.Head.{headers_of}
use Rattle.desk_http_messages.specs.Reading.{IsDue}
use Rattle.desk_http_messages.specs.Stream.{HasHead, HasNoHead}
use Rattle.desk_http_messages.proofs.StreamLemmas.{HasHead-append, open_with_head, open_without_head, short_body, unfaulted_with_head, unfaulted_without_head}

nothing_before : (seen : ℕ) (bytes : List ℕ) → bytes ≡ [] → take seen bytes ≡ []
nothing_before seen bytes e = ap (take seen) e ∙ take_nothing seen
  where
    take_nothing : (n : ℕ) → take {A = ℕ} n [] ≡ []
    take_nothing zero = refl
    take_nothing (suc n) = refl

again : (bytes : List ℕ) (seen : ℕ) → bytes ≡ take seen bytes ++ drop seen bytes
again bytes seen = sym (take-append-drop seen bytes)

-- bytes to be looked at anew behind the first `later` are so behind fewer
pub due_earlier : (p : Pending) (seen later : ℕ) (bytes : List ℕ) → seen ≤ later → IsDue p later bytes → IsDue p seen bytes
due_earlier pending.Message seen later bytes le due = omega (arith, le, due)
due_earlier pending.Head seen later bytes le due = omega (arith, le, due)
due_earlier pending.NoHead seen later bytes le due = due
due_earlier (pending.Body whole) seen later bytes le due = due

-- too many header lines stay too many
many_more : (bytes : List ℕ) (seen : ℕ) → RequestExceeds 32 (take seen bytes) → RequestExceeds 32 bytes
many_more bytes seen many =
    let whole = again bytes seen ∙ ap (λ l. l ++ drop seen bytes) many.2 ∙ append_assoc many.0 many.1 (drop seen bytes) in
    (many.0, many.1 ++ drop seen bytes, whole, many.3, many.4, many.5)

pub waits_without : (bytes : List ℕ) (seen : ℕ) → IsWaiting (take seen bytes) pending.NoHead → length bytes < 8192 → IsWaiting bytes pending.NoHead
waits_without bytes seen waits short =
    let never : (more : List ℕ) → HasNoHead (bytes ++ more) = λ more.
    subst HasNoHead (sym (append_assoc (take seen bytes) (drop seen bytes) more) ∙ ap (λ l. l ++ more) (sym (again bytes seen))) (waits.pends.1 (drop seen bytes ++ more)) in
    let none : HasNoHead bytes = subst HasNoHead (append-nil bytes) (never []) in
    let many = many_more bytes seen waits.pends.0 in
    record {
      ends = (waits.ends.0, (λ e. waits.ends.1.0 (nothing_before seen bytes e), none));
      is_open = open_without_head bytes none;
      unfaulted = unfaulted_without_head bytes none;
      unfinished = λ _. (short, inr many);
      room = omega (arith, short);
      pends = (many, never);
    }

pub waits_body : (bytes : List ℕ) (seen whole : ℕ) → IsWaiting (take seen bytes) (pending.Body whole) → length bytes < whole → IsWaiting bytes (pending.Body whole)
waits_body bytes seen whole waits short =
    let h = waits.pends.0 in
    let more = waits.pends.1 ++ drop seen bytes in
    let n = waits.pends.2 in
    let long = waits.pends.4 in
    let x : HasHead bytes h more = subst (λ l. HasHead l h more) (sym (again bytes seen)) (HasHead-append (take seen bytes) h waits.pends.1 (drop seen bytes) waits.pends.3) in
    let size : length bytes ≡ length (print_request h) + length more = ap length x.bytes_are ∙ length-append (print_request h) more in
    let less : length more < n = omega (arith, short, waits.pends.5, size) in
    record {
      ends = (waits.ends.0, (h, more, n, x, long, less));
      is_open = open_with_head bytes h more n x long less;
      unfaulted = unfaulted_with_head bytes h more n x long;
      unfinished = λ none. absurd (none h more x);
      room = omega (arith, short, waits.pends.5, x.is_head.short, short_body (headers_of h) n long);
      pends = (h, more, n, x, long, waits.pends.5);
    }
