-- A step over the bytes of a connection, as an event of it.
use Rattle.std.proofs.Common.{◌≡◌, inl, inr, refl, sym, ap, ◌∙◌, subst, ℕ, ◌+◌, ◌≤◌, Bool, true, false, List, [], ◌∷◌, ◌++◌, Some, arith, length, length-append}
use Rattle.std.specs.Prelude.{◌==◌}
use Rattle.std.proofs.lemmas.Bool.Decides.{nat_tests}
use Rattle.std.proofs.lemmas.Grind.{common_steps}
use Rattle.desk_store.specs.Desk.{History}
use Rattle.desk_http_messages.specs.Front.{IsWaiting, end_of}
use Rattle.desk_http_messages.specs.declared.framing.Pending.{Pending}
use Rattle.desk_http_messages.specs.declared.framing.Pending.TheVariants as pending
use Rattle.desk_http_messages.specs.declared.requests.End.{End}
use Rattle.desk_http_messages.specs.declared.requests.End.TheVariants.{ReadFault}
use Rattle.desk_http.specs.declared.connection.State.{State}
use Rattle.desk_http.specs.declared.connection.State.TheVariants.{Due, Ended}
use Rattle.desk_http.specs.declared.stepping.Step.{Step}
use Rattle.desk_http.specs.declared.stepping.Step.TheVariants.{Fault, Reply, Waits}
use Rattle.desk_http.specs.Connection.{Came, IsKnown, IsLast, Moves, Place, ReadMoves, StepMoves, after_reply, has_ended, is_waiting, state_after}
use Rattle.desk_http_messages.specs.Stream.{Message}
use Rattle.desk_http.specs.Answering.{Serves}
use Rattle.desk_http.specs.Stepping.{Steps, text_bytes}
use Rattle.desk_http.proofs.RunLemmas.{Serves-none}

known_after_reply : (ends : Bool) (bytes : List ℕ) → IsKnown (after_reply ends) bytes
known_after_reply true bytes = tt
known_after_reply false bytes = tt

module _ {S : Type 0} (good : S → Type 0) (stands : S → History → History → Type 0) where
  -- what is known after a step
  pub known_after : (bytes : List ℕ) (old : S) (step : Step) (rest : List ℕ) (new : S) → Steps good stands bytes old step rest new → IsKnown (state_after step) rest
  known_after bytes old (Reply text ends) rest new steps = known_after_reply ends rest
  known_after bytes old (Fault fault) rest new steps = tt
  known_after bytes old (Waits pending) rest new steps = subst (λ b. IsWaiting b pending) (sym steps.1) steps.0

  pub steps_move : (p q : Place) (old : S) (step : Step) (new : S) → has_ended p.state ≡ false → Steps good stands p.waiting old step q.waiting new → q.state ≡ state_after step → q.reads ≡ p.reads → StepMoves good stands p old step q new
  steps_move p q old (Reply text ends) new on (m, valid, front, is, one) state reads = (m, is, (on, valid, front, state ∙ ap after_reply is, reads), one)
  steps_move p q old (Fault fault) new on (always, same, desk) state reads = ((on, always, same, state, reads), desk)
  steps_move p q old (Waits pending) new on (waits, same, desk) state reads = ((on, same, ap is_waiting state, reads), desk)

  -- the desk after a step
  pub step_run : (p q : Place) (old : S) (step : Step) (new : S) → StepMoves good stands p old step q new → (messages : List Message) × (texts : List (List ℕ)) × Serves good stands old messages texts new
  step_run p q old (Reply text ends) new moves = (moves.0 ∷ [], text_bytes text ∷ [], moves.3)
  step_run p q old (Fault fault) new moves = ([], [], subst (λ d. Serves good stands old [] [] d) (sym moves.1) (Serves-none good stands old))
  step_run p q old (Waits pending) new moves = ([], [], subst (λ d. Serves good stands old [] [] d) (sym moves.1) (Serves-none good stands old))

-- how bytes that wait end a stream
pub waits_last : (bytes : List ℕ) (p : Pending) → IsWaiting bytes p → IsLast bytes (end_of p)
waits_last bytes pending.Message waits = waits.ends
waits_last bytes pending.Head waits = waits.ends
waits_last bytes pending.NoHead waits = waits.ends
waits_last bytes (pending.Body whole) waits = waits.ends

pub fails_last : (bytes : List ℕ) (p : Pending) → IsWaiting bytes p → IsLast bytes ReadFault
fails_last bytes p waits = (waits.is_open, waits.unfaulted, waits.unfinished)

module _ (p : Place) (bytes now : List ℕ) (waits : is_waiting p.state ≡ true) (is : now ≡ p.waiting ++ bytes) (fits : length now ≤ 73728) where
  -- a read brought bytes
  pub brought : (s : State) (n : ℕ) → has_ended s ≡ false → n ≡ p.reads + 1 → n ≤ 1000000 → Moves p (Came bytes) (record { waiting = now; state = s; reads = n })
  brought s n on counted few =
      let size = ap length is ∙ length-append p.waiting bytes in
      (waits, omega (arith, fits, size), is, on, counted, few)

  -- and then the stream has ended
  pub brought_last : (end : End) (n : ℕ) → p.reads + 1 ≤ 1000000 → IsLast now end → ReadMoves p bytes (Some end) (record { waiting = now; state = Ended end; reads = n })
  brought_last end n few last = inl (record { waiting = now; state = Due; reads = p.reads + 1 }, brought Due (p.reads + 1) refl refl few, (refl, last, refl, refl))

-- no more reads are made
pub none_left : (p : Place) → has_ended p.state ≡ false → p.reads ≡ 1000000 → IsLast p.waiting ReadFault → (n : ℕ) → ReadMoves p [] (Some ReadFault) (record { waiting = p.waiting; state = Ended ReadFault; reads = n })
none_left p on all last n = inr (all, refl, refl, (on, last, refl, refl))

-- one more read may be made
pub fewer : (n : ℕ) → n ≤ 1000000 → (n == 1000000) ≡ false → n + 1 ≤ 1000000
fewer n few is = grind (arith, nat_tests, common_steps)
