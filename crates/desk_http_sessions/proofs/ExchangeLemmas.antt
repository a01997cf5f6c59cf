-- What a call of a session did, as an exchange.
use Rattle.std.proofs.Common.{◌≡◌, ◌⊎◌, inl, inr, refl, sym, ap, ◌∙◌, subst, ℕ, ◌<◌, ◌≤◌, List, [], ◌∷◌, ◌++◌, Option, None, Some, append-nil, length, arith, Bool, true, false}
use Rattle.std.proofs.Math.Nat.{le-min}
use Rattle.std.proofs.lemmas.List.{length-take, length-take-le}
use Rattle.std.specs.Prelude.{Ok, drop, min, take}
use Rattle.std.specs.Io.KnownBytes.{Appends, Consumes, IsAtEnd, Keeps}
use Rattle.desk_store.specs.Desk.{History}
use Rattle.desk_http_messages.specs.declared.requests.End.{End}
use Rattle.desk_http_messages.specs.declared.requests.End.TheVariants.{ReadFault}
use Rattle.desk_http_messages.specs.Replies.{joined, last_texts}
use Rattle.desk_http.specs.declared.connection.State.TheVariants.{Ended}
use Rattle.desk_http.specs.declared.stepping.Step.{Step}
use Rattle.desk_http.specs.declared.stepping.Step.TheVariants.{Fault, Reply, Waits}
use Rattle.desk_http.specs.Connection.{AtDesk, Came, Ends, Event, Looked, Moves, Place, ReadMoves, Refused, Replied, StepMoves, bytes_in, has_ended, has_last, text_in}
use Rattle.desk_http.specs.Stepping.{text_bytes}
use Rattle.desk_http.proofs.KnownBytes.{Appends-keeps, Appends-none, Consumes-keeps, Consumes-none, Keeps-same}
use Rattle.desk_http_sessions.specs.PrivateSession.{TakesIn, step_texts}
use Rattle.desk_http_sessions.specs.Session.{AreReads, Exchanges, Kept, LeavesNone}
use Rattle.desk_http_sessions.specs.Wire.{Receives}

-- a step, as an event
pub step_event : {S : Type 0} (good : S → Type 0) (stands : S → History → History → Type 0) (p q : Place) (old : S) (step : Step) (new : S)
    → StepMoves good stands p old step q new
    → (e : Event) × Moves p e q × AtDesk good stands old e new × (text_in e ≡ step_texts step) × (bytes_in e ≡ []) × (has_last (e ∷ []) ≡ false)
step_event good stands p q old (Reply text ends) new moves = (Replied moves.0 (text_bytes text), moves.2, moves.3, refl, refl, refl)
step_event good stands p q old (Fault fault) new moves = (Refused fault, moves.0, moves.1, refl, refl, refl)
step_event good stands p q old (Waits pending) new moves = (Looked, moves.0, moves.1, refl, refl, refl)

-- a read that ends a stream has ended it
pub ends : (p q : Place) (found : List ℕ) (end : End) → ReadMoves p found (Some end) q → has_ended q.state ≡ true
ends p q found end (inl moves) = ap has_ended moves.2.3
ends p q found end (inr moves) = ap has_ended moves.3.3

-- nothing was consumed
Consumes-nothing : (a b : Option (List ℕ)) → Keeps a b → Consumes a b []
Consumes-nothing a b keeps = Consumes-keeps a a b [] (Consumes-none a) keeps

pub Appends-same : (a b : Option (List ℕ)) → b ≡ a → Appends a b []
Appends-same a b is = subst (λ x. Appends a x []) (sym is) (Appends-none a)

Consumes-same : (a b : Option (List ℕ)) → b ≡ a → Consumes a b []
Consumes-same a b is = subst (λ x. Consumes a x []) (sym is) (Consumes-none a)

-- what was read is at its end
pub none_left : (a b : Option (List ℕ)) → IsAtEnd b → LeavesNone a b
none_left None b is = tt
none_left (Some bytes) b is = is

-- a read of none into some room
no_bytes : (n : ℕ) (bytes : List ℕ) → n ≤ length bytes → take n bytes ≡ [] → n ≡ 0
no_bytes n bytes within none = omega (arith, within, sym (length-take-le n bytes within) ∙ ap length none)

-- the first part of a room has room, if there may be some bytes
pub roomy : (a m n : ℕ) (room : List ℕ) → n ≡ length (take m room) → m ≡ min a (length room) → 0 < a → 0 < length room → 0 < n
roomy a m n room is most some given = subst (λ k. 0 < k) (sym (is ∙ length-take m room)) (le-min (subst (λ k. 0 < k) (sym most) (le-min some given)) given)

not_last : {A : Type 0} → false ≡ true → A
not_last h = absurd (wrong h)
  where
    wrong : ◌≡◌ {A = Bool} false true → ⊥
    wrong is = cc

module _ {W : Type 0} (left held : W → Option (List ℕ)) (old new : Kept W) where
  -- an event that brings no bytes, and whose texts wait now
  pub answered : (e : Event) → Moves old.place e new.place → bytes_in e ≡ [] → has_last (e ∷ []) ≡ false → old.unsent ≡ [] → new.unsent ≡ joined (text_in e) → new.wire ≡ old.wire → Exchanges left held old (e ∷ []) new
  answered e moves none goes_on taken texts wire = record {
    goes = (new.place, moves, refl);
    sent = [];
    wrote = Appends-same (held old.wire) (held new.wire) (ap held wire);
    order = ap (λ u. u ++ joined (text_in e ++ [])) taken ∙ ap joined (append-nil (text_in e)) ∙ sym texts;
    lost = [];
    read = subst (λ b. Consumes (left old.wire) (left new.wire) b) (sym (append-nil (bytes_in e ++ []) ∙ append-nil (bytes_in e) ∙ none)) (Consumes-same (left old.wire) (left new.wire) (ap left wire));
    loss = inl refl;
    over = λ last. not_last (sym goes_on ∙ last);
  }

  -- bytes of what waits were sent
  pub sends : (n : ℕ) → new.place ≡ old.place → Appends (held old.wire) (held new.wire) (take n old.unsent) → new.unsent ≡ drop n old.unsent → left new.wire ≡ left old.wire → take n old.unsent ++ drop n old.unsent ≡ old.unsent → Exchanges left held old [] new
  sends n place wrote rest same whole = record {
    goes = place;
    sent = take n old.unsent;
    wrote = wrote;
    order = append-nil old.unsent ∙ sym whole ∙ ap (λ r. take n old.unsent ++ r) (sym rest);
    lost = [];
    read = Consumes-same (left old.wire) (left new.wire) same;
    loss = inl refl;
    over = λ last. not_last last;
  }

  -- nothing happened but at the wire
  pub idle : new.place ≡ old.place → new.unsent ≡ old.unsent → Keeps (left old.wire) (left new.wire) → Appends (held old.wire) (held new.wire) [] → Exchanges left held old [] new
  idle place unsent keeps wrote = record {
    goes = place;
    sent = [];
    wrote = wrote;
    order = append-nil old.unsent ∙ sym unsent;
    lost = [];
    read = Consumes-nothing (left old.wire) (left new.wire) keeps;
    loss = inl refl;
    over = λ last. not_last last;
  }

  -- nothing was sent
  pub waits : new.place ≡ old.place → new.unsent ≡ old.unsent → left new.wire ≡ left old.wire → Keeps (held old.wire) (held new.wire) → Exchanges left held old [] new
  waits place unsent same keeps =
      idle place unsent (subst (λ x. Keeps (left old.wire) x) (sym same) (Keeps-same (left old.wire)))
      (Appends-keeps (held old.wire) (held old.wire) (held new.wire) [] (Appends-none (held old.wire)) keeps)

  -- the first bytes of a buffer with room came, or none at the end
  module _ (n : ℕ) (buf : List ℕ) (within : n ≤ length buf) (room : 0 < length buf) (taken : old.unsent ≡ []) (held_is : held new.wire ≡ held old.wire) (read : Receives (left old.wire) (left new.wire) (Ok (Some n)) buf) where
    abbrev bytes : List ℕ
    bytes = take n buf

    -- and the stream goes on
    pub goes_on : Moves old.place (Came bytes) new.place → new.unsent ≡ [] → Exchanges left held old (Came bytes ∷ []) new
    goes_on moves none = record {
      goes = (new.place, moves, refl);
      sent = [];
      wrote = Appends-same (held old.wire) (held new.wire) held_is;
      order = ap (λ u. u ++ []) taken ∙ sym none;
      lost = [];
      read = subst (λ b. Consumes (left old.wire) (left new.wire) b) (sym (append-nil (bytes ++ []) ∙ append-nil bytes)) read.0;
      loss = inl refl;
      over = λ last. not_last last;
    }

    at_end : bytes ≡ [] → LeavesNone (left old.wire) (left new.wire)
    at_end none = none_left (left old.wire) (left new.wire) (read.1 (no_bytes n buf within none) room)

    loss_of : (lost : List ℕ) (end : End) → new.place.state ≡ Ended end → ((bytes ≡ []) × (lost ≡ [])) ⊎ (end ≡ ReadFault) → (lost ≡ []) ⊎ (new.place.state ≡ Ended ReadFault)
    loss_of lost end state (inl none) = inl none.1
    loss_of lost end state (inr is) = inr (state ∙ ap Ended is)

    over_of : (lost : List ℕ) (end : End) → new.place.state ≡ Ended end → ((bytes ≡ []) × (lost ≡ [])) ⊎ (end ≡ ReadFault) → LeavesNone (left old.wire) (left new.wire) ⊎ (new.place.state ≡ Ended ReadFault)
    over_of lost end state (inl none) = inl (at_end none.0)
    over_of lost end state (inr is) = inr (state ∙ ap Ended is)

    -- and it has ended by a read of their front, or without one, if the reads are used up
    ended_by : (found lost : List ℕ) (end : End) → new.unsent ≡ joined (last_texts end) → bytes ≡ found ++ lost → ((bytes ≡ []) × (lost ≡ [])) ⊎ (end ≡ ReadFault) → ReadMoves old.place found (Some end) new.place
        → (events : List Event) × Exchanges left held old events new × AreReads events
    ended_by found lost end texts parts which (inl moves) = (
      Came found ∷ Ends end ∷ [],
      record {
        goes = (moves.0, moves.1, (new.place, moves.2, refl));
        sent = [];
        wrote = Appends-same (held old.wire) (held new.wire) held_is;
        order = ap (λ u. u ++ joined (last_texts end ++ [])) taken ∙ ap joined (append-nil (last_texts end)) ∙ sym texts;
        lost = lost;
        read = subst (λ b. Consumes (left old.wire) (left new.wire) b) (parts ∙ ap (λ f. f ++ lost) (sym (append-nil found))) read.0;
        loss = loss_of lost end moves.2.3 which;
        over = λ last. over_of lost end moves.2.3 which;
      },
      (tt, (tt, tt)),
    )
    ended_by found lost end texts parts which (inr moves) = (
      Ends end ∷ [],
      record {
        goes = (new.place, moves.3, refl);
        sent = [];
        wrote = Appends-same (held old.wire) (held new.wire) held_is;
        order = ap (λ u. u ++ joined (last_texts end ++ [])) taken ∙ ap joined (append-nil (last_texts end)) ∙ sym texts;
        lost = lost;
        read = subst (λ b. Consumes (left old.wire) (left new.wire) b) (parts ∙ ap (λ f. f ++ lost) moves.1) read.0;
        loss = loss_of lost end moves.3.3 which;
        over = λ last. over_of lost end moves.3.3 which;
      },
      (tt, tt),
    )

    pub ended : (end : End) → new.unsent ≡ joined (last_texts end) → TakesIn old.place bytes (Some end) new.place → (events : List Event) × Exchanges left held old events new × AreReads events
    ended end texts taken_in = ended_by taken_in.0 taken_in.1 end texts taken_in.2 taken_in.4 taken_in.3
