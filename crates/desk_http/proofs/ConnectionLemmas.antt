-- What a connection comes to through its events, and several beside one another.
use Rattle.std.proofs.Common.{◌≡◌, ◌⊎◌, inl, inr, refl, sym, ap, ◌∙◌, subst, ℕ, Bool, true, false, List, [], ◌∷◌, ◌++◌, All, append_assoc, append-nil}
use Rattle.std.specs.Prelude.{◌≢◌, ◌==◌, if◌then◌else◌}
use Rattle.std.specs.List.{flat_map}
use Rattle.std.proofs.lemmas.Bool.Decides.{eqb_tells}
use Rattle.std.proofs.lemmas.List.Elements.{All-cons, All-nil}
use Rattle.sqlite_trees.specs.declared.store.Store.{Ghosts}
use Rattle.desk_store.specs.Desk.{HasGoodDisk, History, StandsAt}
use Rattle.desk_http_messages.specs.declared.requests.End.{End}
use Rattle.desk_http_messages.specs.declared.requests.End.TheVariants.{Bad, Closed, Input, Memory, ReadFault, WriteFault}
use Rattle.desk_http_messages.specs.declared.requests.StreamFault.{StreamFault}
use Rattle.desk_http_messages.specs.Head.{ends_stream}
use Rattle.desk_http_messages.specs.Replies.{last_texts}
use Rattle.desk_http_messages.specs.Stream.{EndsSo, GoesOn, HasFault, IsMessage, Message, print_message}
use Rattle.desk_http.specs.declared.connection.State.{State}
use Rattle.desk_http.specs.declared.connection.State.TheVariants.{Due, Ended, Waits}
use Rattle.desk_http.specs.Answering.{Serves}
use Rattle.desk_http.specs.Connection.{AtDesk, Came, DeskGoes, Ends, Event, Goes, HasEndedSo, IsLast, IsLeft, IsServed, Looked, Moves, Place, Refused, Replied, after_reply, answered, came, fresh, happened, has_ended, has_last, is_waiting, last_in, own, replies, written}
use Rattle.desk_http.specs.Laws.{InterleavingsGoOn, InterleavingsServe, SteppingServes}
use Rattle.desk_http.proofs.RunLemmas.{Serves-append, Serves-none}

wrong : ◌≡◌ {A = Bool} true false → ⊥
wrong h = cc

-- a stream whose bytes wait has not ended
on_before : (s : State) → is_waiting s ≡ true → has_ended s ≡ false
on_before Due w = refl
on_before (Waits pending) w = refl
on_before (Ended end) w = absurd (wrong (sym w))

-- what happens at a connection happens before its stream has ended
on_at : (p q : Place) (e : Event) → Moves p e q → has_ended p.state ≡ false
on_at p q (Came bytes) moves = on_before p.state moves.0
on_at p q Looked moves = moves.0
on_at p q (Replied m text) moves = moves.0
on_at p q (Refused fault) moves = moves.0
on_at p q (Ends end) moves = moves.0

-- nothing happens after that
stopped : (events : List Event) (p q : Place) → has_ended p.state ≡ true → Goes p events q → (events ≡ []) × (q ≡ p)
stopped [] p q ended goes = (refl, goes)
stopped (e ∷ events) p q ended goes = absurd (wrong (sym ended ∙ on_at p goes.0 e goes.1))

-- what events from one place to another come to
record Leads (p : Place) (events : List Event) (q : Place) : Type 0 where
  whole : p.waiting ++ came events ≡ flat_map print_message (answered events) ++ q.waiting
  each : All IsMessage (answered events)
  left : (more : List ℕ) → (has_last events ≡ true → more ≡ []) → IsLeft q.state (answered events) (q.waiting ++ more)
  written_are : written events ≡ replies events ++ last_in q.state

none_on : GoesOn []
none_on = All-nil (λ (k : Message). ends_stream k.head ≡ false)

left_on : (s : State) (rest : List ℕ) → has_ended s ≡ false → IsLeft s [] rest
left_on Due rest on = none_on
left_on (Waits pending) rest on = none_on
left_on (Ended end) rest on = absurd (wrong on)

none_last : (s : State) → has_ended s ≡ false → [] ≡ last_in s
none_last Due on = refl
none_last (Waits pending) on = refl
none_last (Ended end) on = absurd (wrong on)

leads_none : (p q : Place) → has_ended p.state ≡ false → q ≡ p → Leads p [] q
leads_none p q on is = subst (λ (r : Place). Leads p [] r) (sym is) (record {
  whole = append-nil p.waiting;
  each = All-nil IsMessage;
  left = λ more last. left_on p.state (p.waiting ++ more) on;
  written_are = none_last p.state on;
})

goes_cons : (m : Message) (messages : List Message) → ends_stream m.head ≡ false → GoesOn messages → GoesOn (m ∷ messages)
goes_cons m messages on left = All-cons (λ (k : Message). ends_stream k.head ≡ false) m messages on left

left_cons : (s : State) (m : Message) (messages : List Message) (rest : List ℕ) → ends_stream m.head ≡ false → IsLeft s messages rest → IsLeft s (m ∷ messages) rest
left_cons Due m messages rest on left = goes_cons m messages on left
left_cons (Waits pending) m messages rest on left = goes_cons m messages on left
left_cons (Ended Input) m messages rest on left = (goes_cons m messages on left.0, left.1)
left_cons (Ended Closed) m messages rest on left = (m ∷ left.0, left.1, ap (λ l. m ∷ l) left.2, goes_cons m left.0 on left.3, left.4)
left_cons (Ended (Bad fault)) m messages rest on left = (goes_cons m messages on left.0, left.1)
left_cons (Ended ReadFault) m messages rest on left = goes_cons m messages on left
left_cons (Ended WriteFault) m messages rest on left = absurd left
left_cons (Ended Memory) m messages rest on left = absurd left

-- how a stream is left by bytes with which it ends
last_left : (end : End) (bytes : List ℕ) → IsLast bytes end → HasEndedSo end [] bytes
last_left Input bytes last = last
last_left Closed bytes last = absurd last
last_left (Bad fault) bytes last = last
last_left ReadFault bytes last = none_on
last_left WriteFault bytes last = absurd last
last_left Memory bytes last = absurd last

module _ (p b q : Place) (events : List Event) where
  came_before : (bytes : List ℕ) → b.waiting ≡ p.waiting ++ bytes → Leads b events q → Leads p (Came bytes ∷ events) q
  came_before bytes is l = record {
    whole = sym (append_assoc p.waiting bytes (came events)) ∙ ap (λ x. x ++ came events) (sym is) ∙ l.whole;
    each = l.each;
    left = l.left;
    written_are = l.written_are;
  }

  looked_before : b.waiting ≡ p.waiting → Leads b events q → Leads p (Looked ∷ events) q
  looked_before is l = record {
    whole = ap (λ x. x ++ came events) (sym is) ∙ l.whole;
    each = l.each;
    left = l.left;
    written_are = l.written_are;
  }

  replied_before : (m : Message) (text : List ℕ) → IsMessage m → p.waiting ≡ print_message m ++ b.waiting → ends_stream m.head ≡ false → Leads b events q → Leads p (Replied m text ∷ events) q
  replied_before m text valid front on l = record {
    whole = ap (λ x. x ++ came events) front ∙ append_assoc (print_message m) b.waiting (came events)
        ∙ ap (λ x. print_message m ++ x) l.whole ∙ sym (append_assoc (print_message m) (flat_map print_message (answered events)) q.waiting);
    each = All-cons IsMessage m (answered events) valid l.each;
    left = λ more last. left_cons q.state m (answered events) (q.waiting ++ more) on (l.left more last);
    written_are = ap (λ x. text ∷ x) l.written_are;
  }

  -- what ends a stream is the last event
  only : (e : Event) → has_ended b.state ≡ true → Goes b events q → Leads p (e ∷ []) b → Leads p (e ∷ events) q
  only e ended goes l =
      let stop = stopped events b q ended goes in
      subst (λ (es : List Event). Leads p (e ∷ es) q) (sym stop.0) (subst (λ (r : Place). Leads p (e ∷ []) r) (sym stop.1) l)

module _ (p b : Place) where
  replied_last : (m : Message) (text : List ℕ) → IsMessage m → p.waiting ≡ print_message m ++ b.waiting → ends_stream m.head ≡ true → b.state ≡ Ended Closed → Leads p (Replied m text ∷ []) b
  replied_last m text valid front ends state = record {
    whole = append-nil p.waiting ∙ front ∙ ap (λ x. x ++ b.waiting) (sym (append-nil (print_message m)));
    each = All-cons IsMessage m [] valid (All-nil IsMessage);
    left = λ more last. subst (λ (s : State). IsLeft s (m ∷ []) (b.waiting ++ more)) (sym state) ([], m, refl, none_on, ends);
    written_are = ap (λ (s : State). text ∷ last_in s) (sym state);
  }

  refused_last : (fault : StreamFault) → ((more : List ℕ) → HasFault (p.waiting ++ more) fault) → b.waiting ≡ p.waiting → b.state ≡ Ended (Bad fault) → Leads p (Refused fault ∷ []) b
  refused_last fault always is state = record {
    whole = append-nil p.waiting ∙ sym is;
    each = All-nil IsMessage;
    left = λ more last. subst (λ (s : State). IsLeft s [] (b.waiting ++ more)) (sym state) (none_on, subst (λ x. HasFault (x ++ more) fault) (sym is) (always more));
    written_are = append-nil (last_texts (Bad fault)) ∙ ap last_in (sym state);
  }

  ends_last : (end : End) → IsLast p.waiting end → b.waiting ≡ p.waiting → b.state ≡ Ended end → Leads p (Ends end ∷ []) b
  ends_last end waits is state = record {
    whole = append-nil p.waiting ∙ sym is;
    each = All-nil IsMessage;
    left = λ more last.
        let rest : p.waiting ≡ b.waiting ++ more = sym (ap (λ x. b.waiting ++ x) (last refl) ∙ append-nil b.waiting ∙ is) in
        subst (λ (s : State). IsLeft s [] (b.waiting ++ more)) (sym state) (subst (λ x. HasEndedSo end [] x) rest (last_left end p.waiting waits));
    written_are = append-nil (last_texts end) ∙ ap last_in (sym state);
  }

-- a reply, behind which the stream ends or not
replied : (ends : Bool) (p b q : Place) (m : Message) (text : List ℕ) (events : List Event) → ends_stream m.head ≡ ends → Moves p (Replied m text) b → Goes b events q → (has_ended b.state ≡ false → Leads b events q) → Leads p (Replied m text ∷ events) q
replied false p b q m text events is moves goes later =
    replied_before p b q events m text moves.1 moves.2 is (later (ap has_ended (moves.3 ∙ ap after_reply is)))
replied true p b q m text events is moves goes later =
    let state : b.state ≡ Ended Closed = moves.3 ∙ ap after_reply is in
    only p b q events (Replied m text) (ap has_ended state) goes (replied_last p b m text moves.1 moves.2 is state)

leads : (events : List Event) (p q : Place) → has_ended p.state ≡ false → Goes p events q → Leads p events q
leads [] p q on goes = leads_none p q on goes
leads (Came bytes ∷ events) p q on (b, moves, goes) = came_before p b q events bytes moves.2 (leads events b q moves.3 goes)
leads (Looked ∷ events) p q on (b, moves, goes) = looked_before p b q events moves.1 (leads events b q (on_before b.state moves.2) goes)
leads (Replied m text ∷ events) p q on (b, moves, goes) = replied (ends_stream m.head) p b q m text events refl moves goes (λ (goes_on : has_ended b.state ≡ false). leads events b q goes_on goes)
leads (Refused fault ∷ events) p q on (b, moves, goes) =
    only p b q events (Refused fault) (ap has_ended moves.3) goes (refused_last p b fault moves.1 moves.2 moves.3)
leads (Ends end ∷ events) p q on (b, moves, goes) =
    only p b q events (Ends end) (ap has_ended moves.3) goes (ends_last p b end moves.1 moves.2 moves.3)

is_served : (events : List Event) (p : Place) → Goes fresh events p → IsServed events p
is_served events p goes =
    let l = leads events fresh p refl goes in
    record { splits = record { whole = l.whole; each = l.each }; left = l.left; written_are = l.written_are }

ended_so : (end : End) (messages : List Message) (rest : List ℕ) → end ≢ ReadFault → HasEndedSo end messages rest → EndsSo messages rest end
ended_so Input messages rest read left = left
ended_so Closed messages rest read left = left
ended_so (Bad fault) messages rest read left = left
ended_so ReadFault messages rest read left = absurd (read refl)
ended_so WriteFault messages rest read left = absurd left
ended_so Memory messages rest read left = absurd left

module _ {S : Type 0} (good : S → Type 0) (stands : S → History → History → Type 0) where
  -- the desk is one after a run
  desk_run : (events : List Event) (old new : S) → DeskGoes good stands old events new → Serves good stands old (answered events) (replies events) new
  desk_run [] old new goes = subst (λ d. Serves good stands old [] [] d) (sym goes) (Serves-none good stands old)
  desk_run (Came bytes ∷ events) old new (between, same, goes) = subst (λ d. Serves good stands d (answered events) (replies events) new) same (desk_run events between new goes)
  desk_run (Looked ∷ events) old new (between, same, goes) = subst (λ d. Serves good stands d (answered events) (replies events) new) same (desk_run events between new goes)
  desk_run (Replied m text ∷ events) old new (between, one, goes) =
      Serves-append good stands old between new (m ∷ []) (answered events) (text ∷ []) (replies events) one (desk_run events between new goes)
  desk_run (Refused fault ∷ events) old new (between, same, goes) = subst (λ d. Serves good stands d (answered events) (replies events) new) same (desk_run events between new goes)
  desk_run (Ends end ∷ events) old new (between, same, goes) = subst (λ d. Serves good stands d (answered events) (replies events) new) same (desk_run events between new goes)

  -- one event more
  desk_push : (events : List (ℕ × Event)) (i : ℕ) (e : Event) (old mid new : S) → DeskGoes good stands old (happened events) mid → AtDesk good stands mid e new → DeskGoes good stands old (happened (events ++ (i, e) ∷ [])) new
  desk_push [] i e old mid new goes one = (new, subst (λ d. AtDesk good stands d e new) goes one, refl)
  desk_push (x ∷ events) i e old mid new goes one = (goes.0, goes.1, desk_push events i e goes.0 mid new goes.2 one)

goes_push : (events : List Event) (p q r : Place) (e : Event) → Goes p events q → Moves q e r → Goes p (events ++ e ∷ []) r
goes_push [] p q r e goes moves = (r, subst (λ (x : Place). Moves x e r) goes moves, refl)
goes_push (x ∷ events) p q r e goes moves = (goes.0, goes.1, goes_push events goes.0 q r e goes.2 moves)

abbrev own_if : Bool → Event → List Event → List Event
own_if b e events = if b then e ∷ events else events

own_one : (b : Bool) (e : Event) (events tail : List Event) → own_if b e (events ++ tail) ≡ own_if b e events ++ tail
own_one true e events tail = refl
own_one false e events tail = refl

own_push : (events : List (ℕ × Event)) (j i : ℕ) (e : Event) → own j (events ++ (i, e) ∷ []) ≡ own j events ++ own_if (j == i) e []
own_push [] j i e = refl
own_push (x ∷ events) j i e = ap (own_if (j == x.0) x.1) (own_push events j i e) ∙ own_one (j == x.0) x.1 (own j events) (own_if (j == i) e [])

-- a connection, as another or it goes on
one_goes : (events : List (ℕ × Event)) (places others : ℕ → Place) (i j : ℕ) (e : Event) → Goes fresh (own j events) (places j) → Moves (places i) e (others i) → ((k : ℕ) → k ≢ i → others k ≡ places k)
    → (((j == i) ≡ true) × (j ≡ i)) ⊎ (((j == i) ≡ false) × (j ≢ i)) → Goes fresh (own j (events ++ (i, e) ∷ [])) (others j)
one_goes events places others i j e goes moves same (inl (is, here)) =
    let all = own_push events j i e ∙ ap (λ b. own j events ++ own_if b e []) is in
    let there = subst (λ k. Moves (places k) e (others k)) (sym here) moves in
    subst (λ (es : List Event). Goes fresh es (others j)) (sym all) (goes_push (own j events) fresh (places j) (others j) e goes there)
one_goes events places others i j e goes moves same (inr (is, elsewhere)) =
    let all = own_push events j i e ∙ ap (λ b. own j events ++ own_if b e []) is ∙ append-nil (own j events) in
    subst (λ (es : List Event). Goes fresh es (others j)) (sym all) (subst (λ (r : Place). Goes fresh (own j events) r) (sym (same j elsewhere)) goes)

module _ {S V : Type 0} (g : Ghosts S) where
  pub stepping_serves : SteppingServes S V g
  stepping_serves old new events p end stream goes desk state read cut =
      let l = leads events fresh p refl goes in
      let more = cut.0 in
      let rest = p.waiting ++ more in
      record {
        messages = answered events;
        rest = rest;
        replies = replies events;
        splits = record {
          whole = cut.1 ∙ ap (λ x. x ++ more) l.whole ∙ append_assoc (flat_map print_message (answered events)) p.waiting more;
          each = l.each;
        };
        ends = ended_so end (answered events) rest read (subst (λ (s : State). IsLeft s (answered events) rest) state (l.left more cut.2));
        run = desk_run (HasGoodDisk g) (StandsAt g) events old new desk;
        texts_are = l.written_are ∙ ap (λ (s : State). replies events ++ last_in s) state;
      }

  pub interleavings_serve : InterleavingsServe S V g
  interleavings_serve old new events places it =
      (desk_run (HasGoodDisk g) (StandsAt g) (happened events) old new it.desk, λ i. is_served (own i events) (places i) (it.each i))

  pub interleavings_go_on : InterleavingsGoOn S V g
  interleavings_go_on old mid new events places others i e it one moves same = record {
    desk = desk_push (HasGoodDisk g) (StandsAt g) events i e old mid new it.desk one;
    each = λ j. one_goes events places others i j e (it.each j) moves same (eqb_tells j i);
  }
