-- One exchange after another.
use Rattle.std.proofs.Common.{◌≡◌, ◌⊎◌, inl, inr, refl, sym, ap, ◌∙◌, subst, ℕ, Bool, true, false, List, [], ◌∷◌, ◌++◌, Option, None, Some, append_assoc, append-nil}
use Rattle.std.proofs.lemmas.Grind.{flat_map-append}
use Rattle.desk_http_messages.specs.Replies.{joined}
use Rattle.desk_http_messages.specs.declared.requests.End.TheVariants.{ReadFault}
use Rattle.desk_http.specs.declared.connection.State.{State}
use Rattle.desk_http.specs.declared.connection.State.TheVariants.{Due, Ended, Waits}
use Rattle.desk_http.specs.Connection.{Came, Ends, Event, Goes, Looked, Moves, Place, Refused, Replied, bytes_in, came, has_ended, has_last, is_waiting, text_in, written}
use Rattle.std.specs.Io.KnownBytes.{Consumes}
use Rattle.desk_http.proofs.KnownBytes.{Appends-append, Consumes-append}
use Rattle.desk_http_sessions.specs.Session.{Exchanges, Kept, LeavesNone}

wrong : ◌≡◌ {A = Bool} true false → ⊥
wrong h = cc

on_before : (s : State) → is_waiting s ≡ true → has_ended s ≡ false
on_before Due w = refl
on_before (Waits pending) w = refl
on_before (Ended end) w = absurd (wrong (sym w))

on_at : (p q : Place) (e : Event) → Moves p e q → has_ended p.state ≡ false
on_at p q (Came bytes) moves = on_before p.state moves.0
on_at p q Looked moves = moves.0
on_at p q (Replied m text) moves = moves.0
on_at p q (Refused fault) moves = moves.0
on_at p q (Ends end) moves = moves.0

-- nothing happens once a stream has ended
stays : (more : List Event) (p q : Place) → p.state ≡ Ended ReadFault → Goes p more q → q.state ≡ Ended ReadFault
stays [] p q ended goes = ap (λ (r : Place). r.state) goes ∙ ended
stays (e ∷ more) p q ended goes = absurd (wrong (sym (ap has_ended ended) ∙ on_at p goes.0 e goes.1))

goes_on : (events more : List Event) (p b q : Place) → Goes p events b → Goes b more q → Goes p (events ++ more) q
goes_on [] more p b q one other = subst (λ (r : Place). Goes r more q) one other
goes_on (e ∷ events) more p b q one other = (one.0, one.1, goes_on events more one.0 b q one.2 other)

came_both : (events more : List Event) → came (events ++ more) ≡ came events ++ came more
came_both events more = flat_map-append bytes_in events more

texts_both : (events more : List Event) → joined (written (events ++ more)) ≡ joined (written events) ++ joined (written more)
texts_both events more = ap joined (flat_map-append text_in events more) ∙ flat_map-append (λ text. text) (written events) (written more)

-- nothing happens once it has ended, so nothing comes
nothing_more : (more : List Event) (p q : Place) → p.state ≡ Ended ReadFault → Goes p more q → came more ≡ []
nothing_more [] p q ended goes = refl
nothing_more (e ∷ more) p q ended goes = absurd (wrong (sym (ap has_ended ended) ∙ on_at p goes.0 e goes.1))

-- a last event is among the first, or among those behind them
last_among : (events more : List Event) → has_last (events ++ more) ≡ true → (has_last events ≡ true) ⊎ (has_last more ≡ true)
last_among [] more last = inr last
last_among (Came bytes ∷ events) more last = last_among events more last
last_among (Looked ∷ events) more last = last_among events more last
last_among (Replied m text ∷ events) more last = last_among events more last
last_among (Refused fault ∷ events) more last = last_among events more last
last_among (Ends end ∷ events) more last = inl refl

-- where no byte was left, none is left later
end_of_front : (bs ys : List ℕ) → [] ≡ bs ++ ys → ys ≡ []
end_of_front [] ys is = sym is
end_of_front (b ∷ bs) ys is = absurd (none_more is)
  where
    none_more : [] ≡ b ∷ (bs ++ ys) → ⊥
    none_more h = cc

stays_none : (a b c : Option (List ℕ)) (xs bs : List ℕ) → Consumes a b xs → Consumes b c bs → LeavesNone a b → LeavesNone a c
stays_none None b c xs bs one other none = tt
stays_none (Some a) (Some b) (Some c) xs bs one other none = end_of_front bs c (sym none ∙ other)
stays_none (Some a) (Some b) None xs bs one other none = absurd other
stays_none (Some a) None c xs bs one other none = absurd one

then_none : (a b c : Option (List ℕ)) (xs : List ℕ) → Consumes a b xs → LeavesNone b c → LeavesNone a c
then_none None b c xs one none = tt
then_none (Some a) (Some b) c xs one none = none
then_none (Some a) None c xs one none = absurd one

-- the bytes of both, where nothing was lost at first, or nothing came then
in_order : (a lost b others : List ℕ) → (lost ≡ []) ⊎ (b ≡ []) → (a ++ lost) ++ (b ++ others) ≡ (a ++ b) ++ (lost ++ others)
in_order a lost b others (inl none) = ap (λ l. (a ++ l) ++ (b ++ others)) none ∙ ap (λ l. l ++ (b ++ others)) (append-nil a) ∙ sym (append_assoc a b others) ∙ ap (λ l. (a ++ b) ++ (l ++ others)) (sym none)
in_order a lost b others (inr none) = ap (λ l. (a ++ lost) ++ (l ++ others)) none ∙ append_assoc a lost others ∙ ap (λ l. l ++ (lost ++ others)) (sym (append-nil a) ∙ ap (λ l. a ++ l) (sym none))

module _ {W : Type 0} (left held : W → Option (List ℕ)) (old mid new : Kept W) (events more : List Event)
    (one : Exchanges left held old events mid) (other : Exchanges left held mid more new) where
  lost_first : (one.lost ≡ []) ⊎ (mid.place.state ≡ Ended ReadFault) → (one.lost ≡ []) ⊎ (came more ≡ [])
  lost_first (inl none) = inl none
  lost_first (inr ended) = inr (nothing_more more mid.place new.place ended other.goes)

  loss_both : (one.lost ≡ []) ⊎ (mid.place.state ≡ Ended ReadFault) → (other.lost ≡ []) ⊎ (new.place.state ≡ Ended ReadFault) → (one.lost ++ other.lost ≡ []) ⊎ (new.place.state ≡ Ended ReadFault)
  loss_both (inr ended) second = inr (stays more mid.place new.place ended other.goes)
  loss_both (inl none) (inr ended) = inr ended
  loss_both (inl none) (inl none_too) = inl (ap (λ l. l ++ other.lost) none ∙ none_too)

  over_first : LeavesNone (left old.wire) (left mid.wire) ⊎ (mid.place.state ≡ Ended ReadFault) → LeavesNone (left old.wire) (left new.wire) ⊎ (new.place.state ≡ Ended ReadFault)
  over_first (inl none) = inl (stays_none (left old.wire) (left mid.wire) (left new.wire) (came events ++ one.lost) (came more ++ other.lost) one.read other.read none)
  over_first (inr ended) = inr (stays more mid.place new.place ended other.goes)

  over_then : LeavesNone (left mid.wire) (left new.wire) ⊎ (new.place.state ≡ Ended ReadFault) → LeavesNone (left old.wire) (left new.wire) ⊎ (new.place.state ≡ Ended ReadFault)
  over_then (inl none) = inl (then_none (left old.wire) (left mid.wire) (left new.wire) (came events ++ one.lost) one.read none)
  over_then (inr ended) = inr ended

  over_both : (has_last events ≡ true) ⊎ (has_last more ≡ true) → LeavesNone (left old.wire) (left new.wire) ⊎ (new.place.state ≡ Ended ReadFault)
  over_both (inl last) = over_first (one.over last)
  over_both (inr last) = over_then (other.over last)

  pub follows : Exchanges left held old (events ++ more) new
  follows = record {
    goes = goes_on events more old.place mid.place new.place one.goes other.goes;
    sent = one.sent ++ other.sent;
    wrote = Appends-append (held old.wire) (held mid.wire) (held new.wire) one.sent other.sent one.wrote other.wrote;
    order = ap (λ x. old.unsent ++ x) (texts_both events more)
        ∙ sym (append_assoc old.unsent (joined (written events)) (joined (written more)))
        ∙ ap (λ x. x ++ joined (written more)) one.order
        ∙ append_assoc one.sent mid.unsent (joined (written more))
        ∙ ap (λ x. one.sent ++ x) other.order
        ∙ sym (append_assoc one.sent other.sent new.unsent);
    lost = one.lost ++ other.lost;
    read = subst (λ b. Consumes (left old.wire) (left new.wire) b)
        (in_order (came events) one.lost (came more) other.lost (lost_first one.loss) ∙ ap (λ l. l ++ (one.lost ++ other.lost)) (sym (came_both events more)))
        (Consumes-append (left old.wire) (left mid.wire) (left new.wire) (came events ++ one.lost) (came more ++ other.lost) one.read other.read);
    loss = loss_both one.loss other.loss;
    over = λ last. over_both (last_among events more last);
  }
