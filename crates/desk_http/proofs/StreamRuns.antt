-- The replies to messages are a run of the desk.
use Rattle.std.proofs.Common.{◌≡◌, ◌∙◌, ap, inl, inr, refl, subst, sym, ℕ, Bool, true, false, List, [], ◌∷◌, ◌++◌, Contains, None, Option, Some, append-nil, arith, is_none}
use Rattle.std.specs.Prelude.{if◌then◌else◌}
use Rattle.std.specs.Fmt.{digits}
use Rattle.std.specs.List.{cons_option}
use Rattle.std.proofs.lemmas.List.Concat.{flat_map-append}
use Rattle.std.proofs.lemmas.List.Elements.{Contains-append_cases, Contains-append_left, Contains-append_right}
use Rattle.sqlite_trees.specs.declared.store.Store.{Ghosts}
use Rattle.desk_core.specs.Edit.{Already, Answer, Edit, Pending, Proposed, Refused, Stored}
use Rattle.desk_core.specs.History.{Exchange, Run, history_after, history_through, standing_of}
use Rattle.desk_core.specs.Judging.{Answers, first_case}
use Rattle.desk_core.specs.declared.edit.Refusal.TheVariants as refusal
use Rattle.desk_store.specs.Desk.{History}
use Rattle.desk_http_messages.specs.Asked.{Asked, asked_by}
use Rattle.desk_http_messages.specs.Head.{ends_stream}
use Rattle.desk_http_messages.specs.Replies.{Reply, memory_reply, print_reply}
use Rattle.desk_http_messages.specs.Stream.{Message}
use Rattle.desk_http_requests.specs.Calls.{Asks, Puts, Query, edit_in, first_fault, query_asked}
use Rattle.desk_http_requests.specs.declared.faults.RequestFault.{RequestFault}
use Rattle.desk_http.specs.Answering.{Answered, EditReplyIf, MayStand, OrdinaryReply, QueryReply, Replies, edit_asked, edit_by}
use Rattle.desk_http.specs.Edits.{UnansweredReply, answer_reply}
use Rattle.desk_http.specs.Laws.{AreUnrefused, IsRunOf, RepliesAreARun, edit_done, edit_replied, edit_unanswered, edits_done, edits_replied, edits_unanswered, has_status, is_done}
use Rattle.desk_http.specs.Replies.{store_reply}
use Rattle.desk_http.proofs.AnswerLemmas.{query_edit}

-- the statuses of replies
answer_status : (ends : Bool) (answer : Answer) → has_status 200 (print_reply ends (answer_reply answer)) ≡ is_done (Some answer)
unfolding print_reply digits
answer_status ends (Stored rev) = refl
answer_status ends (Proposed rev) = refl
answer_status ends (Already rev) = refl
answer_status ends (Pending rev) = refl
answer_status ends (Refused (refusal.Fault fault)) = refl
answer_status ends (Refused refused) = refl

memory_status : (ends : Bool) → (has_status 200 (print_reply ends memory_reply) ≡ false) × (has_status 503 (print_reply ends memory_reply) ≡ true)
unfolding print_reply digits
memory_status ends = (refl, refl)

store_status : (ends : Bool) → (has_status 200 (print_reply ends store_reply) ≡ false) × (has_status 503 (print_reply ends store_reply) ≡ true)
unfolding print_reply digits
store_status ends = (refl, refl)

unanswered_status : (ends : Bool) (old : History) (e : Edit) (reply : Reply) → UnansweredReply old e reply → (has_status 200 (print_reply ends reply) ≡ false) × (has_status 503 (print_reply ends reply) ≡ true)
unanswered_status ends old e reply (first, inl memory) =
    subst (λ (r : Reply). (has_status 200 (print_reply ends r) ≡ false) × (has_status 503 (print_reply ends r) ≡ true)) (sym memory) (memory_status ends)
unanswered_status ends old e reply (first, inr store) =
    subst (λ (r : Reply). (has_status 200 (print_reply ends r) ≡ false) × (has_status 503 (print_reply ends r) ≡ true)) (sym store.0) (store_status ends)

-- no edit is in an empty list
in_none : (e : Edit) → Contains [] e → ⊥
in_none e (k, below, is) = absurd (omega arith)

-- a run goes on
Run-append : (old : History) (made more : List Exchange) → Run old made (history_through old made) → Run (history_through old made) more (history_through (history_through old made) more) → Run old (made ++ more) (history_through old (made ++ more))
Run-append old [] more run next = next
Run-append old (x ∷ made) more run next = (run.0, Run-append (history_after old x) made more run.1 next)

AreUnrefused-append : (old : History) (made more : List Exchange) → AreUnrefused old made → AreUnrefused (history_through old made) more → AreUnrefused old (made ++ more)
AreUnrefused-append old [] more first next = next
AreUnrefused-append old (x ∷ made) more first next = (first.0, AreUnrefused-append (history_after old x) made more first.1 next)

-- what one reply comes to, with the exchange that was made for it
record ComesTo (old : History) (m : Message) (text : List ℕ) (own : List Exchange) : Type 0 where
  run : Run old own (history_through old own)
  done : edit_replied 200 m text ≡ edits_done own
  unanswered : (e : Edit) → Contains (edits_unanswered own) e → Contains (edit_replied 503 m text) e
  unrefused : AreUnrefused old own

abbrev none_if : Bool → List Edit
none_if b = if b then [] else []

none_if_is : (b : Bool) → none_if b ≡ []
none_if_is true = refl
none_if_is false = refl

module _ (old : History) (m : Message) (text : List ℕ) where
  -- a message that asks for no edit
  not_asked : edit_asked (asked_by m) ≡ None → edit_replied 200 m text ≡ []
  not_asked none = ap (λ (o : Option Edit). if has_status 200 text then cons_option o [] else []) none ∙ none_if_is (has_status 200 text)

  -- a reply with another status
  not_status : has_status 200 text ≡ false → edit_replied 200 m text ≡ []
  not_status is = ap (λ (b : Bool). if b then cons_option (edit_asked (asked_by m)) [] else []) is

  -- a reply for which no exchange was made
  nothing_made : (own : List Exchange) → own ≡ [] → edit_replied 200 m text ≡ [] → ComesTo old m text own
  nothing_made own none not_told = record {
    run = subst (λ (l : List Exchange). Run old l (history_through old l)) (sym none) refl;
    done = not_told ∙ sym (ap edits_done none);
    unanswered = λ e has. absurd (in_none e (subst (λ (l : List Exchange). Contains (edits_unanswered l) e) none has));
    unrefused = subst (λ (l : List Exchange). AreUnrefused old l) (sym none) tt;
  }

  -- the reply to an edit by its answer
  answered_once : (e : Edit) (answer : Answer) → edit_asked (asked_by m) ≡ Some e → Answers (standing_of old) e answer → has_status 200 text ≡ is_done (Some answer) → ComesTo old m text (record { edit = e; answer = Some answer } ∷ [])
  answered_once e answer asks right status = record {
    run = (right, refl);
    done = ap (λ (b : Bool). if b then cons_option (edit_asked (asked_by m)) [] else []) status
        ∙ ap (λ (o : Option Edit). if is_done (Some answer) then cons_option o [] else []) asks
        ∙ sym (append-nil (edit_done (record { edit = e; answer = Some answer })));
    unanswered = λ f has. absurd (in_none f has);
    unrefused = (λ none. absurd (cc), tt);
  }

  -- the reply to an edit without an answer
  unanswered_once : (e : Edit) → edit_asked (asked_by m) ≡ Some e → first_case (standing_of old) e ≡ None → (has_status 200 text ≡ false) × (has_status 503 text ≡ true) → ComesTo old m text (record { edit = e; answer = None } ∷ [])
  unanswered_once e asks first status =
      let here : edit_replied 503 m text ≡ e ∷ [] = ap (λ (b : Bool). if b then cons_option (edit_asked (asked_by m)) [] else []) status.1 ∙ ap (λ (o : Option Edit). cons_option o []) asks in
      record {
        run = (tt, refl);
        done = not_status status.0;
        unanswered = λ f has. subst (λ (l : List Edit). Contains l f) (sym here) has;
        unrefused = (λ none. first, tt);
      }

module _ (old : History) (m : Message) (reply : Reply) (own : List Exchange) where
  abbrev a : Asked
  a = asked_by m

  abbrev ends : Bool
  ends = ends_stream m.head

  abbrev printed : List ℕ
  printed = print_reply ends reply

  by_edit : (edit : Option Edit) (file : List ℕ) (base : ℕ) → first_fault a ≡ None → query_asked a ≡ Some (Puts file base) → edit_in a file base ≡ edit → EditReplyIf old edit reply own → ComesTo old m printed own
  by_edit None file base free asks edits ordinary = absurd ordinary
  by_edit (Some e) file base free asks edits (answer, right, told, made) =
      subst (λ (l : List Exchange). ComesTo old m printed l) (sym made)
      (answered_once old m printed e answer (query_edit a (Some (Puts file base)) free asks ∙ edits) right
      (ap (λ (r : Reply). has_status 200 (print_reply ends r)) told ∙ answer_status ends answer))

  by_query : (query : Option Query) → first_fault a ≡ None → query_asked a ≡ query → QueryReply a query old reply own → ComesTo old m printed own
  by_query None free asks ordinary = absurd ordinary
  by_query (Some (Asks question credential)) free asks (told, none) =
      nothing_made old m printed own none (not_asked old m printed (query_edit a (Some (Asks question credential)) free asks))
  by_query (Some (Puts file base)) free asks ordinary = by_edit (edit_in a file base) file base free asks refl ordinary

  by_fault : (fault : Option RequestFault) → first_fault a ≡ fault → OrdinaryReply a fault old reply own → ComesTo old m printed own
  by_fault (Some fault) is (told, none) =
      nothing_made old m printed own none (not_asked old m printed (ap (λ (f : Option RequestFault). if is_none f then edit_by a (query_asked a) else None) is))
  by_fault None is ordinary = by_query (query_asked a) is refl ordinary

  in_place : MayStand a old reply own → ComesTo old m printed own
  in_place (inl (told, none)) = nothing_made old m printed own none (not_status old m printed (ap (λ (r : Reply). has_status 200 (print_reply ends r)) told ∙ (memory_status ends).0))
  in_place (inr (inl (free, takes, told, none))) =
      nothing_made old m printed own none (not_status old m printed (ap (λ (r : Reply). has_status 200 (print_reply ends r)) told ∙ (store_status ends).0))
  in_place (inr (inr (e, asks, lacks, made))) =
      subst (λ (l : List Exchange). ComesTo old m printed l) (sym made)
      (unanswered_once old m printed e asks lacks.0 (unanswered_status ends old e reply lacks))

  comes_to : Answered a old reply own → ComesTo old m printed own
  comes_to (inl ordinary) = by_fault (first_fault a) refl ordinary
  comes_to (inr other) = in_place other

-- one message before others
one_before : (old : History) (m : Message) (text : List ℕ) (own : List Exchange) (messages : List Message) (texts : List (List ℕ)) (later : List Exchange) → ComesTo old m text own → IsRunOf (history_through old own) messages texts later → IsRunOf old (m ∷ messages) (text ∷ texts) (own ++ later)
one_before old m text own messages texts later once next = record {
  run = Run-append old own later once.run next.run;
  done = ap (λ (l : List Edit). l ++ edits_replied 200 messages texts) once.done ∙ ap (λ (l : List Edit). edits_done own ++ l) next.done ∙ sym (flat_map-append edit_done own later);
  unanswered = λ e has. elim (Contains-append_cases (edits_unanswered own) (edits_unanswered later) e (subst (λ (l : List Edit). Contains l e) (flat_map-append edit_unanswered own later) has)) [
    | inl first ↦ Contains-append_left (edit_replied 503 m text) (edits_replied 503 messages texts) e (once.unanswered e first)
    | inr others ↦ Contains-append_right (edit_replied 503 m text) (edits_replied 503 messages texts) e (next.unanswered e others)
  ];
  unrefused = AreUnrefused-append old own later once.unrefused next.unrefused;
}

run_of : (old : History) (messages : List Message) (texts : List (List ℕ)) (made : List Exchange) → Replies old messages texts made → IsRunOf old messages texts made
run_of old [] [] made none = record {
  run = subst (λ (l : List Exchange). Run old l (history_through old l)) (sym none) refl;
  done = sym (ap edits_done none);
  unanswered = λ e has. absurd (in_none e (subst (λ (l : List Exchange). Contains (edits_unanswered l) e) none has));
  unrefused = subst (λ (l : List Exchange). AreUnrefused old l) (sym none) tt;
}
run_of old (m ∷ messages) (text ∷ texts) made (own, later, reply, answered, is, all, rest) =
    let once : ComesTo old m text own = subst (λ (t : List ℕ). ComesTo old m t own) (sym is) (comes_to old m reply own answered) in
    subst (λ (l : List Exchange). IsRunOf old (m ∷ messages) (text ∷ texts) l) (sym all)
    (one_before old m text own messages texts later once (run_of (history_through old own) messages texts later rest))
run_of old [] (text ∷ texts) made replies = absurd replies
run_of old (m ∷ messages) [] made replies = absurd replies

pub replies_are_a_run : {S V : Type 0} (g : Ghosts S) → RepliesAreARun S V g
replies_are_a_run g old new messages texts history pending serves clean at =
    let it = serves.step clean history pending at in
    (it.0, run_of history messages texts it.0 it.1, it.2)
