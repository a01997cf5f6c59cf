-- How a connection goes on, and how it ends.
use Rattle.std.proofs.Common.{◌≡◌, ℕ, ◌+◌, ◌<◌, ◌⊎◌, inl, inr, Bool, true, false, List, [], ◌∷◌, ◌++◌, length, take, Option, Some, refl, sym, ap, ◌∙◌, subst, append_assoc, append-nil, length-append}
use Rattle.std.specs.List.{flat_map}
use Rattle.std.specs.Io.KnownBytes.{Consumes, Appends, Keeps, IsAtEnd}
use Rattle.std.proofs.lemmas.List.{length_push}
use Rattle.std.proofs.lemmas.List.Concat.{flat_map-append}
use Rattle.std.proofs.lemmas.List.Elements.{All-push, All-nil}
use Rattle.desk_http_messages.specs.declared.requests.StreamFault.{StreamFault}
use Rattle.desk_http_messages.specs.declared.requests.End.{End}
use Rattle.desk_http_messages.specs.declared.requests.End.TheVariants.{Input, Closed, Bad, ReadFault, WriteFault, Memory}
use Rattle.desk_http_messages.specs.declared.requests.Served.{Served}
use Rattle.desk_http_messages.specs.Head.{ends_stream}
use Rattle.desk_http_messages.specs.Stream.{Message, IsMessage, print_message, Splits, GoesOn, ClosesAfter, HasFault}
use Rattle.desk_core.specs.History.{Exchange, history_after, history_through, standing_of}
use Rattle.desk_store.specs.Desk.{History, pending_after}
use Rattle.desk_store.specs.Laws.{pending_through}
use Rattle.desk_http_messages.specs.Asked.{asked_by}
use Rattle.desk_http_messages.specs.Replies.{Reply, print_reply, fault_reply, joined}
use Rattle.desk_http.specs.Answering.{Answered, ArePrinted, Replies, Serves}
use Rattle.desk_http.specs.Serving.{IsReplyTo, AnswersAll, AnswersBefore, AnswersInPart, CutReply, SessionOf}
use Rattle.desk_http.specs.Connection.{IsLast, Place, ReadMoves}
use Rattle.desk_http.specs.PrivateAnswering.{AnswersMessage}
use Rattle.desk_http.specs.PrivateServing.{EndsBy, Refuses}
use Rattle.desk_http.proofs.KnownBytes.{Appends-append, Appends-keeps, Appends-none, Consumes-append, Consumes-none}
use Rattle.desk_http.proofs.Progress.{Progress}

pub joined-push : (texts : List (List ℕ)) (text : List ℕ) → joined (texts ++ text ∷ []) ≡ joined texts ++ text
joined-push texts text = flat_map-append (λ (t : List ℕ). t) texts (text ∷ []) ∙ ap (λ l. joined texts ++ l) (append-nil text)

-- one more message, and what follows it
pub printed-push : (messages : List Message) (m : Message) (rest : List ℕ) → flat_map print_message (messages ++ m ∷ []) ++ rest ≡ flat_map print_message messages ++ (print_message m ++ rest)
printed-push messages m rest =
    ap (λ l. l ++ rest) (flat_map-append print_message messages (m ∷ []) ∙ ap (λ l. flat_map print_message messages ++ l) (append-nil (print_message m)))
    ∙ append_assoc (flat_map print_message messages) (print_message m) rest

-- the history after more exchanges
pub through-append : (history : History) (made more : List Exchange) → history_through history (made ++ more) ≡ history_through (history_through history made) more
through-append history [] more = refl
through-append history (x ∷ made) more = through-append (history_after history x) made more

-- replies of two runs, one after the other
pub Replies-append : (old : History) (messages others : List Message) (texts more : List (List ℕ)) (made next : List Exchange) → Replies old messages texts made → Replies (history_through old made) others more next → Replies old (messages ++ others) (texts ++ more) (made ++ next)
Replies-append old [] others [] more made next run goes =
    subst (λ (l : List Exchange). Replies old others more (l ++ next)) (sym run) (subst (λ (l : List Exchange). Replies (history_through old l) others more next) run goes)
Replies-append old (k ∷ messages) others (t ∷ texts) more made next (own, later, reply, answered, is, all, run) goes = (
  own,
  later ++ next,
  reply,
  answered,
  is,
  ap (λ (l : List Exchange). l ++ next) all ∙ append_assoc own later next,
  Replies-append (history_through old own) messages others texts more later next run
      (subst (λ (h : History). Replies h others more next) (ap (history_through old) all ∙ through-append old own later) goes),
)
Replies-append old [] others (t ∷ texts) more made next run goes = absurd run
Replies-append old (k ∷ messages) others [] more made next run goes = absurd run

-- one reply
Replies-one : (old : History) (m : Message) (text : List ℕ) (reply : Reply) (own : List Exchange) → Answered (asked_by m) old reply own → text ≡ print_reply (ends_stream m.head) reply → Replies old (m ∷ []) (text ∷ []) own
Replies-one old m text reply own answered is = (own, [], reply, answered, is, sym (append-nil own), refl)

-- texts that were printed for two lists of messages
ArePrinted-append : (messages others : List Message) (texts more : List (List ℕ)) → ArePrinted messages texts → ArePrinted others more → ArePrinted (messages ++ others) (texts ++ more)
ArePrinted-append [] others [] more printed next = next
ArePrinted-append (k ∷ messages) others (t ∷ texts) more printed next = (printed.0, ArePrinted-append messages others texts more printed.1 next)
ArePrinted-append [] others (t ∷ texts) more printed next = absurd printed
ArePrinted-append (k ∷ messages) others [] more printed next = absurd printed

-- where a desk stands after more exchanges
stands_after : {S : Type 0} (stands : S → History → History → Type 0) (desk : S) (history pending : History) (made more : List Exchange)
    → stands desk (history_through (history_through history made) more) (pending_through (history_through history made) (pending_through history pending made) more)
    → stands desk (history_through history (made ++ more)) (pending_through history pending (made ++ more))
stands_after stands desk history pending [] more at = at
stands_after stands desk history pending (x ∷ made) more at =
    stands_after stands desk (history_after history x) (pending_after pending (standing_of history) x.edit x.answer) made more at

module _ {S : Type 0} (good : S → Type 0) (stands : S → History → History → Type 0) where
  -- a desk that is left alone
  pub Serves-none : (desk : S) → Serves good stands desk [] [] desk
  Serves-none desk = record { printed = tt; disk = λ clean. clean; step = λ clean history pending at. ([], refl, at) }

  -- what was served twice is served in one
  pub Serves-append : (old mid new : S) (messages others : List Message) (texts more : List (List ℕ)) → Serves good stands old messages texts mid → Serves good stands mid others more new → Serves good stands old (messages ++ others) (texts ++ more) new
  Serves-append old mid new messages others texts more run next = record {
    printed = ArePrinted-append messages others texts more run.printed next.printed;
    disk = λ clean. run.disk (next.disk clean);
    step = λ clean history pending at.
        let before = run.step (next.disk clean) history pending at in
        let after = next.step clean (history_through history before.0) (pending_through history pending before.0) before.2 in (
          before.0 ++ after.0,
          Replies-append history messages others texts more before.0 after.0 before.1 after.1,
          stands_after stands new history pending before.0 after.0 after.2,
        );
  }

  -- one message was served
  pub Serves-one : (old new : S) (m : Message) (text : List ℕ) → AnswersMessage good stands old m text new → Serves good stands old (m ∷ []) (text ∷ []) new
  Serves-one old new m text answers = record {
    printed = ((answers.0, answers.2), tt);
    disk = answers.1.disk;
    step = λ clean history pending at.
        let it = answers.1.step clean history pending at in
        (it.0, Replies-one history m text answers.0 it.0 it.1 answers.2, it.2);
  }

  module _ (old new : S) (left left' held held' : Option (List ℕ)) (waiting : List ℕ) (replied written : ℕ) (p : Progress good stands old new left left' held held' waiting replied written) where
    -- more bytes came
    pub Progress-read : (left'' : Option (List ℕ)) (bytes : List ℕ) → Consumes left' left'' bytes → Progress good stands old new left left'' held held' (waiting ++ bytes) replied written
    Progress-read left'' bytes c = record {
      messages = p.messages;
      texts = p.texts;
      read = subst (Consumes left left'') (append_assoc (flat_map print_message p.messages) waiting bytes) (Consumes-append left left' left'' _ bytes p.read c);
      sent = p.sent;
      each = p.each;
      goes_on = p.goes_on;
      run = p.run;
      replied_is = p.replied_is;
      written_is = p.written_is;
    }

    pub Progress-more : (left'' : Option (List ℕ)) (bytes now : List ℕ) → now ≡ waiting ++ bytes → Consumes left' left'' bytes → Progress good stands old new left left'' held held' now replied written
    Progress-more left'' bytes now is c = subst (λ b. Progress good stands old new left left'' held held' b replied written) (sym is) (Progress-read left'' bytes c)

    -- a message was answered, and the stream goes on
    pub Progress-next : (m : Message) (rest text : List ℕ) → IsMessage m → waiting ≡ print_message m ++ rest → ends_stream m.head ≡ false → (newer : S) → Serves good stands new (m ∷ []) (text ∷ []) newer → (held'' : Option (List ℕ)) → Appends held' held'' text → Progress good stands old newer left left' held held'' rest (replied + 1) (written + length text)
    Progress-next m rest text valid front on newer one held'' sent = record {
      messages = p.messages ++ m ∷ [];
      texts = p.texts ++ text ∷ [];
      read = subst (Consumes left left') (ap (λ l. flat_map print_message p.messages ++ l) front ∙ sym (printed-push p.messages m rest)) p.read;
      sent = subst (Appends held held'') (sym (joined-push p.texts text)) (Appends-append held held' held'' _ text p.sent sent);
      each = All-push IsMessage p.messages m p.each valid;
      goes_on = All-push (λ (k : Message). ends_stream k.head ≡ false) p.messages m p.goes_on on;
      run = Serves-append old new newer p.messages (m ∷ []) p.texts (text ∷ []) p.run one;
      replied_is = ap (λ n. n + 1) p.replied_is ∙ sym (length_push p.texts text);
      written_is = ap (λ n. n + length text) p.written_is ∙ sym (ap length (joined-push p.texts text) ∙ length-append (joined p.texts) text);
    }

    -- the bytes so far, with more behind them, are the messages and a rest
    pub splits_more : (more : List ℕ) → Splits ((flat_map print_message p.messages ++ waiting) ++ more) p.messages (waiting ++ more)
    splits_more more = record { whole = append_assoc (flat_map print_message p.messages) waiting more; each = p.each }

    pub splits_now : Splits (flat_map print_message p.messages ++ waiting) p.messages waiting
    splits_now = record { whole = refl; each = p.each }

    -- a read failed
    before : IsLast waiting ReadFault → (held'' : Option (List ℕ)) → Keeps held' held'' → AnswersBefore good stands old new left left' held held'' replied written
    before last held'' kept = record {
      received = flat_map print_message p.messages ++ waiting;
      messages = p.messages;
      rest = waiting;
      texts = p.texts;
      read = p.read;
      sent = Appends-keeps held held' held'' _ p.sent kept;
      splits = splits_now;
      goes_on = p.goes_on;
      is_open = last.0;
      unfaulted = last.1;
      unfinished = last.2;
      run = p.run;
      replied_is = p.replied_is;
      written_is = p.written_is;
    }

    -- the input ended between messages
    at_input : waiting ≡ [] → IsAtEnd left' → (held'' : Option (List ℕ)) → Keeps held' held'' → AnswersAll good stands Input old new left left' held held'' replied written
    at_input none end held'' kept = record {
      received = flat_map print_message p.messages ++ waiting;
      texts = p.texts;
      read = p.read;
      sent = Appends-keeps held held' held'' _ p.sent kept;
      answers = record {
        messages = p.messages;
        rest = waiting;
        replies = p.texts;
        splits = splits_now;
        ends = (p.goes_on, none);
        run = p.run;
        texts_are = sym (append-nil p.texts);
      };
      final = inl end;
      replied_is = p.replied_is;
      written_is = p.written_is;
    }

    -- the reply to a fault ends the stream
    pub refused : (fault : StreamFault) → HasFault waiting fault → (IsAtEnd left' ⊎ ((more : List ℕ) → HasFault (waiting ++ more) fault)) → (held'' : Option (List ℕ)) (served : Served) → Refuses fault held' held'' replied written served → SessionOf good stands served.end old new left left' held held'' served.replies served.written
    refused fault has final held'' served (inl whole) =
        let text = print_reply true (fault_reply fault) in
        let received = flat_map print_message p.messages ++ waiting in
        let texts = p.texts ++ text ∷ [] in
        let reply : (rest bytes : List ℕ) → Splits bytes p.messages rest → HasFault rest fault → IsReplyTo good stands old bytes texts (Bad fault) new
        = λ rest bytes splits faulty. record { messages = p.messages; rest = rest; replies = p.texts; splits = splits; ends = (p.goes_on, faulty); run = p.run; texts_are = refl } in
        subst (λ end. SessionOf good stands end old new left left' held held'' served.replies served.written) (sym whole.0) (record {
          received = received;
          texts = texts;
          read = p.read;
          sent = subst (Appends held held'') (sym (joined-push p.texts text)) (Appends-append held held' held'' _ text p.sent whole.1);
          answers = reply waiting received splits_now has;
          final = elim final as (λ f. IsAtEnd left' ⊎ ((more : List ℕ) → IsReplyTo good stands old (received ++ more) texts (Bad fault) new)) [ inl end ↦ inl end | inr always ↦ inr (λ more. reply (waiting ++ more) (received ++ more) (splits_more more) (always more)) ];
          replied_is = whole.2 ∙ ap (λ n. n + 1) p.replied_is ∙ sym (length_push p.texts text);
          written_is = whole.3 ∙ ap (λ n. n + length text) p.written_is ∙ sym (ap length (joined-push p.texts text) ∙ length-append (joined p.texts) text);
        })
    refused fault has final held'' served (inr cut) =
        let text = print_reply true (fault_reply fault) in
        subst (λ end. SessionOf good stands end old new left left' held held'' served.replies served.written) (sym cut.1) (record {
          received = flat_map print_message p.messages ++ waiting;
          messages = p.messages;
          rest = waiting;
          whole = p.texts;
          cut = text;
          part = cut.0;
          read = p.read;
          splits = splits_now;
          answers = inr (fault, p.run, p.goes_on, refl, has, final);
          sent = Appends-append held held' held'' _ _ p.sent cut.3;
          shorter = cut.2;
          replied_is = cut.4 ∙ p.replied_is;
          written_is = cut.5 ∙ ap (λ n. n + cut.0) p.written_is;
        })

  -- the first moment
  pub Progress-none : (old : S) (left held : Option (List ℕ)) (waiting : List ℕ) → waiting ≡ [] → Progress good stands old old left left held held waiting 0 0
  Progress-none old left held waiting none = record {
    messages = [];
    texts = [];
    read = subst (Consumes left left) (sym none) (Consumes-none left);
    sent = Appends-none held;
    each = All-nil IsMessage;
    goes_on = All-nil (λ (k : Message). ends_stream k.head ≡ false);
    run = Serves-none old;
    replied_is = refl;
    written_is = refl;
  }

  module _ (old new : S) (left left' held held' : Option (List ℕ)) (waiting : List ℕ) (replied written : ℕ) (p : Progress good stands old new left left' held held' waiting replied written) where
    -- the last request asked to end the stream
    pub closed : (m : Message) (rest text : List ℕ) → IsMessage m → waiting ≡ print_message m ++ rest → ends_stream m.head ≡ true → (newer : S) → Serves good stands new (m ∷ []) (text ∷ []) newer → (held'' : Option (List ℕ)) → Appends held' held'' text → AnswersAll good stands Closed old newer left left' held held'' (replied + 1) (written + length text)
    closed m rest text valid front last newer one held'' sent =
        let messages = p.messages ++ m ∷ [] in
        let texts = p.texts ++ text ∷ [] in
        let received = flat_map print_message p.messages ++ waiting in
        let whole : received ≡ flat_map print_message messages ++ rest = ap (λ l. flat_map print_message p.messages ++ l) front ∙ sym (printed-push p.messages m rest) in
        let reply : (bytes behind : List ℕ) → bytes ≡ flat_map print_message messages ++ behind → IsReplyTo good stands old bytes texts Closed newer
        = λ bytes behind is. record {
          messages = messages;
          rest = behind;
          replies = texts;
          splits = record { whole = is; each = All-push IsMessage p.messages m p.each valid };
          ends = (p.messages, m, refl, p.goes_on, last);
          run = Serves-append old new newer p.messages (m ∷ []) p.texts (text ∷ []) p.run one;
          texts_are = sym (append-nil texts);
        } in
        record {
          received = received;
          texts = texts;
          read = p.read;
          sent = subst (Appends held held'') (sym (joined-push p.texts text)) (Appends-append held held' held'' _ text p.sent sent);
          answers = reply received rest whole;
          final = inr (λ more. reply (received ++ more) (rest ++ more) (ap (λ l. l ++ more) whole ∙ append_assoc (flat_map print_message messages) rest more));
          replied_is = ap (λ n. n + 1) p.replied_is ∙ sym (length_push p.texts text);
          written_is = ap (λ n. n + length text) p.written_is ∙ sym (ap length (joined-push p.texts text) ∙ length-append (joined p.texts) text);
        }

    -- a write of a reply failed
    pub reply_cut : (m : Message) (rest text : List ℕ) → IsMessage m → waiting ≡ print_message m ++ rest → (newer : S) → Serves good stands new (m ∷ []) (text ∷ []) newer → (held'' : Option (List ℕ)) (part : ℕ) → Appends held' held'' (take part text) → part < length text → AnswersInPart good stands old newer left left' held held'' replied (written + part)
    reply_cut m rest text valid front newer one held'' part sent short =
        let messages = p.messages ++ m ∷ [] in
        let last : (b : Bool) → ends_stream m.head ≡ b → GoesOn messages ⊎ ClosesAfter messages
        = elim [ true ↦ λ e. inr (p.messages, m, refl, p.goes_on, e) | false ↦ λ e. inl (All-push (λ (k : Message). ends_stream k.head ≡ false) p.messages m p.goes_on e) ] in
        record {
          received = flat_map print_message p.messages ++ waiting;
          messages = messages;
          rest = rest;
          whole = p.texts;
          cut = text;
          part = part;
          read = p.read;
          splits = record { whole = ap (λ l. flat_map print_message p.messages ++ l) front ∙ sym (printed-push p.messages m rest); each = All-push IsMessage p.messages m p.each valid };
          answers = inl (Serves-append old new newer p.messages (m ∷ []) p.texts (text ∷ []) p.run one, last (ends_stream m.head) refl);
          sent = Appends-append held held' held'' _ _ p.sent sent;
          shorter = short;
          replied_is = p.replied_is;
          written_is = ap (λ n. n + part) p.written_is;
        }

  -- what a connection did, as it is told
  pub told_by : (served : Served) (replied written : ℕ) (end : End) → served ≡ record { replies = replied; written = written; end = end } → (old new : S) (left left' held held' : Option (List ℕ)) → SessionOf good stands end old new left left' held held' replied written → SessionOf good stands served.end old new left left' held held' served.replies served.written
  told_by served replied written end is old new left left' held held' did = subst (λ s. SessionOf good stands s.end old new left left' held held' s.replies s.written) (sym is) did

  -- a desk after some messages: what its replies were
  abbrev pub SomeRun : S → S → Type 0
  SomeRun old new = (messages : List Message) × (texts : List (List ℕ)) × Serves good stands old messages texts new

  -- what a cut reply leaves
  run_of_cut : (old new : S) (messages : List Message) (rest : List ℕ) (whole : List (List ℕ)) (cut : List ℕ) (left' : Option (List ℕ)) → CutReply good stands old new messages rest whole cut left' → SomeRun old new
  run_of_cut old new messages rest whole cut left' (inl run) = (messages, whole ++ cut ∷ [], run.0)
  run_of_cut old new messages rest whole cut left' (inr run) = (messages, whole, run.1)

  -- however a connection ended, the desk is one after a run
  pub run_of : (end : End) (old new : S) (left left' held held' : Option (List ℕ)) (replied written : ℕ) → SessionOf good stands end old new left left' held held' replied written → SomeRun old new
  run_of Input old new left left' held held' replied written did = (did.answers.messages, did.answers.replies, did.answers.run)
  run_of Closed old new left left' held held' replied written did = (did.answers.messages, did.answers.replies, did.answers.run)
  run_of (Bad fault) old new left left' held held' replied written did = (did.answers.messages, did.answers.replies, did.answers.run)
  run_of ReadFault old new left left' held held' replied written did = (did.messages, did.texts, did.run)
  run_of WriteFault old new left left' held held' replied written did = run_of_cut old new did.messages did.rest did.whole did.cut left' did.answers
  run_of Memory old new left left' held held' replied written did = ([], [], subst (λ desk. Serves good stands old [] [] desk) (sym did.0) (Serves-none old))

  -- a read ended the stream
  pub ended_by : (old new : S) (left left' held held' : Option (List ℕ)) (waiting : List ℕ) (replied written : ℕ) → Progress good stands old new left left' held held' waiting replied written
      → (end : End) → IsLast waiting end → (IsAtEnd left' ⊎ (end ≡ ReadFault)) → (held'' : Option (List ℕ)) (served : Served) → EndsBy end held' held'' replied written served
      → SessionOf good stands served.end old new left left' held held'' served.replies served.written
  ended_by old new left left' held held' waiting replied written p Input last (inl at) held'' served (is, kept) =
      told_by served replied written Input is old new left left' held held'' (at_input old new left left' held held' waiting replied written p last.1 at held'' kept)
  ended_by old new left left' held held' waiting replied written p Input last (inr e) held'' served by = absurd (cc)
  ended_by old new left left' held held' waiting replied written p Closed last at held'' served by = absurd last
  ended_by old new left left' held held' waiting replied written p (Bad fault) last (inl at) held'' served by =
      refused old new left left' held held' waiting replied written p fault last.1 (inl at) held'' served by
  ended_by old new left left' held held' waiting replied written p (Bad fault) last (inr e) held'' served by = absurd (cc)
  ended_by old new left left' held held' waiting replied written p ReadFault last at held'' served (is, kept) =
      told_by served replied written ReadFault is old new left left' held held'' (before old new left left' held held' waiting replied written p last held'' kept)
  ended_by old new left left' held held' waiting replied written p WriteFault last at held'' served by = absurd last
  ended_by old new left left' held held' waiting replied written p Memory last at held'' served by = absurd last

-- the bytes with which a read has ended a stream
pub read_last : (p q : Place) (bytes : List ℕ) (end : End) → ReadMoves p bytes (Some end) q → IsLast (p.waiting ++ bytes) end
read_last p q bytes end (inl (between, brings, ends)) = subst (λ b. IsLast b end) brings.2 ends.1
read_last p q bytes end (inr (all, none, fault, ends)) = subst (λ b. IsLast b end) (sym (ap (λ l. p.waiting ++ l) none ∙ append-nil p.waiting)) ends.1
