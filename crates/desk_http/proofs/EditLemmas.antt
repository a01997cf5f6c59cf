-- The reply to an edit, by what a desk answered.
use Rattle.std.proofs.Common.{◌≡◌, ◌⊎◌, ◌+◌, ◌++◌, ◌∷◌, ℕ, Bool, true, false, IfOk, List, None, Option, OnErr, Result, Ok, Err, Some, [], ap, ◌∙◌, append-nil, arith, inl, inr, refl, subst, sym}
use Rattle.std.specs.Prelude.{if◌then◌else◌}
use Rattle.sqlite.specs.Held.{state}
use Rattle.sqlite_trees.specs.declared.store.Store.{Ghosts}
use Rattle.desk_core.specs.Edit.{Answer, Edit, Proposed, Refused, Stored}
use Rattle.desk_core.specs.History.{IsAnswered, added_if, standing_of}
use Rattle.desk_core.specs.Judging.{Answers, answer_of, entry_of, first_case}
use Rattle.desk_core.specs.Standing.{Standing}
use Rattle.desk_core.specs.State.{again, standing}
use Rattle.desk_core.specs.declared.edit.Refusal.{Refusal}
use Rattle.desk_store.specs.Desk.{HasGoodDisk, IsEdited, Shown, StandsAt, answer_told, pending_after, told}
use Rattle.desk_store.specs.Rows.{IsOfTask}
use Rattle.desk_store.specs.declared.desk.Done.{Done}
use Rattle.desk_store.specs.declared.error.DeskError.{DeskError}
use Rattle.desk_store.specs.declared.error.DeskError.TheVariants as error
use Rattle.desk_store.specs.declared.error.Task.{Task}
use Rattle.desk_service.specs.Edits.{PutsBy, reply_in}
use Rattle.desk_service.specs.Refused.{refused_by}
use Rattle.desk_service.specs.declared.edits.Replies.{Replies}
use Rattle.desk_http_messages.specs.Replies.{Reply, memory_reply, print_reply}
use Rattle.desk_http.specs.Edits.{answer_reply}
use Rattle.desk_http.specs.Replies.{refused_reply, store_reply}
use Rattle.desk_http.specs.PrivateAnswering.{AreReplies, EditAnswered, Gives, GivesText}

-- the reply where a look at the tables failed, which were asked
pub failed_look : (task : Task) (e : DeskError) (asked : Bool) → IsOfTask task e → asked ≡ true → (refused_reply (refused_by e) ≡ memory_reply) ⊎ ((asked ≡ true) × (refused_reply (refused_by e) ≡ store_reply))
failed_look task e asked (inl memory) takes = inl (ap (λ (x : DeskError). refused_reply (refused_by x)) memory)
failed_look task e asked (inr store) takes = inr (takes, ap (λ (x : DeskError). refused_reply (refused_by x)) store.2)

-- what is told of an edit that is not refused
abbrev told_by : ℕ → Bool → Bool → Answer
told_by rev already proposed = if already then again rev proposed else if proposed then Proposed rev else Stored rev

-- the reply that was made before is that to what is told
reply_told : {T : Type 0} (items : T → List ℕ) (replies : Replies T) (ends : Bool) (rev : ℕ) → AreReplies items ends rev replies → (already proposed : Bool)
    → items (if proposed then if already then replies.already_proposed else replies.proposed else if already then replies.already else replies.accepted) ≡ print_reply ends (answer_reply (told_by rev already proposed))
reply_told items replies ends rev are true true = are.already_proposed
reply_told items replies ends rev are true false = are.already
reply_told items replies ends rev are false true = are.proposed
reply_told items replies ends rev are false false = are.accepted

module _ {S V : Type 0} (g : Ghosts S) (old new : Shown S V) (e : Edit) where
  abbrev Edited : Result Done DeskError → Type 0
  Edited result = IsEdited (state g old.conn) (state g new.conn) old.state new.state e result

  abbrev Replied : Reply → Type 0
  Replied reply = Gives (HasGoodDisk g) (StandsAt g) (EditAnswered e) old reply new

  -- an edit that has an answer
  answered : (result : Result Done DeskError) (answer : Answer) → told result ≡ Some answer → Edited result → Replied (answer_reply answer)
  answered result answer is edited = record {
    disk = λ clean. omega (arith, clean, edited.crash.clean);
    step = λ clean history pending at.
        let it = edited.step clean history pending at in
        let right : IsAnswered history e (Some answer) = subst (IsAnswered history e) is it.answered in (
          record { edit = e; answer = Some answer } ∷ [],
          inl (answer, right, refl, refl),
          subst (λ (a : Option Answer). StandsAt g new (history ++ added_if (standing_of history) e a) (pending_after pending (standing_of history) e a)) is it.stands,
        );
  }

  -- the replies to one that has none, whatever the standing that is its history's
  abbrev MayReply : Standing → Reply → Type 0
  MayReply s reply = (reply ≡ memory_reply) ⊎ ((reply ≡ store_reply) × Answers s e (answer_of (entry_of s e)))

  -- an edit that has none
  unanswered : (result : Result Done DeskError) (reply : Reply) → told result ≡ None → MayReply (standing old.state) reply → Edited result → Replied reply
  unanswered result reply is may edited = record {
    disk = λ clean. omega (arith, clean, edited.crash.clean);
    step = λ clean history pending at. let it = edited.step clean history pending at in (
      record { edit = e; answer = None } ∷ [],
      inr (inr (subst (λ (s : Standing). (first_case s e ≡ None) × MayReply s reply) at.standing_is (edited.unanswered is, may), refl)),
      subst (λ (a : Option Answer). StandsAt g new (history ++ added_if (standing_of history) e a) (pending_after pending (standing_of history) e a)) is it.stands,
    );
  }

  -- an edit that is refused, and for whose reply there is no memory
  refused_untold : (why : Refusal) → Edited (Err (error.Refused why)) → Replied memory_reply
  refused_untold why edited = record {
    disk = λ clean. omega (arith, clean, edited.crash.clean);
    step = λ clean history pending at. let it = edited.step clean history pending at in (
      [],
      inr (inl (refl, refl)),
      subst (λ h. StandsAt g new h pending) (append-nil history) it.stands,
    );
  }

  -- an edit that is stored or proposed, or was
  pub put_ok : {T : Type 0} (items : T → List ℕ) (replies : Replies T) (ends : Bool) (rev : ℕ) → rev ≡ e.base + 1 → AreReplies items ends rev replies
      → (text : T) → PutsBy g old new e replies (Ok text) → GivesText (HasGoodDisk g) (StandsAt g) (EditAnswered e) ends old (items text) new
  put_ok items replies ends rev number are text (Ok done, edited, is) = let same : text ≡ reply_in replies done = cc in (
    answer_reply (answer_told done),
    answered (Ok done) (answer_told done) refl edited,
    ap items same ∙ reply_told items replies ends rev are done.already done.proposed
        ∙ ap (λ n. print_reply ends (answer_reply (told_by n done.already done.proposed))) (number ∙ sym edited.number),
  )
  put_ok items replies ends rev number are text (Err failed, edited, is) = absurd (cc)

  -- an edit that is not answered as stored
  put_err : {T : Type 0} (replies : Replies T) (failed : DeskError) → PutsBy g old new e replies (Err failed) → Edited (Err failed)
  put_err replies failed (Ok done, edited, is) = absurd (cc)
  put_err replies failed (Err other, edited, is) = let same : other ≡ failed = cc in subst (λ (x : DeskError). Edited (Err x)) same edited

  failed_gives : (failed : DeskError) → Edited (Err failed) → Replied (refused_reply (refused_by failed))
  failed_gives (error.Refused why) edited = answered (Err (error.Refused why)) (Refused why) refl edited
  failed_gives (error.Store fault) edited = unanswered (Err (error.Store fault)) store_reply refl (inr (refl, edited.judged.answers)) edited
  failed_gives error.Schema edited = absurd (edited.schema refl)
  failed_gives error.Memory edited = unanswered (Err error.Memory) memory_reply refl (inl refl) edited

  memory_gives : (failed : DeskError) → Edited (Err failed) → Replied memory_reply
  memory_gives (error.Refused why) edited = refused_untold why edited
  memory_gives (error.Store fault) edited = unanswered (Err (error.Store fault)) memory_reply refl (inl refl) edited
  memory_gives error.Schema edited = absurd (edited.schema refl)
  memory_gives error.Memory edited = unanswered (Err error.Memory) memory_reply refl (inl refl) edited

  pub failed_text : {T V E : Type 0} (items : V → List ℕ) (r : Result V E) (replies : Replies T) (failed : DeskError) (ends : Bool) → PutsBy g old new e replies (Err failed)
      → IfOk r (λ text. items text ≡ print_reply ends (refused_reply (refused_by failed))) → IfOk r (λ text. GivesText (HasGoodDisk g) (StandsAt g) (EditAnswered e) ends old (items text) new)
  failed_text items (Ok text) replies failed ends puts is = (refused_reply (refused_by failed), failed_gives failed (put_err replies failed puts), is)
  failed_text items (Err error) replies failed ends puts is = is

  pub failed_err : {T V E : Type 0} (r : Result V E) (replies : Replies T) (failed : DeskError) → PutsBy g old new e replies (Err failed) → OnErr r (Replied memory_reply)
  failed_err (Ok text) replies failed puts = tt
  failed_err (Err error) replies failed puts = memory_gives failed (put_err replies failed puts)
