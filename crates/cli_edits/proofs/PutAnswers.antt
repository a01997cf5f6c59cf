-- What a desk answers to an edit is printed, for `put_command`.
use Rattle.std.proofs.Common.{◌≡◌, ◌∙◌, ◌⊎◌, ◌+◌, ℕ, Bool, true, false, codes, List, Result, Ok, Err, String, cond, inl, inr, refl, subst, sym}
use Rattle.std.specs.Prelude.{IfOk}
use Rattle.std.specs.String.{string_bytes}
use Rattle.sqlite_trees.specs.declared.store.Store.{Ghosts}
use Rattle.desk_core.specs.Edit.{Edit}
use Rattle.desk_core.specs.State.{standing}
use Rattle.desk_store.specs.Desk.{Shown}
use Rattle.desk_store.specs.declared.desk.Done.{Done}
use Rattle.desk_store.specs.declared.error.DeskError.{DeskError}
use Rattle.desk_service.specs.Approving.{Approval, edit_with, text_in}
use Rattle.desk_service.specs.Edits.{reply_to}
use Rattle.desk_service.specs.declared.edits.Replies.{Replies}
use Rattle.desk_service.specs.declared.refused.Refused.{Refused}
use Rattle.cli_output.specs.declared.failure.Failure.{Failure}
use Rattle.cli_output.specs.declared.failure.Failure.TheVariants.{Memory}
use Rattle.cli_output.specs.declared.printed.Printed.{Printed}
use Rattle.cli_desk.specs.Desks.{HasNoDesk}
use Rattle.cli_edits.specs.PutCommand.{AnswersApproval, HasReplies, PrintsAnswer, PrintsApproval, PrintsPut, PrintsReply, PutsApproved, PutsFound, PutsInto, RefusesApproval, line_of}

-- the replies are the lines of the answer
line : {A : Type 0} (proposed already : Bool) (rev number : ℕ) (replies : Replies (String A)) → HasReplies number replies → rev ≡ number
    → string_bytes (cond proposed (cond already replies.already_proposed replies.proposed) (cond already replies.already replies.accepted))
    ≡ line_of (cond proposed (cond already (codes "already proposed rev ") (codes "proposed rev ")) (cond already (codes "already rev ") (codes "accepted rev "))) rev
line true true rev number replies has is = rw is has.already_proposed
line true false rev number replies has is = rw is has.proposed
line false true rev number replies has is = rw is has.already
line false false rev number replies has is = rw is has.accepted

prints_answer : {A : Type 0} (e : Edit) (replies : Replies (String A)) (answer : Result Done DeskError) (result : Result Printed Failure) → HasReplies (e.base + 1) replies
    → IfOk answer (λ done. done.rev ≡ e.base + 1) → PrintsReply (reply_to replies answer) result → PrintsAnswer answer result
prints_answer e replies (Ok done) (Ok printed) has number prints = record {
  status_is = prints.status_is;
  text_is = prints.text_is ∙ line done.proposed done.already done.rev (e.base + 1) replies has number;
}
prints_answer e replies (Ok done) (Err failure) has number prints = absurd prints
prints_answer e replies (Err failed) result has number prints = prints

-- an edit is put into a desk
pub puts_into : {S V A : Type 0} (g : Ghosts S) (old new : Shown S V) (e : Edit) (replies : Replies (String A)) (result : Result Printed Failure) → HasReplies (e.base + 1) replies → PrintsPut g old new e replies result → PutsInto e result
puts_into g old new e replies result has put = record {
  standing = standing old.state;
  consistent = put.edited.judged.consistent;
  answer = put.answer;
  answers = put.edited.judged.answers;
  prints = prints_answer e replies put.answer result has put.edited.number put.prints;
}

-- the text that waits in a desk is put into it, or it is printed why there is none
approves_by : {S V A : Type 0} (g : Ghosts S) (old new : Shown S V) (a : Approval) (replies : Replies (String A)) (result : Result Printed Failure) (found : Result (List ℕ) Refused) → text_in (standing old.state) a ≡ found
    → HasReplies (a.base + 1) replies → PutsFound g old new a replies result found → PutsApproved a result ⊎ RefusesApproval a result
approves_by g old new a replies result (Ok text) is has put = inl (record {
  text = text;
  puts = record {
    standing = standing old.state;
    consistent = put.edited.judged.consistent;
    answer = put.answer;
    answers = put.edited.judged.answers;
    prints = prints_answer (edit_with a text) replies put.answer result has put.edited.number put.prints;
  };
  waits = is;
})
approves_by g old new a replies result (Err why) is has refused = inr (record {
  standing = standing old.state;
  why = why;
  waits = is;
  prints = refused.1;
})

no_memory : (path : List ℕ) (result : Result Printed Failure) → result ≡ Err Memory → HasNoDesk path result
no_memory path result is = subst (HasNoDesk path) (sym is) tt

-- an approval is answered by a desk
pub approves : {S V A : Type 0} (g : Ghosts S) (path : List ℕ) (old new : Shown S V) (a : Approval) (replies : Replies (String A)) (result : Result Printed Failure) → HasReplies (a.base + 1) replies → PrintsApproval g old new a replies result → AnswersApproval path a result
approves g path old new a replies result has (inl left) = inl (no_memory path result left.1)
approves g path old new a replies result has (inr put) = inr (approves_by g old new a replies result (text_in (standing old.state) a) refl has put)
