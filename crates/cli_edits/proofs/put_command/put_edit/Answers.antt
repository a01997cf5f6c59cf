-- What the desk answers is printed, or why there is none.
use Rattle.std.proofs.Common.{◌+◌, inl, inr, subst, ℕ}
use Rattle.desk_core.specs.Edit.{asked}
use Rattle.cli_edits.specs.PutCommand.{HasReplies}
use Rattle.cli_edits.proofs.PutAnswers.{puts_into}
use Rattle.cli_edits.proofs.put_command.put_edit.Goals as goal

pub returns-in-Ok : goal.returns-in-Ok
returns-in-Ok c =
    let has : HasReplies (c.args.edit.now.base + 1) c.in_ok-replies.replies = subst (λ (base : ℕ). HasReplies (base + 1) c.in_ok-replies.replies) c.from.ensures c.in_ok-replies.ensures in
    inr (puts_into _ _ _ (asked c.args.edit.now) c.in_ok-replies.replies c.put_into-answer.result has c.put_into-answer.ensures)

pub returns-in-Err : goal.returns-in-Err
returns-in-Err c = inl c.in-Err.ensures.refused
