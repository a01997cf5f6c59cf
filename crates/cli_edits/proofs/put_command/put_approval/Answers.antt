-- What the desk answers is printed, or why there is none.
use Rattle.std.proofs.Common.{◌+◌, inl, subst, ℕ}
use Rattle.desk_service.specs.Approving.{approval_of}
use Rattle.cli_edits.specs.PutCommand.{HasReplies}
use Rattle.cli_edits.proofs.PutAnswers.{approves}
use Rattle.cli_edits.proofs.put_command.put_approval.Goals as goal

pub returns-in-Ok : goal.returns-in-Ok
returns-in-Ok c =
    let has : HasReplies (c.args.approval.base + 1) c.in_ok-replies.replies = subst (λ (base : ℕ). HasReplies (base + 1) c.in_ok-replies.replies) c.from.ensures c.in_ok-replies.ensures in
    approves _ c.args.named.db.now _ _ (approval_of c.args.approval) c.in_ok-replies.replies c.approve_into-answer.result has c.approve_into-answer.ensures

pub returns-in-Err : goal.returns-in-Err
returns-in-Err c = inl c.in-Err.ensures.refused
