use Rattle.desk_store.proofs.PendingEdits.{pending_edits}
use Rattle.desk_store.proofs.laws.pending_edits_have_no_answer.Goals as goal

pub returns : goal.returns
returns g = pending_edits
