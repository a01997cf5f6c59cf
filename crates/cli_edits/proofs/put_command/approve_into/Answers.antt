-- The text that was found is that which waits.
use Rattle.std.proofs.Common.{List, Result, inr, subst, ℕ}
use Rattle.desk_service.specs.Approving.{approval_of}
use Rattle.desk_service.specs.declared.refused.Refused.{Refused}
use Rattle.cli_edits.specs.PutCommand.{PutsFound}
use Rattle.cli_edits.proofs.put_command.approve_into.Goals as goal

pub returns-in-Ok : goal.returns-in-Ok
returns-in-Ok g c =
    inr (subst (λ (found : Result (List ℕ) Refused). PutsFound g.S.Store c.args.opened.now.desk c.put_found.new.opened.desk (approval_of c.args.approval) c.args.replies c.put_found.result found) c.in-Ok.ensures.found c.put_found.ensures)
