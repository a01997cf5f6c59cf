-- The edit is the approval with the text that was found.
use Rattle.std.proofs.Common.{◌∙◌, List, Result, ap, subst, sym, ℕ}
use Rattle.desk_core.specs.Edit.{Edit}
use Rattle.desk_service.specs.Approving.{approval_of, edit_with}
use Rattle.desk_service.specs.declared.refused.Refused.{Refused}
use Rattle.cli_edits.specs.PutCommand.{PrintsPut, PutsFound}
use Rattle.cli_edits.proofs.put_command.put_found.Goals as goal

pub returns-in-Ok : goal.returns-in-Ok
returns-in-Ok g c =
    subst (λ (found : Result (List ℕ) Refused). PutsFound g.S.Store c.args.opened.now.desk c.put_into.new.opened.desk (approval_of c.args.approval) c.args.replies c.put_into.result found) (sym c.in-Ok.is)
    (subst (λ (e : Edit). PrintsPut g.S.Store c.args.opened.now.desk c.put_into.new.opened.desk e c.args.replies c.put_into.result)
    (c.with_text-edit.ensures ∙ ap (λ (text : List ℕ). edit_with (approval_of c.args.approval) text) c.as_str.ensures) c.put_into.ensures)
