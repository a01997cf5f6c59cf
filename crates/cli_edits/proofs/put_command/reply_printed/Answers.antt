-- The edit is refused.
use Rattle.std.proofs.Common.{Global, Result, String, subst, sym}
use Rattle.desk_store.specs.declared.error.DeskError.{DeskError}
use Rattle.cli_edits.specs.PutCommand.{PrintsReply}
use Rattle.cli_desk.specs.RefusalNotes.{IsRefusedBy}
use Rattle.cli_edits.proofs.put_command.reply_printed.Goals as goal

pub returns-in-Err-Refused : goal.returns-in-Err-Refused
returns-in-Err-Refused g c =
    subst (λ (reply : Result (String Global) DeskError). PrintsReply reply c.edit_refused.result) (sym c.in-Err-Refused.is)
    (subst (λ (e : DeskError). IsRefusedBy e c.edit_refused.result) (sym c.in-Err-Refused.field-0-is) c.edit_refused.ensures)
