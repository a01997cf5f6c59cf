-- The reply to the answer of the desk is printed.
use Rattle.std.proofs.Common.{Global, Result, String, subst}
use Rattle.desk_store.specs.declared.error.DeskError.{DeskError}
use Rattle.cli_edits.specs.PutCommand.{PrintsReply}
use Rattle.cli_edits.proofs.put_command.put_into.Goals as goal

pub returns : goal.returns
returns g c =
    let put = c.put-reply.ensures.edited in
    record {
      answer = put.0;
      edited = put.1;
      prints = subst (λ (reply : Result (String Global) DeskError). PrintsReply reply c.reply_printed.result) put.2 c.reply_printed.ensures;
    }
