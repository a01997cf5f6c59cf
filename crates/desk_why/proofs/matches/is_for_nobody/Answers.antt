use Rattle.std.proofs.Common.{◌∙◌, ap}
use Rattle.desk_exports.specs.declared.entry.Entry.{Entry}
use Rattle.desk_why.specs.Matches.{has_no_client, is_for_nobody}
use Rattle.desk_why.proofs.matches.is_for_nobody.Goals as goal

pub returns : goal.returns
unfolding is_for_nobody
returns c = c.has_no_client.ensures ∙ ap (λ (entry : Entry). has_no_client entry.clients c.args.row.now.addrs) c.deref.ensures
