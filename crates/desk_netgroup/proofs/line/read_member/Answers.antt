use Rattle.std.proofs.Common.{◌++◌, ◌∙◌, ap}
use Rattle.desk_netgroup.specs.GroupLine.{host_member}
use Rattle.desk_netgroup.proofs.FormLemmas.{open_read}
use Rattle.desk_netgroup.proofs.line.read_member.Goals as goal

pub returns-in_ok-push_host-in-Open-clause-read : goal.returns-in_ok-push_host-in-Open-clause-read
returns-in_ok-push_host-in-Open-clause-read c =
    open_read c.after_triple.result c.args.members.now c.push_host.new.members c.args.token.now _ c.in-Open.is c.after_triple.ensures
    (c.in_ok-push_host-in-Open.ensures ∙ ap (λ h. c.args.members.now ++ host_member h) c.host_field.ensures)
