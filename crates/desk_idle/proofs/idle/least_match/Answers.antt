use Rattle.std.proofs.Common.{◌∙◌, ap, sym}
use Rattle.desk_exports.specs.declared.entry.Entry.{Entry}
use Rattle.desk_idle.proofs.Matching.{least_named}
use Rattle.desk_idle.proofs.idle.least_match.Goals as goal

pub returns-in-Hosts : goal.returns-in-Hosts
returns-in-Hosts c =
    least_named c.args.row.now c.in-Hosts.field-0 (sym (ap (λ (entry : Entry). entry.clients) c.deref.ensures) ∙ c.in-Hosts.is) c.least_among.result c.least_among.ensures
