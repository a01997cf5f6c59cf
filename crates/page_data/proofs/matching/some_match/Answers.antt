use Rattle.std.proofs.Common.{◌∙◌, ap, sym}
use Rattle.desk_exports.specs.declared.entry.Entry.{Entry}
use Rattle.page_data.proofs.Matched.{named}
use Rattle.page_data.proofs.matching.some_match.Goals as goal

pub returns-in-Hosts : goal.returns-in-Hosts
returns-in-Hosts c =
    named c.args.row.now c.in-Hosts.field-0 (sym (ap (λ (entry : Entry). entry.clients) c.deref.ensures) ∙ c.in-Hosts.is) c.first_of.result c.first_of.ensures
