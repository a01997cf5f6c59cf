use Rattle.std.specs.String.{string_bytes}
use Rattle.std.proofs.lemmas.Result.{on_ok_weaker}
use Rattle.page_site.proofs.Pieces.{gains_hosts, gains_netgroups, gains_then}
use Rattle.page_site.proofs.sections.push_names.Goals as goal

pub returns : goal.returns
returns c =
    let policy = c.args.policy.now in
    let tables = c.args.tables.now in
    let grouped = string_bytes c.push_netgroups_of.new.page in
    on_ok_weaker c.push_hosts_of.result
    (λ ended.
    gains_then (gains_netgroups policy tables (string_bytes c.args.page.now) grouped c.in_ok-push_netgroups_of.ensures)
    (gains_hosts policy tables grouped (string_bytes c.push_hosts_of.new.page) ended))
    c.push_hosts_of.ensures
