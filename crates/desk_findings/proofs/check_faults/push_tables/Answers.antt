-- Each table adds its own findings.
use Rattle.desk_findings.proofs.FoundFaults.{five_tables}
use Rattle.desk_findings.proofs.check_faults.push_tables.Goals as goal

pub returns : goal.returns
returns c =
    five_tables c.args.sources c.args.found.now c.push_hosts.new.found c.push_networks.new.found c.push_passwd.new.found c.push_group.new.found c.push_netgroup.new.found
    c.in_ok-push_hosts.ensures c.in_ok-push_networks.ensures c.in_ok-push_passwd.ensures c.in_ok-push_group.ensures c.in_ok-push_netgroup.ensures
