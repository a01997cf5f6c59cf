-- Findings that are added in turn, for `check_faults::push_tables`.
use Rattle.std.proofs.Common.{◌++◌, ◌∙◌, List, ap, append_assoc, refl}
use Rattle.desk_policy.specs.declared.per_table.PerTable.{PerTable}
use Rattle.desk_findings.specs.CheckFaults.{Adds, TellGroup, TellHosts, TellNetgroup, TellNetworks, TellPasswd, TellTables}
use Rattle.desk_findings.specs.declared.finding.Finding.{Finding}
use Rattle.desk_findings.specs.declared.check_faults.Source.{Source}

pub five_tables : (sources : PerTable Source) (a b c d e f : List Finding) → Adds (TellHosts sources.hosts) a b → Adds (TellNetworks sources.networks) b c → Adds (TellPasswd sources.passwd) c d → Adds (TellGroup sources.group) d e → Adds (TellNetgroup sources.netgroup) e f
    → Adds (TellTables sources) a f
five_tables sources a b c d e f hosts networks passwd group netgroup = record {
  added = hosts.added ++ (networks.added ++ (passwd.added ++ (group.added ++ netgroup.added)));
  tell = record {
    hosts = hosts.added;
    networks = networks.added;
    passwd = passwd.added;
    group = group.added;
    netgroup = netgroup.added;
    tell_hosts = hosts.tell;
    tell_networks = networks.tell;
    tell_passwd = passwd.tell;
    tell_group = group.tell;
    tell_netgroup = netgroup.tell;
    are = refl;
  };
  are =
      netgroup.are
      ∙ ap (λ l. l ++ netgroup.added) (group.are ∙ ap (λ l. l ++ group.added) (passwd.are ∙ ap (λ l. l ++ passwd.added) (networks.are ∙ ap (λ l. l ++ networks.added) hosts.are)))
      ∙ simp append_assoc;
}
