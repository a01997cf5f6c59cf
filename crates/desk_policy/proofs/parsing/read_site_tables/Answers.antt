use Rattle.std.proofs.Common.{List, ℕ, subst, sym}
use Rattle.desk_text.specs.Lines.{IsReadable}
use Rattle.desk_policy.specs.PerTable.{EachTable, map_tables}
use Rattle.desk_policy.specs.declared.per_table.PerTable.{PerTable}
use Rattle.desk_policy.specs.declared.site_file.SiteFile.TheVariants.{Group, Hosts, Netgroup, Networks, Passwd}
use Rattle.desk_policy.proofs.parsing.read_site_tables.Goals as goal

pub read-requires : goal.read-requires
read-requires c =
    let files = c.requires.files in
    let lent : EachTable IsReadable (map_tables (λ text. text.now) c.lend.result) = subst (λ (texts : PerTable (List ℕ)). EachTable IsReadable texts) (sym c.lend.ensures)
    record { hosts = files Hosts; networks = files Networks; passwd = files Passwd; group = files Group; netgroup = files Netgroup } in
    record { hosts = lent.hosts; networks = lent.networks; passwd = lent.passwd; group = lent.group; netgroup = lent.netgroup }
