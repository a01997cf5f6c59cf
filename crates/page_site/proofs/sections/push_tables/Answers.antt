use Rattle.std.proofs.lemmas.Result.{on_ok_weaker}
use Rattle.page_site.proofs.Pieces.{gains_then}
use Rattle.page_site.proofs.sections.push_tables.Goals as goal

pub returns : goal.returns
returns c =
    on_ok_weaker c.push_networks_table.result (gains_then c.in_ok-push_systems_table.ensures) c.push_networks_table.ensures
