-- What was there, and the networks of the lines so far.
use Rattle.std.proofs.Common.{◌≡◌, ◌++◌, take}
use Rattle.std.specs.Prelude.{All}
use Rattle.desk_text.specs.Network.{IsBlock}
use Rattle.page_maps.specs.LineNetworks.{written_networks}
use Rattle.page_maps.proofs.line_networks.push_written.Given as goal

abbrev pub invariant-loop-row : goal.invariant-loop-row
invariant-loop-row l = record {
  are : l.networks.items ≡ l.initial.networks.items ++ written_networks (take l.row-index l.rows);
  networks : All IsBlock l.networks.items;
}
