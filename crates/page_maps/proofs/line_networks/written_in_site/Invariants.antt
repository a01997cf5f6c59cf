-- The networks of the lines of the file systems so far.
use Rattle.std.proofs.Common.{◌≡◌, take}
use Rattle.std.specs.Prelude.{All}
use Rattle.std.specs.List.{flat_map}
use Rattle.desk_text.specs.Network.{IsBlock}
use Rattle.page_maps.specs.LineNetworks.{written_networks}
use Rattle.page_maps.proofs.line_networks.written_in_site.Given as goal

abbrev pub invariant-loop-rows : goal.invariant-loop-rows
invariant-loop-rows l = record {
  are : l.networks.items ≡ flat_map written_networks (take l.rows-index l.rows-items);
  networks : All IsBlock l.networks.items;
}
