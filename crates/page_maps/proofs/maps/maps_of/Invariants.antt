-- The map of the first address of each run so far.
use Rattle.std.proofs.Common.{◌≡◌, map, take}
use Rattle.std.specs.Prelude.{All}
use Rattle.desk_text.specs.Address.{number_of}
use Rattle.desk_text.specs.Network.{IsBlock}
use Rattle.page_maps.specs.Maps.{IsWide, map_at}
use Rattle.page_maps.proofs.maps.maps_of.Given as goal

abbrev pub invariant-loop-run : goal.invariant-loop-run
invariant-loop-run l = record {
  are : l.maps.items ≡ map (λ run. map_at (number_of run.first)) (take l.run-index l.runs);
  networks : All IsBlock l.maps.items;
  wide : All IsWide l.maps.items;
}
