-- The fixed maps, and the others so far.
use Rattle.std.proofs.Common.{◌≡◌, ◌++◌, filter, take}
use Rattle.std.specs.Prelude.{not}
use Rattle.page_maps.specs.Maps.{fixed_maps, is_listed}
use Rattle.page_maps.proofs.maps.with_fixed_maps.Given as goal

abbrev pub invariant-loop-map : goal.invariant-loop-map
invariant-loop-map l = record {
  fixed : l.fixed ≡ fixed_maps;
  are : l.all.items ≡ fixed_maps ++ filter (λ network. not (is_listed fixed_maps network)) (take l.map-index l.maps);
}
