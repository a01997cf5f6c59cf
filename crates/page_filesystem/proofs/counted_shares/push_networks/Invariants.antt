-- The shares that were there, and those of the networks so far.
use Rattle.std.proofs.Common.{◌≡◌, ◌++◌, map, take}
use Rattle.std.specs.Prelude.{All}
use Rattle.page_data.specs.Classes.{class_run}
use Rattle.page_filesystem.specs.Shares.{HasSize}
use Rattle.page_filesystem.specs.CountedShares.{IsShareFrom, network_space}
use Rattle.page_filesystem.proofs.counted_shares.push_networks.Given as goal

abbrev pub invariant-loop-network : goal.invariant-loop-network
invariant-loop-network l = record {
  spaces : map (λ share. share.space) l.shares.items
      ≡ map (λ share. share.space) l.initial.shares.items ++ map network_space (take l.network-index l.networks);
  each : All (IsShareFrom (map class_run l.classes)) l.shares.items;
  sizes : All HasSize l.shares.items;
}
