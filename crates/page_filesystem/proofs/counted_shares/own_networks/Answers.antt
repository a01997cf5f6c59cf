use Rattle.std.proofs.Common.{Bool, rules}
use Rattle.std.specs.Prelude.{not}
use Rattle.std.proofs.lemmas.Fn.{filter_same}
use Rattle.desk_text.specs.Network.{Block}
use Rattle.page_maps.specs.Maps.{is_listed}
use Rattle.page_filesystem.specs.CountedShares.{private_networks}
use Rattle.page_filesystem.proofs.counted_shares.own_networks.Goals as goal

pub returns : goal.returns
returns c =
    let test : Block → Bool = λ network. not (is_listed private_networks network) in
    record {
      written = c.in_ok-own.own.items;
      ordered = c.in_ok-own.ensures;
      are = filter_same _ test _ (λ x b f' k. search rules) _ _ c.retain.ensures.filtered;
    }
