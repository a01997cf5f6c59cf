use Rattle.std.proofs.Common.{◌≡◌, rules, subst, sym}
use Rattle.std.specs.List.{dedup}
use Rattle.std.proofs.lemmas.Fn.{dedup_same}
use Rattle.std.proofs.lemmas.List.Sorted.{IsNonDecreasingBy-from_sort_by_key}
use Rattle.page_maps.specs.Order.{AreOrdered}
use Rattle.page_maps.specs.PrivateOrder.{order_of}
use Rattle.page_maps.proofs.Ordered.{are_ordered, same}
use Rattle.page_maps.proofs.order.ordered.Goals as goal

pub returns : goal.returns
returns c =
    let networks = c.args.networks.items in
    let sorted = c.sort_by_key.new.self.items in
    let left : c.dedup_by_key.new.self.items ≡ dedup same sorted = dedup_same _ same _ (λ x y b f' x' y' k. search rules) sorted c.dedup_by_key.new.self.items c.dedup_by_key.ensures.filtered in
    subst (AreOrdered networks) (sym left)
    (are_ordered networks sorted c.requires c.in_ok-sort_by_key.ensures.permutation (IsNonDecreasingBy-from_sort_by_key order_of sorted c.in_ok-sort_by_key.ensures.sorted (λ a r q k. search rules)))
