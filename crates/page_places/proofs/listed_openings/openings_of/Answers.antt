use Rattle.std.proofs.Common.{◌≡◌, rules}
use Rattle.std.proofs.lemmas.Fn.{always_returns_same, dedup_same}
use Rattle.page_places.specs.ListedOpenings.{order_of, same_denied}
use Rattle.page_places.proofs.listed_openings.openings_of.Goals as goal

pub returns : goal.returns
returns c =
    let all = c.in_ok-found.found.items in
    let sorted = c.sort_by_key.new.self.items in
    let found = c.dedup_by.new.self.items in
    let by_order = always_returns_same _ (λ a r. r ≡ order_of a.0.now) _ (λ a r f' k. search rules) in
    record {
      all = all;
      are_all = c.in_ok-found.ensures;
      sorted = sorted;
      just = c.in_ok-sort_by_key.ensures.permutation;
      order = c.in_ok-sort_by_key.ensures.sorted (λ one. order_of one) by_order;
      stable = c.in_ok-sort_by_key.ensures.stable (λ one. order_of one) by_order;
      are = dedup_same _ (λ one other. same_denied one other) _ (λ x y b f x' y' k. search rules) sorted found c.dedup_by.ensures.filtered;
    }
