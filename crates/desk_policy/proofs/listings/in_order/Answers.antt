use Rattle.std.proofs.Common.{◌≡◌, ℕ, ◌+◌, List, [], ◌∷◌, ◌++◌, Bor, map, take, sym, subst, ◌∙◌, ap}
use Rattle.std.specs.List.Sorted.{IsSorted}
use Rattle.std.proofs.lemmas.List.{map_more, take_all}
use Rattle.desk_policy.specs.PrivateListings.{IsOrderOf, with_next}
use Rattle.desk_policy.proofs.InOrder.{order, next_in_order, none_before, order_of_sorted}
use Rattle.desk_policy.proofs.listings.in_order.Goals as goal

abbrev Path : Type 0
Path = List (List ℕ)

pub loop-path-preserved : goal.loop-path-preserved
loop-path-preserved c =
    let paths : List (Bor Path) = c.deref-path-items.result.now in
    let path = c.path-item.result in
    let i = c.loop-path.path-index in
    let sorted = subst (λ ps. IsSorted (λ (x y : Bor Path). order x.now y.now) ps) (sym c.deref-path-items.ensures.value) c.sort_unstable.ensures.sorted in
    let done : List Path = map (λ x. x.now) (take i paths) in
    let next = next_in_order done c.loop-path.ordered.items path.now c.loop-path.invariant (none_before paths i path c.loop-path.ordered.items sorted c.loop-path-test.true c.path-item.is c.loop-path.invariant) c.in_ok-push_next.ensures.last in
    let one_more : done ++ path.now ∷ [] ≡ map (λ x. x.now) (take (i + 1) paths) =
    ap (λ (p : Bor Path). done ++ p.now ∷ []) c.path-item.is ∙ sym (map_more (λ x. x.now) paths i path c.loop-path-test.true) in
    subst (λ ordered. IsOrderOf (map (λ x. x.now) (take (i + 1) paths)) ordered) (sym c.in_ok-push_next.ensures.added)
    (subst (λ given. IsOrderOf given (with_next c.loop-path.ordered.items path.now)) one_more next)

pub returns : goal.returns
returns c =
    let paths : List (Bor Path) = c.deref-path-items.result.now in
    let all : take c.loop-path.path-index paths ≡ c.sort_unstable.new.self.items = take_all c.loop-path.path-index paths c.loop-path-test.false ∙ c.deref-path-items.ensures.value in
    subst (IsOrderOf (map (λ x. x.now) c.args.paths.items)) (sym c.from_vec.ensures)
    (order_of_sorted c.args.paths.items c.sort_unstable.new.self.items c.loop-path.ordered.items c.sort_unstable.ensures.permutation
    (subst (λ (ps : List (Bor Path)). IsOrderOf (map (λ x. x.now) ps) c.loop-path.ordered.items) all c.loop-path.invariant))
