use Rattle.std.proofs.Common.{map, Bor, List, ℕ}
use Rattle.desk_core.proofs.NamedMounts.{are_mounts}
use Rattle.desk_core.proofs.SortedTexts.{all_kept, ascending, only_given}
use Rattle.desk_core.proofs.listing.mounts_with_exports.Goals as goal

pub returns : goal.returns
returns c =
    let given = c.in_ok-mounts.mounts.items in
    let sorted = c.sort_unstable.new.self.items in
    let kept = c.dedup.new.self.items in
    are_mounts c.args.heads.now c.args.proposals.now (map (λ (mount : Bor (List ℕ)). mount.now) given) (map (λ (mount : Bor (List ℕ)). mount.now) kept) c.in_ok-mounts.ensures
    (ascending (λ (mount : Bor (List ℕ)). mount.now) given sorted kept c.sort_unstable.ensures.permutation c.sort_unstable.ensures.sorted c.dedup.ensures.filtered)
    (all_kept (λ (mount : Bor (List ℕ)). mount.now) given sorted kept c.sort_unstable.ensures.permutation c.sort_unstable.ensures.sorted c.dedup.ensures.filtered)
    (only_given (λ (mount : Bor (List ℕ)). mount.now) given sorted kept c.sort_unstable.ensures.permutation c.sort_unstable.ensures.sorted c.dedup.ensures.filtered)
