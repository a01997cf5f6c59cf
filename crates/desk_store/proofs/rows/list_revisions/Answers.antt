use Rattle.std.proofs.Common.{ℕ, List, rules, sym, subst, map, IsPermutation}
use Rattle.std.specs.List.Sorted.{IsNonDecreasingBy}
use Rattle.std.proofs.lemmas.List.Sorted.{IsNonDecreasingBy-from_sort_by_key}
use Rattle.desk_store.specs.Rows.{Lists, listed}
use Rattle.desk_store.proofs.rows.list_revisions.Goals as goal

pub returns-clause-listed : goal.returns-clause-listed
returns-clause-listed c =
    let sorted = c.sort_unstable_by_key.new.self.items in
    let up : IsNonDecreasingBy (λ (one : ℕ × List ℕ). one.0) sorted =
    IsNonDecreasingBy-from_sort_by_key (λ (one : ℕ × List ℕ). one.0) _ c.sort_unstable_by_key.ensures.sorted (λ a r q k. search rules) in
    let same : IsPermutation (map listed c.args.rows.now) sorted = subst (λ xs. IsPermutation xs sorted) c.in_ok-found.ensures.listed c.sort_unstable_by_key.ensures.permutation in
    subst (Lists c.args.rows.now) (sym c.from_vec.ensures) (record { same = same; ascending = up })
