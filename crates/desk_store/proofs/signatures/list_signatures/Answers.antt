use Rattle.std.proofs.Common.{rules, sym, subst, ap, ◌∙◌, map, IsPermutation}
use Rattle.std.specs.List.Sorted.{IsNonDecreasingBy}
use Rattle.std.proofs.lemmas.List.Sorted.{IsNonDecreasingBy-from_sort_by_key}
use Rattle.desk_store.specs.Rows.{Signs, listed, signed}
use Rattle.desk_store.specs.declared.desk.Signature.{Signature}
use Rattle.desk_store.proofs.signatures.list_signatures.Goals as goal

pub returns-clause-signs : goal.returns-clause-signs
returns-clause-signs c =
    let sorted = c.sort_unstable_by_key.new.self.items in
    let rows = c.args.rows.now in
    let up : IsNonDecreasingBy (λ (one : Signature). one.rev) sorted =
    IsNonDecreasingBy-from_sort_by_key (λ (one : Signature). one.rev) _ c.sort_unstable_by_key.ensures.sorted (λ a r q k. search rules) in
    let told = c.in_ok-found.ensures.signed ∙ ap (λ approved. map (signed approved) rows) (c.as_slice.ensures.value ∙ c.in_ok-approved.ensures.listed) in
    let same : IsPermutation (map (signed (map listed c.args.approvals.now)) rows) sorted = subst (λ xs. IsPermutation xs sorted) told c.sort_unstable_by_key.ensures.permutation in
    subst (Signs rows c.args.approvals.now) (sym c.from_vec.ensures) (record { same = same; ascending = up })
