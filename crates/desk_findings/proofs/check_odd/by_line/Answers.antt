use Rattle.std.proofs.Common.{rules}
use Rattle.std.proofs.lemmas.List.Sorted.{IsNonDecreasingBy-from_sort_by_key}
use Rattle.desk_findings.specs.declared.check_odd.Odd.{Odd}
use Rattle.desk_findings.proofs.check_odd.by_line.Goals as goal

pub returns-clause-order : goal.returns-clause-order
returns-clause-order c = IsNonDecreasingBy-from_sort_by_key (λ (odd : Odd). odd.line) _ c.in_ok-sort_by_key.ensures.sorted (λ a r q k. search rules)
