-- Revisions can be kept exactly if they are within the limits.
use Rattle.std.proofs.Common.{◌≡◌, ◌≤◌, ◌∙◌, sym, Bool, true, Decides, List, All, arith}
use Rattle.std.specs.List.{list_all}
use Rattle.std.proofs.lemmas.Bool.{and_from, and_parts, le-leb, leb-true}
use Rattle.std.proofs.lemmas.List.Sums.{AllPass-from_list_all, list_all-from_AllPass}
use Rattle.desk_core.specs.Head.{CanBeKept}
use Rattle.desk_core.specs.PrivateHead.{is_within_limits}
use Rattle.desk_core.specs.declared.head.Head.{Head}

within_kept : (head : Head) → is_within_limits head ≡ true → CanBeKept head
within_kept head within =
    let long = and_parts _ _ within in
    let numbers = and_parts _ _ long.0 in
    let first : 1 ≤ head.rev = leb-true _ _ numbers.0 in
    record { from = omega (arith, first); to = leb-true _ _ numbers.1; short = leb-true _ _ long.1 }

kept_within : (head : Head) → CanBeKept head → is_within_limits head ≡ true
kept_within head kept = and_from _ _ (and_from _ _ (le-leb _ _ (omega (arith, kept.from))) (le-leb _ _ kept.to)) (le-leb _ _ kept.short)

pub kept_by_limits : (heads : List Head) (within : Bool) → within ≡ list_all is_within_limits heads → Decides within (All CanBeKept heads)
kept_by_limits heads within is = (
  λ yes_all. λ k d below. within_kept _ (AllPass-from_list_all is_within_limits heads (sym is ∙ yes_all) k d below),
  λ kept. is ∙ list_all-from_AllPass is_within_limits heads (λ k d below. kept_within _ (kept k d below)),
)
