-- What is added so far.
use Rattle.std.proofs.Common.{◌≡◌, ◌++◌, ◌∷◌, [], filter, nat_cmp, take}
use Rattle.std.specs.BTreeSet.{contains}
use Rattle.std.specs.List.{flat_map}
use Rattle.desk_idle.specs.declared.idle.Idle.{Idle}
use Rattle.desk_remarks.specs.PrivateUnwarnedLines.{is_outside}
use Rattle.desk_remarks.specs.Remarks.{idle_remark_if}
use Rattle.desk_remarks.proofs.idle_remarks.push_each.Given as goal

abbrev pub invariant-loop-one : goal.invariant-loop-one
invariant-loop-one l =
    l.found ≡ l.initial.found ++ flat_map (λ (one : Idle). filter (is_outside l.warned) (idle_remark_if (contains nat_cmp l.others one.line) one ∷ [])) (take l.one-index l.idle)
