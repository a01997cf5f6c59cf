-- What is added so far.
use Rattle.std.proofs.Common.{◌≡◌, ◌++◌, filter, take}
use Rattle.std.specs.List.{flat_map}
use Rattle.desk_remarks.specs.PrivateUnwarnedLines.{is_outside}
use Rattle.desk_remarks.specs.Remarks.{idle_remarks}
use Rattle.desk_remarks.specs.declared.said_of_systems.Said.{Said}
use Rattle.desk_remarks.proofs.idle_remarks.push_idle.Given as goal

abbrev pub invariant-loop-said : goal.invariant-loop-said
invariant-loop-said l = l.found ≡ l.initial.found ++ flat_map (λ (said : Said). filter (is_outside l.warned) (idle_remarks said)) (take l.said-index l.saids)
