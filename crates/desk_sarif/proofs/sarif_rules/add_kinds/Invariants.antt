-- The kinds so far.
use Rattle.std.proofs.Common.{◌≡◌, ◌++◌, map, take}
use Rattle.desk_findings.specs.declared.finding.Matter.TheVariants.{Warning}
use Rattle.desk_sarif.proofs.sarif_rules.add_kinds.Given as goal

abbrev pub invariant-loop-kind : goal.invariant-loop-kind
invariant-loop-kind l = l.rules.items ≡ l.fn.rules.items ++ map Warning (take l.kind-index l.kinds)
