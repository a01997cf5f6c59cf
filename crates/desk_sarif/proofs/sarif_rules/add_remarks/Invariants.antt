-- The remarks so far.
use Rattle.std.proofs.Common.{◌≡◌, ◌++◌, map, take}
use Rattle.desk_sarif.specs.SarifRules.{remarked}
use Rattle.desk_sarif.proofs.sarif_rules.add_remarks.Given as goal

abbrev pub invariant-loop-remark : goal.invariant-loop-remark
invariant-loop-remark l = l.rules.items ≡ l.fn.rules.items ++ map remarked (take l.remark-index l.remarks)
