-- The results of the faults so far.
use Rattle.std.proofs.Common.{◌≡◌, map, take}
use Rattle.serde_json.specs.View.{view}
use Rattle.cli_expectations.specs.PrivateFaultPrints.{result_among}
use Rattle.cli_expectations.proofs.faults_log.fault_results.Given as goal

abbrev pub invariant-loop-placed : goal.invariant-loop-placed
invariant-loop-placed l = map view l.values.items ≡ map (result_among l.path (map (λ line. line.now) l.lines)) (take l.placed-index l.found)
