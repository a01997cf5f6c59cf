-- The results of the findings so far.
use Rattle.std.proofs.Common.{◌≡◌, map, take}
use Rattle.std.specs.Option.{option_map}
use Rattle.serde_json.specs.View.{view}
use Rattle.desk_sarif.specs.Sarif.{result_data}
use Rattle.desk_sarif.proofs.sarif.result_values.Given as goal

abbrev pub invariant-loop-finding : goal.invariant-loop-finding
invariant-loop-finding l = map view l.values.items ≡ map (result_data (option_map (λ numbers. numbers.now) l.ignored)) (take l.finding-index l.findings)
