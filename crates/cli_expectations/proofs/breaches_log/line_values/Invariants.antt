-- The places of the lines so far.
use Rattle.std.proofs.Common.{◌≡◌, map, take}
use Rattle.std.specs.Option.{option_map}
use Rattle.serde_json.specs.View.{view}
use Rattle.cli_expectations.specs.BreachesLog.{line_data}
use Rattle.cli_expectations.proofs.breaches_log.line_values.Given as goal

abbrev pub invariant-loop-line : goal.invariant-loop-line
invariant-loop-line l = map view l.values.items ≡ map (line_data (option_map (λ path. path.now) l.exports) l.policy) (take l.line-index l.lines)
