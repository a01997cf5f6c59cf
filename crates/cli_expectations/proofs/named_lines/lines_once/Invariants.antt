-- The lines that the verdicts so far name.
use Rattle.std.proofs.Common.{◌≡◌, map, take}
use Rattle.cli_expectations.specs.BreachesJson.{breach_value}
use Rattle.cli_expectations.specs.NamedLines.{lines_once}
use Rattle.cli_expectations.proofs.named_lines.lines_once.Given as goal

abbrev pub invariant-loop-breach : goal.invariant-loop-breach
invariant-loop-breach l = l.lines.items ≡ lines_once (map breach_value (take l.breach-index l.breaches))
