-- Those so far are written.
use Rattle.std.proofs.Common.{◌≡◌, ◌++◌, [], map, take}
use Rattle.std.specs.List.{flat_map}
use Rattle.std.specs.String.{string_bytes}
use Rattle.cli_expectations.specs.PrivateFaultPrints.{finding_among}
use Rattle.cli_expectations.proofs.fault_prints.findings_text.Given as goal

abbrev pub invariant-loop-placed : goal.invariant-loop-placed
invariant-loop-placed l = string_bytes l.note ≡ [] ++ flat_map (finding_among l.path (map (λ line. line.now) l.lines)) (take l.placed-index l.found)
