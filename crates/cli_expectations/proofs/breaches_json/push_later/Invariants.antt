-- Those so far were added.
use Rattle.std.proofs.Common.{◌≡◌, ◌++◌, take}
use Rattle.std.specs.List.{flat_map}
use Rattle.std.specs.String.{string_bytes}
use Rattle.cli_expectations.specs.PrivateBreachesJson.{later_of}
use Rattle.cli_expectations.proofs.breaches_json.push_later.Given as goal

abbrev pub invariant-loop-breach : goal.invariant-loop-breach
invariant-loop-breach l = string_bytes l.text ≡ string_bytes l.initial.text ++ flat_map (later_of l.policy l.file) (take l.breach-index l.breaches)
