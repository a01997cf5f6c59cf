-- The findings so far were added.
use Rattle.std.proofs.Common.{◌≡◌, ◌++◌, codes, take}
use Rattle.std.specs.List.{flat_map}
use Rattle.std.specs.String.{string_bytes}
use Rattle.desk_check.specs.FindingJson.{object_text}
use Rattle.desk_check.proofs.finding_json.push_later.Given as goal

abbrev pub invariant-loop-finding : goal.invariant-loop-finding
invariant-loop-finding l = string_bytes l.text ≡ string_bytes l.initial.text ++ flat_map (λ later. codes "," ++ object_text later) (take l.finding-index l.findings)
