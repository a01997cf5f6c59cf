-- The texts so far.
use Rattle.std.proofs.Common.{◌≡◌, map, take}
use Rattle.serde_json.specs.View.{view}
use Rattle.desk_json.specs.Why.{reason_data}
use Rattle.desk_json.proofs.why.text_values.Given as goal

abbrev pub invariant-loop-text : goal.invariant-loop-text
invariant-loop-text l = map view l.values.items ≡ map reason_data (map (λ text. text.now) (take l.text-index l.texts))
