-- The tokens of the parts so far.
use Rattle.std.proofs.Common.{◌≡◌, take}
use Rattle.std.specs.List.{flat_map}
use Rattle.desk_netgroup.specs.Token as spec
use Rattle.desk_netgroup.proofs.line.line_tokens.Given as goal

abbrev pub invariant-loop-part : goal.invariant-loop-part
invariant-loop-part l = l.tokens.items ≡ flat_map (λ part. spec.tokens part.text) (take l.part-index l.line.parts)
