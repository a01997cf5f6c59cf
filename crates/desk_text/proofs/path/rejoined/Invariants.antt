use Rattle.std.proofs.Common.{◌≡◌, ◌∷◌, not, length, take, filter}
use Rattle.std.specs.Bool.{◌==◌}
use Rattle.std.specs.List.{flat_map, slice_split}
use Rattle.std.specs.String.{string_bytes}
use Rattle.desk_text.proofs.path.rejoined.Given as goal

abbrev pub invariant-loop-part : goal.invariant-loop-part
invariant-loop-part l = string_bytes l.out ≡ flat_map (λ part. 47 ∷ part) (filter (λ part. not (length part == 0)) (take (length l.yielded) (slice_split (λ b. b == 47) l.text)))
