use Rattle.std.proofs.Common.{◌≡◌, ◌+◌, ◌==◌, length, count_by, arith}
use Rattle.std.proofs.lemmas.List.Splits.{length-slice_split}
use Rattle.desk_text.specs.Address.{dotted_parts}
use Rattle.desk_text.proofs.address.Addr.read_short.Goals as goal

pub filled-number-requires-clause-some : goal.filled-number-requires-clause-some
filled-number-requires-clause-some c =
    let parts : length (dotted_parts c.args.text.now) ≡ count_by (λ b. b == 46) c.args.text.now + 1 = length-slice_split (λ b. b == 46) c.args.text.now in
    omega (arith, c.read_parts-parts.ensures.count)
