use Rattle.std.proofs.Common.{◌≡◌, ℕ, ◌-◌, ◌%◌, ◌^◌, ap, arith}
use Rattle.std.proofs.lemmas.Nat.{pow_below}
use Rattle.std.proofs.Math.Nat.{mod-eq_of_lt}
use Rattle.desk_text.proofs.Blocks.{last_fits}
use Rattle.desk_text.proofs.network.Net.last.Goals as goal

pub overflow_cast-last-2 : goal.overflow_cast-last-2
overflow_cast-last-2 c =
    let fits = last_fits _ c.self.invariant in
    let bits : ℕ = 32 - c.get-host_bits.result in
    let size : 2 ^ bits ≡ 2 ^ (32 - c.self.inside.prefix) = ap (λ prefix. 2 ^ (32 - prefix)) c.get-host_bits.ensures.value in
    let whole : 2 ^ bits % 2 ^ 64 ≡ 2 ^ bits = mod-eq_of_lt (pow_below bits 64 (omega arith)) in
    omega (arith, c.from.ensures, c.number.ensures)
