-- What a loop over header lines has found so far.
use Rattle.std.proofs.Common.{◌≡◌, ℕ, ◌+◌, ◌-◌, ◌*◌, Bool, true, ◌&&◌, length, min, refl, arith}
use Rattle.std.specs.Char.{is_ascii_digit, digit_value}
use Rattle.std.proofs.lemmas.Bool.Decides.{nat_tests}
use Rattle.std.proofs.lemmas.Grind.{common_steps}

pub digit_is : (b : ℕ) → is_ascii_digit b ≡ true → digit_value b ≡ b - 48
digit_is b h = grind (arith, nat_tests, common_steps)

pub both : (a b : Bool) → a ≡ true → b ≡ true → (a && b) ≡ true
both a b p q = rw (p, q) refl

-- one more digit of a length
pub length_step : (result length v d b next digit : ℕ) → result ≡ min (length * 10 + d) 65537 → length ≡ min v 65537 → d ≡ b - 48 → digit ≡ b - 48 → next ≡ v * 10 + digit → result ≡ min next 65537
length_step result length v d b next digit p q r s t = omega arith
