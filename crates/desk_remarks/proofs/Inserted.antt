-- A number that is added to a set.
use Rattle.std.proofs.Common.{◌≡◌, ◌||◌, ℕ, Bool, true, false, arith, cond, eqb, nat_cmp, refl}
use Rattle.std.specs.Ordering.{is_eq}
use Rattle.std.proofs.lemmas.Bool.Decides.{nat_tests}

pub same_key : (key other : ℕ) → is_eq (nat_cmp key other) ≡ eqb key other
same_key key other = grind (arith, nat_tests)

pub either : (a b : Bool) → cond a true b ≡ (b || a)
either true true = refl
either true false = refl
either false true = refl
either false false = refl
