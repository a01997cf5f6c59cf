-- Numbers in a row, with one more.
use Rattle.std.proofs.Common.{◌≡◌, ◌∙◌, ℕ, zero, suc, ◌+◌, ◌++◌, [], ◌∷◌, ap, arith}
use Rattle.std.specs.List.{range_with_len}

pub behind : (a n j : ℕ) → a + n ≡ j → range_with_len a (suc n) ≡ range_with_len a n ++ j ∷ []
behind a zero j e = ap (λ m. m ∷ []) (omega arith)
behind a (suc n) j e = ap (λ ms. a ∷ ms) (behind (a + 1) n j (omega arith))

pub one_more : (a n j : ℕ) → a + n ≡ j → range_with_len a (n + 1) ≡ range_with_len a n ++ j ∷ []
one_more a n j e = let next : n + 1 ≡ suc n = omega arith in ap (range_with_len a) next ∙ behind a n j e
