-- Numbers one after another, with one more, and what is written of each.
use Rattle.std.proofs.Common.{◌≡◌, ℕ, zero, suc, ◌+◌, ◌++◌, ◌∙◌, List, [], ◌∷◌, ap, arith, sym}
use Rattle.std.specs.List.{flat_map, range_with_len}
use Rattle.std.proofs.lemmas.List.{flat_map_more}

one_more : (a n : ℕ) → range_with_len a (suc n) ≡ range_with_len a n ++ (a + n) ∷ []
one_more a zero = (let same : a ≡ a + 0 = omega arith in ap (λ m. m ∷ []) same)
one_more a (suc n) = (let same : a + 1 + n ≡ a + suc n = omega arith in ap (λ xs. a ∷ xs) (one_more (a + 1) n ∙ ap (λ m. range_with_len (a + 1) n ++ m ∷ []) same))

pub one_number_more : (n : ℕ) → range_with_len 0 (n + 1) ≡ range_with_len 0 n ++ n ∷ []
one_number_more n =
    let next : n + 1 ≡ suc n = omega arith in
    let same : 0 + n ≡ n = omega arith in
    ap (λ m. range_with_len 0 m) next ∙ one_more 0 n ∙ ap (λ m. range_with_len 0 n ++ m ∷ []) same

-- the texts of the numbers so far behind another
pub writes_in_range : (n : ℕ) (text_of : ℕ → List ℕ) (start now next : List ℕ) → now ≡ start ++ flat_map text_of (range_with_len 0 n)
    → next ≡ now ++ text_of n → next ≡ start ++ flat_map text_of (range_with_len 0 (n + 1))
writes_in_range n text_of start now next before added =
    added ∙ ap (λ t. t ++ text_of n) before ∙ flat_map_more text_of start (range_with_len 0 n) n
    ∙ ap (λ ys. start ++ flat_map text_of ys) (sym (one_number_more n))
