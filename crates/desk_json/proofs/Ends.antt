-- Parts whose last one is empty, or not.
use Rattle.std.proofs.Common.{◌≡◌, ℕ, zero, suc, ◌+◌, ◌==◌, true, false, List, [], ◌∷◌, Bor, ap, arith, get_or, length, map, refl, take}
use Rattle.desk_json.specs.Why.{without_empty_end}

abbrev pub texts : List (Bor (List ℕ)) → List (List ℕ)
texts parts = map (λ part. part.now) parts

pub ends_empty : (parts : List (Bor (List ℕ))) (n : ℕ) (d : Bor (List ℕ)) → n + 1 ≡ length parts → (length (get_or parts n d).now == 0) ≡ true
    → texts (take n parts) ≡ without_empty_end (texts parts)
ends_empty [] n d e is = absurd (omega (arith, e))
ends_empty (part ∷ []) zero d e is = rw is refl
ends_empty (part ∷ []) (suc n) d e is = absurd (omega (arith, e))
ends_empty (part ∷ next ∷ parts) zero d e is = absurd (omega (arith, e))
ends_empty (part ∷ next ∷ parts) (suc n) d e is = ap (λ ps. part.now ∷ ps) (ends_empty (next ∷ parts) n d (omega (arith, e)) is)

pub ends_full : (parts : List (Bor (List ℕ))) (n : ℕ) (d : Bor (List ℕ)) → n + 1 ≡ length parts → (length (get_or parts n d).now == 0) ≡ false
    → texts (take (length parts) parts) ≡ without_empty_end (texts parts)
ends_full [] n d e is = absurd (omega (arith, e))
ends_full (part ∷ []) zero d e is = rw is refl
ends_full (part ∷ []) (suc n) d e is = absurd (omega (arith, e))
ends_full (part ∷ next ∷ parts) zero d e is = absurd (omega (arith, e))
ends_full (part ∷ next ∷ parts) (suc n) d e is = ap (λ ps. part.now ∷ ps) (ends_full (next ∷ parts) n d (omega (arith, e)) is)

pub ends_nowhere : (parts : List (Bor (List ℕ))) → length parts ≡ 0 → texts (take (length parts) parts) ≡ without_empty_end (texts parts)
ends_nowhere [] e = refl
ends_nowhere (part ∷ parts) e = absurd (omega (arith, e))
