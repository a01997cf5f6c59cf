-- Texts with commas between them.
use Rattle.std.proofs.Common.{◌≡◌, ◌∙◌, ◌<◌, ℕ, List, [], ◌∷◌, ◌++◌, length, map, ap, arith, refl, sym}
use Rattle.std.specs.List.{flat_map, join_with_byte}
use Rattle.std.proofs.lemmas.List.{append-nil, append_assoc}

-- a first text, and the others behind a comma each
pub with_commas : {X : Type 0} (text_of : X → List ℕ) (first : X) (others : List X) → text_of first ++ flat_map (λ x. 44 ∷ text_of x) others ≡ join_with_byte 44 (map text_of (first ∷ others))
with_commas text_of first [] = append-nil (text_of first)
with_commas text_of first (next ∷ others) = ap (λ t. text_of first ++ 44 ∷ t) (with_commas text_of next others)

-- one more text, behind a comma
pub one_more : (texts : List (List ℕ)) (text : List ℕ) → 0 < length texts → join_with_byte 44 (texts ++ text ∷ []) ≡ join_with_byte 44 texts ++ 44 ∷ text
one_more [] text some = absurd (omega (arith, some))
one_more (first ∷ []) text some = refl
one_more (first ∷ next ∷ texts) text some =
    ap (λ t. first ++ 44 ∷ t) (one_more (next ∷ texts) text (omega arith))
    ∙ sym (append_assoc first (44 ∷ join_with_byte 44 (next ∷ texts)) (44 ∷ text))
