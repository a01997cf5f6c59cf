-- Numbers that were sorted, each kept once.
use Rattle.std.proofs.Common.{◌≡◌, ℕ, ◌∙◌, ◌||◌, Bool, true, false, eqb, List, [], ◌∷◌, ap, inl, inr, nat_cmp, refl, subst, sym}
use Rattle.std.specs.Prelude.{◌==◌}
use Rattle.std.specs.List.{dedup, dedup_from}
use Rattle.std.specs.List.Sorted.{IsPermutation, IsSorted, IsStrictlyIncreasing}
use Rattle.std.specs.List.Retain.{IsFiltered, DiffersFromLast}
use Rattle.std.proofs.lemmas.Bool.{cases_eq, cond-true, cond-false, eq-eqb, ne_eqb}
use Rattle.std.proofs.lemmas.List.Filters.{dedup_is}
use Rattle.std.proofs.lemmas.List.Sorted.{list_any-IsPermutation}
use Rattle.std.proofs.lemmas.Map.Keys.{IsStrictlyIncreasing-dedup}
use Rattle.desk_text.specs.AddrSet.{is_among}
use Rattle.desk_text.specs.Laws.{IsSetOf}

or_twice : (b c : Bool) → (b || c) ≡ (b || (b || c))
or_twice true c = refl
or_twice false c = refl

dedup_from_has : (a k : ℕ) (xs : List ℕ) → is_among a (dedup_from eqb k xs) ≡ is_among a (k ∷ xs)
dedup_from_has a k [] = refl
dedup_from_has a k (x ∷ xs) =
    elim (cases_eq x k) [
      | inl is ↦
          ap (is_among a) (cond-true (eqb x k) _ _ (eq-eqb x k is))
          ∙ dedup_from_has a k xs ∙ or_twice (k == a) (is_among a xs) ∙ ap (λ m. (k == a) || ((m == a) || is_among a xs)) (sym is)
      | inr apart ↦
          ap (is_among a) (cond-false (eqb x k) _ _ (ne_eqb x k apart))
          ∙ ap (λ b. (k == a) || b) (dedup_from_has a x xs)
    ]

dedup_has : (a : ℕ) (xs : List ℕ) → is_among a (dedup eqb xs) ≡ is_among a xs
dedup_has a [] = refl
dedup_has a (x ∷ xs) = dedup_from_has a x xs

pub set_is : (xs ys zs : List ℕ) → IsPermutation xs ys → IsSorted nat_cmp ys → IsFiltered (DiffersFromLast eqb) [] ys zs → IsSetOf xs zs
set_is xs ys zs moved sorted kept =
    let are = dedup_is eqb ys zs kept in
    record {
      ascend = subst IsStrictlyIncreasing (sym are) (IsStrictlyIncreasing-dedup ys sorted);
      each = λ a. ap (is_among a) are ∙ dedup_has a ys ∙ sym (list_any-IsPermutation (λ other. other == a) xs ys moved);
    }
