-- A text without the line end at its end.
use Rattle.std.proofs.Common.{◌≡◌, ◌≢◌, ◌⊎◌, ◌<◌, ◌-◌, ◌+◌, ◌∙◌, ◌++◌, ℕ, List, [], ◌∷◌, ap, arith, eq-eqb, eqb, false, get_or, inl, inr, length, refl, sym, take, true}
use Rattle.std.proofs.lemmas.Bool.{cases_Bool, cond-false, cond-true, eqb-true}
use Rattle.std.proofs.lemmas.List.{get_or_push, length_push, take_all, take_at, take_more}
use Rattle.cli_expectations.specs.BreachesLog.{without_line_end}

pub strip-some : (bs front : List ℕ) → bs ≡ front ++ 10 ∷ [] → without_line_end bs ≡ front
strip-some bs front e =
    let n : length bs ≡ length front + 1 = ap length e ∙ length_push front 10 in
    let last : get_or bs (length bs - 1) 0 ≡ 10 = ap (λ xs. get_or xs (length bs - 1) 0) e ∙ get_or_push front 10 0 (length bs - 1) (omega arith) in
    cond-true _ _ _ (eq-eqb _ _ last) ∙ ap (take (length bs - 1)) e ∙ take_at front (10 ∷ []) (length bs - 1) (omega arith)

pub strip-none : (bs : List ℕ) → ((front : List ℕ) → bs ≢ front ++ 10 ∷ []) → without_line_end bs ≡ bs
strip-none [] h = refl
strip-none (b ∷ bs) h =
    let xs : List ℕ = b ∷ bs in
    let lt : length xs - 1 < length xs = omega arith in
    let ends : get_or xs (length xs - 1) 0 ≡ 10 → xs ≡ take (length xs - 1) xs ++ 10 ∷ [] =
    λ e. sym (take_all (length xs - 1 + 1) xs (omega arith)) ∙ take_more xs (length xs - 1) 0 lt ∙ ap (λ x. take (length xs - 1) xs ++ x ∷ []) e in
    let cases : (eqb (get_or xs (length xs - 1) 0) 10 ≡ true) ⊎ (eqb (get_or xs (length xs - 1) 0) 10 ≡ false) = cases_Bool _ in
    elim cases [ inl t ↦ absurd (h _ (ends (eqb-true _ _ t))) | inr f ↦ cond-false _ _ _ f ]
