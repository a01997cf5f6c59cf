-- Words without the dash that they begin with.
use Rattle.std.proofs.Common.{◌≡◌, ◌≢◌, ◌⊎◌, inl, inr, ℕ, true, false, eqb, List, [], ◌∷◌, Option, Some, None, MatchOption, refl, sym, ap, unwrap_or}
use Rattle.std.specs.Borrow.{Bor}
use Rattle.std.proofs.lemmas.Bool.{cases_Bool, cond-false, eqb-true}
use Rattle.desk_exports.specs.Grammar.{after_dash}

-- what is left if a dash is stripped, and the text if there is none
pub stripped : (r : Option (Bor (List ℕ))) (text : Bor (List ℕ)) → MatchOption r ((rest : List ℕ) → text.now ≢ 45 ∷ rest) (λ x. text.now ≡ 45 ∷ x.now) → (unwrap_or r text).now ≡ after_dash text.now
stripped None text h = sym (unstripped text.now h)
  where
    unstripped : (bs : List ℕ) → ((rest : List ℕ) → bs ≢ 45 ∷ rest) → after_dash bs ≡ bs
    unstripped [] h = refl
    unstripped (b ∷ bs) h =
        let cases : (eqb b 45 ≡ true) ⊎ (eqb b 45 ≡ false) = cases_Bool (eqb b 45) in
        elim cases [ inl e ↦ absurd (h bs (ap (λ x. x ∷ bs) (eqb-true b 45 e))) | inr e ↦ cond-false _ _ _ e ]
stripped (Some x) text h = sym (ap after_dash h)
