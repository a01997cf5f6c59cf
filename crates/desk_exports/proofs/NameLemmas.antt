-- What the name of a client consists of.
use Rattle.std.proofs.Common.{◌≡◌, ◌⊎◌, inl, inr, ℕ, Bool, true, false, ◌||◌, eqb, List, [], ◌∷◌, refl, ap, ◌∙◌}
use Rattle.std.specs.Char.{is_ascii_digit}
use Rattle.std.specs.List.{list_any}
use Rattle.std.proofs.lemmas.Bool.{and_parts, both_ways, cases_Bool, eqb-true, or_cases}
use Rattle.desk_text.specs.Address.{is_dotted}

either_of_two : (a b more other : Bool) → ((a || b) || (more || other)) ≡ ((a || more) || (b || other))
either_of_two true b more other = refl
either_of_two false true true other = refl
either_of_two false true false other = refl
either_of_two false false more other = refl

pub any_of_two : (p q : ℕ → Bool) (xs : List ℕ) → list_any (λ x. p x || q x) xs ≡ (list_any p xs || list_any q xs)
any_of_two p q [] = refl
any_of_two p q (x ∷ xs) = ap (λ b. (p x || q x) || b) (any_of_two p q xs) ∙ either_of_two (p x) (q x) (list_any p xs) (list_any q xs)

-- neither a comma nor an equals sign is a digit or a dot
not_separator : (b : ℕ) → (is_ascii_digit b || eqb b 46) ≡ true → (eqb b 44 || eqb b 61) ≡ false
not_separator b e =
    let cases : ((eqb b 44 || eqb b 61) ≡ true) ⊎ ((eqb b 44 || eqb b 61) ≡ false) = cases_Bool (eqb b 44 || eqb b 61) in
    elim cases [
      | inl is ↦ elim (or_cases (eqb b 44) (eqb b 61) is) [
        | inl comma ↦ absurd (both_ways (is_ascii_digit b || eqb b 46) (ap (λ c. is_ascii_digit c || eqb c 46) (eqb-true b 44 comma)) e)
        | inr equals ↦ absurd (both_ways (is_ascii_digit b || eqb b 46) (ap (λ c. is_ascii_digit c || eqb c 46) (eqb-true b 61 equals)) e)
      ]
      | inr is_not ↦ is_not
    ]

pub dotted_is_whole : (name : List ℕ) → is_dotted name ≡ true → list_any (λ b. eqb b 44 || eqb b 61) name ≡ false
dotted_is_whole [] e = refl
dotted_is_whole (b ∷ name) e =
    let parts = and_parts (is_ascii_digit b || eqb b 46) (is_dotted name) e in
    ap (λ c. c || list_any (λ b. eqb b 44 || eqb b 61) name) (not_separator b parts.0) ∙ dotted_is_whole name parts.1
