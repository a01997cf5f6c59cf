-- Sums over numbers one after another.
use Rattle.std.proofs.Common.{◌≡◌, ℕ, zero, suc, ◌+◌, ◌<◌, ◌≤◌, ◌++◌, ◌∙◌, Bool, List, [], ◌∷◌, ap, append_assoc, arith, cond, eqb, inl, inr, refl, sym}
use Rattle.std.specs.List.{count_by, flat_map, range_with_len, sum_by}
use Rattle.std.proofs.lemmas.Bool.{cases_eq, cond-false, cond-true, eq-eqb, ne_eqb}
use Rattle.std.proofs.lemmas.List.Sums.{sum_by-append, sum_by-cons}

-- what passes among the values of a list
pub count_in_each : {X Y : Type 0} (test : Y → Bool) (f : X → List Y) (xs : List X) → count_by test (flat_map f xs) ≡ sum_by (λ x. count_by test (f x)) xs
count_in_each test f [] = refl
count_in_each test f (x ∷ xs) =
    sum_by-append (λ y. cond (test y) 1 0) (f x) (flat_map f xs) ∙ ap (λ n. count_by test (f x) + n) (count_in_each test f xs)
    ∙ sym (sum_by-cons (λ z. count_by test (f z)) x xs)

-- texts of texts
pub text_of_each : {X Y : Type 0} (text : Y → List ℕ) (f : X → List Y) (xs : List X) → flat_map text (flat_map f xs) ≡ flat_map (λ x. flat_map text (f x)) xs
text_of_each text f [] = refl
text_of_each text f (x ∷ xs) = both (f x) ∙ ap (λ t. flat_map text (f x) ++ t) (text_of_each text f xs)
  where
    both : (ys : List _) → flat_map text (ys ++ flat_map f xs) ≡ flat_map text ys ++ flat_map text (flat_map f xs)
    both [] = refl
    both (y ∷ ys) = ap (λ t. text y ++ t) (both ys) ∙ sym (append_assoc (text y) (flat_map text ys) (flat_map text (flat_map f xs)))

-- the same of each number
pub same_sums : (f g : ℕ → ℕ) (a n : ℕ) → ((k : ℕ) → a ≤ k → k < a + n → f k ≡ g k) → sum_by f (range_with_len a n) ≡ sum_by g (range_with_len a n)
same_sums f g a zero same = refl
same_sums f g a (suc n) same =
    sum_by-cons f a (range_with_len (a + 1) n) ∙ ap (λ m. m + sum_by f (range_with_len (a + 1) n)) (same a (omega arith) (omega arith))
    ∙ ap (λ m. g a + m) (same_sums f g (a + 1) n (λ k from to. same k (omega arith) (omega arith))) ∙ sym (sum_by-cons g a (range_with_len (a + 1) n))

pub same_texts : (f g : ℕ → List ℕ) (a n : ℕ) → ((k : ℕ) → a ≤ k → k < a + n → f k ≡ g k) → flat_map f (range_with_len a n) ≡ flat_map g (range_with_len a n)
same_texts f g a zero same = refl
same_texts f g a (suc n) same =
    ap (λ t. t ++ flat_map f (range_with_len (a + 1) n)) (same a (omega arith) (omega arith))
    ∙ ap (λ t. g a ++ t) (same_texts f g (a + 1) n (λ k from to. same k (omega arith) (omega arith)))

-- a value at one number, and nothing at the others
abbrev pub at_one : ℕ → ℕ → ℕ → ℕ
at_one number value k = cond (eqb k number) value 0

none_before : (number value a n : ℕ) → number < a → sum_by (at_one number value) (range_with_len a n) ≡ 0
none_before number value a zero less = refl
none_before number value a (suc n) less =
    let here : at_one number value a ≡ 0 = cond-false (eqb a number) value 0 (ne_eqb a number (λ e. omega arith)) in
    let rest = none_before number value (a + 1) n (omega arith) in
    sum_by-cons (at_one number value) a (range_with_len (a + 1) n) ∙ omega arith

pub one_value : (number value a n : ℕ) → a ≤ number → number < a + n → sum_by (at_one number value) (range_with_len a n) ≡ value
one_value number value a zero from to = absurd (omega arith)
one_value number value a (suc n) from to =
    elim (cases_eq a number) as (λ _. sum_by (at_one number value) (range_with_len a (suc n)) ≡ value) [
      | inl is ↦
          let here : at_one number value a ≡ value = cond-true (eqb a number) value 0 (eq-eqb a number is) in
          let rest = none_before number value (a + 1) n (omega arith) in
          sum_by-cons (at_one number value) a (range_with_len (a + 1) n) ∙ omega arith
      | inr other ↦
          let here : at_one number value a ≡ 0 = cond-false (eqb a number) value 0 (ne_eqb a number other) in
          let above : a + 1 ≤ number = (let no = other in omega arith) in
          let rest = one_value number value (a + 1) n above (omega arith) in
          sum_by-cons (at_one number value) a (range_with_len (a + 1) n) ∙ omega arith
    ]

pub no_value : (f : ℕ → ℕ) (a n : ℕ) → ((k : ℕ) → a ≤ k → k < a + n → f k ≡ 0) → sum_by f (range_with_len a n) ≡ 0
no_value f a zero none = refl
no_value f a (suc n) none =
    let here = none a (omega arith) (omega arith) in
    let rest = no_value f (a + 1) n (λ k from to. none k (omega arith) (omega arith)) in
    sum_by-cons f a (range_with_len (a + 1) n) ∙ omega arith
