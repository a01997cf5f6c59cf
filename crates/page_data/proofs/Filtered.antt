-- What passes one test among those that pass another.
use Rattle.std.proofs.Common.{◌≡◌, ◌∙◌, Bool, true, cond, List, [], ◌∷◌, ap, arith, inl, inr, refl, sym}
use Rattle.std.specs.Prelude.{Contains, filter}
use Rattle.std.specs.List.{list_any}
use Rattle.std.proofs.lemmas.Bool.{cases_Bool, or_cases, or_left, or_right, true≢false}
use Rattle.page_data.proofs.Containing.{here, here_or_there, there}

-- a value of a list that passes both tests
pub record PassesBoth {X : Type 0} (test passes : X → Bool) (xs : List X) : Type 0 where
  pub value : X
  pub has : Contains xs value
  pub tested : test value ≡ true
  pub passed : passes value ≡ true

module _ {X : Type 0} (test passes : X → Bool) where
  one_more : (first : X) (xs : List X) → PassesBoth test passes xs → PassesBoth test passes (first ∷ xs)
  one_more first xs both = record { value = both.value; has = there first both.value xs both.has; tested = both.tested; passed = both.passed }

  pub both_in : (xs : List X) → list_any passes (filter test xs) ≡ true → PassesBoth test passes xs
  both_in [] some = absurd (true≢false (sym some))
  both_in (first ∷ xs) some =
      elim (cases_Bool (test first)) as (λ _. PassesBoth test passes (first ∷ xs)) [
        | inl kept ↦
            elim (or_cases (passes first) (list_any passes (filter test xs)) (sym (ap (λ b. list_any passes (cond b (first ∷ filter test xs) (filter test xs))) kept) ∙ some)) as (λ _. PassesBoth test passes (first ∷ xs)) [
              | inl own ↦ record { value = first; has = here first first xs refl; tested = kept; passed = own }
              | inr later ↦ one_more first xs (both_in xs later)
            ]
        | inr left ↦ one_more first xs (both_in xs (sym (ap (λ b. list_any passes (cond b (first ∷ filter test xs) (filter test xs))) left) ∙ some))
      ]

  kept_first : (first : X) (xs : List X) → test first ≡ true → passes first ≡ true → list_any passes (filter test (first ∷ xs)) ≡ true
  kept_first first xs kept passed =
      ap (λ b. list_any passes (cond b (first ∷ filter test xs) (filter test xs))) kept ∙ or_left (passes first) (list_any passes (filter test xs)) passed

  kept_later : (first : X) (xs : List X) → list_any passes (filter test xs) ≡ true → list_any passes (filter test (first ∷ xs)) ≡ true
  kept_later first xs rest =
      elim (cases_Bool (test first)) as (λ _. list_any passes (filter test (first ∷ xs)) ≡ true) [
        | inl kept ↦ ap (λ b. list_any passes (cond b (first ∷ filter test xs) (filter test xs))) kept ∙ or_right (passes first) (list_any passes (filter test xs)) rest
        | inr left ↦ ap (λ b. list_any passes (cond b (first ∷ filter test xs) (filter test xs))) left ∙ rest
      ]

  pub some_in : (xs : List X) (x : X) → Contains xs x → test x ≡ true → passes x ≡ true → list_any passes (filter test xs) ≡ true
  some_in [] x has tested passed = absurd (let lt = has.1 in omega arith)
  some_in (first ∷ xs) x has tested passed =
      elim (here_or_there first x xs has) as (λ _. list_any passes (filter test (first ∷ xs)) ≡ true) [
        | inl is ↦ kept_first first xs (ap test is ∙ tested) (ap passes is ∙ passed)
        | inr later ↦ kept_later first xs (some_in xs x later tested passed)
      ]
