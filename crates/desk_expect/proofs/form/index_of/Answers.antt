use Rattle.std.proofs.Common.{◌≡◌, ◌∙◌, ℕ, Bool, List, None, Some, arith, inl, inr, length, sym}
use Rattle.std.specs.List.{position, position_or_len}
use Rattle.std.specs.Str.{bytes_eq}
use Rattle.std.proofs.lemmas.Bool.{cases_lt, cond-false, cond-true, le-ltb, lt-ltb}
use Rattle.std.proofs.lemmas.List.Sums.{prefix_len-le-length}
use Rattle.std.specs.Prelude.{not}
use Rattle.desk_expect.proofs.form.index_of.Goals as goal

at_place : (p : List ℕ → Bool) (xs : List (List ℕ)) (i : ℕ) → position p xs ≡ Some i → i ≡ position_or_len p xs
at_place p xs i found = elim (cases_lt (position_or_len p xs) (length xs)) as (λ _. i ≡ position_or_len p xs) [
  | inl within ↦ (let e : Some i ≡ Some (position_or_len p xs) = sym found ∙ cond-true _ (Some (position_or_len p xs)) None (lt-ltb _ _ within) in cc)
  | inr over ↦ (let e : Some i ≡ None = sym found ∙ cond-false _ (Some (position_or_len p xs)) None (le-ltb _ _ over) in cc)
]

at_end : (p : List ℕ → Bool) (xs : List (List ℕ)) → position p xs ≡ None → length xs ≡ position_or_len p xs
at_end p xs none = elim (cases_lt (position_or_len p xs) (length xs)) as (λ _. length xs ≡ position_or_len p xs) [
  | inl within ↦ (let e : None ≡ Some (position_or_len p xs) = sym none ∙ cond-true _ (Some (position_or_len p xs)) None (lt-ltb _ _ within) in cc)
  | inr over ↦ omega (arith, prefix_len-le-length (λ x. not (p x)) xs)
]

pub returns-in-Some-clause-value : goal.returns-in-Some-clause-value
returns-in-Some-clause-value c = at_place (λ other. bytes_eq other c.args.word.now) c.args.words.now c.in-Some.at (sym c.place_of.ensures ∙ c.in-Some.is)

pub returns-in-None-clause-value : goal.returns-in-None-clause-value
returns-in-None-clause-value c = at_end (λ other. bytes_eq other c.args.word.now) c.args.words.now (sym c.place_of.ensures ∙ c.in-None.is)
