-- The first of a list that does not pass, or its end.
use Rattle.std.proofs.Common.{◌≡◌, ◌≤◌, ℕ, Bool, List, Some, None, ap, arith, cond, inl, inr, length, ltb, sym, ◌∙◌}
use Rattle.std.specs.List.{position, position_or_len}
use Rattle.std.proofs.lemmas.Bool.{cases_lt, lt-ltb}
use Rattle.std.proofs.lemmas.List.Sums.{prefix_len-le-length}
use Rattle.std.proofs.lemmas.Option.{cond_some, none-some}

pub found_at : {X : Type 0} (test : X → Bool) (xs : List X) (end : ℕ) → position test xs ≡ Some end → end ≡ position_or_len test xs
found_at test xs end found = sym (cond_some (ltb (position_or_len test xs) (length xs)) (position_or_len test xs) end found).1

pub at_most_length : {X : Type 0} (test : X → Bool) (xs : List X) → position_or_len test xs ≤ length xs
at_most_length test xs = prefix_len-le-length _ xs

pub found_nowhere : {X : Type 0} (test : X → Bool) (xs : List X) → position test xs ≡ None → length xs ≡ position_or_len test xs
found_nowhere test xs found =
    let end = position_or_len test xs in
    elim (cases_lt end (length xs)) as (λ _. length xs ≡ end) [
      | inl within ↦ absurd (none-some end (sym found ∙ ap (λ (b : Bool). cond b (Some end) None) (lt-ltb end (length xs) within)))
      | inr past ↦ (let most = at_most_length test xs in omega arith)
    ]
