-- The warnings of one word more.
use Rattle.std.proofs.Common.{◌≡◌, ℕ, ◌+◌, ◌<◌, ◌++◌, ◌∷◌, ◌∙◌, List, [], Option, ap, arith, get_or, length, sym, take}
use Rattle.std.proofs.lemmas.List.{flat_map_more, length-take-le, take_more}
use Rattle.std.specs.List.{enumerate_from, flat_map}
use Rattle.desk_policy.specs.Warning.{warning_if, word_warnings}
use Rattle.desk_policy.specs.declared.warning.Warning.{Warning}
use Rattle.desk_policy.specs.declared.warning.WarningKind.{WarningKind}

enumerated : {X : Type 0} (n : ℕ) (xs : List X) (x : X) → enumerate_from n (xs ++ x ∷ []) ≡ enumerate_from n xs ++ (n + length xs, x) ∷ []
enumerated {X} n [] x = let none : n ≡ n + 0 = omega arith in ap {B = List (ℕ × X)} (λ k. (k, x) ∷ []) none
enumerated {X} n (y ∷ xs) x =
    let on : n + 1 + length xs ≡ n + (length (y ∷ xs)) = omega arith in
    ap (λ l. (n, y) ∷ l) (enumerated (n + 1) xs x ∙ ap {B = List (ℕ × X)} (λ k. enumerate_from (n + 1) xs ++ (k, x) ∷ []) on)

module _ {X : Type 0} (file : List ℕ) (line : ℕ) (word : X → List ℕ) (kind : X → Option WarningKind) where
  abbrev warning_of : ℕ × X → List Warning
  warning_of one = warning_if file line one.0 (word one.1) (kind one.1)

  -- the warnings of the words before this one, and its own, are those of the words up to it
  pub one_more : (xs : List X) (i : ℕ) (x : X) (before : List Warning) → i < length xs → x ≡ get_or xs i x
      → (before ++ word_warnings file line word kind (take i xs)) ++ warning_if file line i (word x) (kind x) ≡ before ++ word_warnings file line word kind (take (i + 1) xs)
  one_more xs i x before below is =
      let longer : take (i + 1) xs ≡ take i xs ++ x ∷ [] = take_more xs i x below ∙ ap (λ (y : X). take i xs ++ y ∷ []) (sym is) in
      let count : length (take i xs) ≡ i = length-take-le i xs (omega (arith, below)) in
      let len : 0 + length (take i xs) ≡ i = omega (arith, count) in
      ap (λ n. (before ++ word_warnings file line word kind (take i xs)) ++ warning_if file line n (word x) (kind x)) (sym len)
      ∙ flat_map_more warning_of before (enumerate_from 0 (take i xs)) (0 + length (take i xs), x)
      ∙ ap (λ l. before ++ flat_map warning_of l) (sym (enumerated 0 (take i xs) x) ∙ ap (enumerate_from 0) (sym longer))
