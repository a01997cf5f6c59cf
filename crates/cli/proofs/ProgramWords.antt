-- The words behind the program's name, for `words::program_words`.
use Rattle.std.proofs.Common.{◌≡◌, ◌+◌, ◌-◌, ◌<◌, ◌≤◌, ℕ, suc, List, [], ◌∷◌, ◌++◌, arith, drop, get_or, length, take, take_all, Option, Some, None, IfSome, refl, sym, ap, ◌∙◌}
use Rattle.std.proofs.lemmas.List.{take_more}

-- the argument behind the first one's place is a word
word_of : (all : List (List ℕ)) (n : ℕ) → get_or all (suc n) [] ≡ get_or (drop 1 all) n []
word_of [] n = refl
word_of (name ∷ words) n = refl

words_are : (all : List (List ℕ)) → length (drop 1 all) ≡ length all - 1
words_are [] = refl
words_are (name ∷ words) = omega arith

-- one word more was read
pub one_more : (known : Option (List (List ℕ))) (n : ℕ) (words more : List (List ℕ)) (word : List ℕ) → IfSome known (λ all. words ≡ take n (drop 1 all)) → IfSome known (λ all. (n + 1 < length all) × (word ≡ get_or all (n + 1) [])) → more ≡ words ++ word ∷ [] → IfSome known (λ all. more ≡ take (n + 1) (drop 1 all))
one_more None n words more word so_far next is = tt
one_more (Some all) n words more word so_far next is =
    let long = words_are all in
    let on : n + 1 ≡ suc n = omega arith in
    is ∙ ap (λ ws. ws ++ word ∷ []) so_far
    ∙ ap (λ w. take n (drop 1 all) ++ w ∷ []) (next.1 ∙ ap (λ k. get_or all k []) on ∙ word_of all n)
    ∙ sym (take_more (drop 1 all) n [] (omega (arith, next.0, long)))

-- no word is left
pub no_more : (known : Option (List (List ℕ))) (n : ℕ) (words : List (List ℕ)) → IfSome known (λ all. words ≡ take n (drop 1 all)) → IfSome known (λ all. length all ≤ n + 1) → IfSome known (λ all. words ≡ drop 1 all)
no_more None n words so_far none = tt
no_more (Some all) n words so_far none =
    let long = words_are all in
    so_far ∙ take_all n (drop 1 all) (omega (arith, none, long))
