-- Lemmas on cutting the first or the last piece off a text.
use Rattle.std.proofs.Common.{◌≡◌, ◌∙◌, ◌⊎◌, inl, inr, ℕ, ◌<◌, ◌≤◌, ◌+◌, Bool, true, false, eqb, List, [], ◌∷◌, ◌++◌, Option, Some, None, MatchOption, length, take, drop, ap, sym, refl, arith, lit<, take-append-drop}
use Rattle.std.specs.Borrow.{Bor}
use Rattle.std.specs.List.{after_first, onto_first, slice_split}
use Rattle.std.specs.Str.{NoCharPasses}
use Rattle.std.specs.Str.Pattern.{RFindsChar}
use Rattle.std.proofs.lemmas.Bool.{cases_Bool, ne_eqb}
use Rattle.std.proofs.lemmas.List.{get_or_default}
use Rattle.std.proofs.lemmas.List.Splits.{length-slice_split, slice_split-cons_no, slice_split-cons_yes, slice_split_first, slice_split_none}
use Rattle.std.proofs.lemmas.Str.Pattern.{IsSplitOnceResult, NoCharPasses-char, drop_at_char, split_once_first}

onto_first-append : {X : Type 0} (x : X) (parts rest : List (List X)) → 0 < length parts → onto_first x (parts ++ rest) ≡ onto_first x parts ++ rest
onto_first-append x [] rest l = absurd (omega arith)
onto_first-append x (part ∷ parts) rest l = refl

-- the pieces before a separator, and those behind it
split_append : {X : Type 0} (p : X → Bool) (xs : List X) (y : X) (ys : List X) → p y ≡ true → slice_split p (xs ++ y ∷ ys) ≡ slice_split p xs ++ slice_split p ys
split_append p [] y ys e = slice_split-cons_yes p y ys e
split_append p (x ∷ xs) y ys e =
    let rest = split_append p xs y ys e in
    let cases : (p x ≡ true) ⊎ (p x ≡ false) = cases_Bool (p x) in
    elim cases [
      | inl passes ↦
          slice_split-cons_yes p x (xs ++ y ∷ ys) passes ∙ ap (λ s. [] ∷ s) rest ∙ sym (ap (λ s. s ++ slice_split p ys) (slice_split-cons_yes p x xs passes))
      | inr fails ↦
          slice_split-cons_no p x (xs ++ y ∷ ys) fails ∙ ap (onto_first x) rest
          ∙ onto_first-append x (slice_split p xs) (slice_split p ys) (omega (arith, length-slice_split p xs))
          ∙ sym (ap (λ s. s ++ slice_split p ys) (slice_split-cons_no p x xs fails))
    ]

-- a text without the separator is one piece
one_piece : (c : ℕ) (bs : List ℕ) → NoCharPasses (λ d. eqb d c) bs → c < 128 → slice_split (λ b. eqb b c) bs ≡ bs ∷ []
one_piece c bs none low = slice_split_none (λ b. eqb b c) bs (λ k d l. ap (λ b. eqb b c) (get_or_default bs k d 0 l) ∙ ne_eqb _ c (NoCharPasses-char c bs k none low l))

-- takes the clause of `split_once` at a comma
pub cut_first : (bs : List ℕ) (r : Option (Bor (List ℕ) × Bor (List ℕ))) → IsSplitOnceResult 44 bs r
    → MatchOption r (slice_split (λ b. eqb b 44) bs ≡ bs ∷ []) (λ x. slice_split (λ b. eqb b 44) bs ≡ x.0.now ∷ slice_split (λ b. eqb b 44) x.1.now)
cut_first bs None h = one_piece 44 bs h (lit< tt)
cut_first bs (Some x) h =
    let p : ℕ → Bool = λ b. eqb b 44 in
    let cut = split_once_first 44 bs (Some x) h (lit< tt) in
    slice_split_first p bs 0 cut.0 ∙ ap (λ first. first ∷ slice_split p (after_first p bs)) (sym cut.1) ∙ ap (λ behind. x.0.now ∷ slice_split p behind) (sym cut.2)

pub some_piece : (p : ℕ → Bool) (bs : List ℕ) → 0 < length (slice_split p bs)
some_piece p bs = omega (arith, length-slice_split p bs)

-- takes the clause of `rsplit_once` at an ASCII character
pub cut_last : (bs : Bor (List ℕ)) (r : Option (Bor (List ℕ) × Bor (List ℕ)))
    → MatchOption r (RFindsChar 44 bs.now None) (λ x. (i : ℕ) × (j : ℕ) × RFindsChar 44 bs.now (Some (i, j)) × (x.0.now ≡ take i bs.now) × (x.1.now ≡ drop j bs.now) × (i ≤ j) × (length x.0.now ≡ i) × (length x.1.now + j ≡ length bs.now))
    → MatchOption r (slice_split (λ b. eqb b 44) bs.now ≡ bs.now ∷ []) (λ x. slice_split (λ b. eqb b 44) bs.now ≡ slice_split (λ b. eqb b 44) x.0.now ++ x.1.now ∷ [])
cut_last bs None h = one_piece 44 bs.now h (lit< tt)
cut_last bs (Some x) h =
    let p : ℕ → Bool = λ b. eqb b 44 in
    let whole : bs.now ≡ take h.0 bs.now ++ 44 ∷ drop h.1 bs.now =
    sym (take-append-drop h.0 bs.now) ∙ ap (λ s. take h.0 bs.now ++ s) (drop_at_char 44 bs.now h.0 h.1 h.2.1 (lit< tt)) in
    ap (slice_split p) whole ∙ split_append p (take h.0 bs.now) 44 (drop h.1 bs.now) refl
    ∙ ap (λ s. slice_split p (take h.0 bs.now) ++ s) (one_piece 44 (drop h.1 bs.now) h.2.0 (lit< tt))
    ∙ ap (λ front. slice_split p front ++ drop h.1 bs.now ∷ []) (sym h.3)
    ∙ ap (λ last. slice_split p x.0.now ++ last ∷ []) (sym h.4)
