-- Words between blanks are those between spaces and then between tabs.
use Rattle.std.proofs.Common.{◌≡◌, ◌==◌, ◌||◌, ◌++◌, ℕ, Bool, Bor, true, false, not, List, [], ◌∷◌, filter, length, take, get_or, map, ap, sym, ◌∙◌, refl, ◌<◌, ◌+◌, inl, inr, arith}
use Rattle.std.specs.List.{flat_map, list_any, onto_first, slice_split}
use Rattle.std.proofs.lemmas.Bool.{cases_Bool, cond-true, cond-false}
use Rattle.std.proofs.lemmas.Grind.{flat_map-append}
use Rattle.std.proofs.lemmas.List.{append-nil, take_more}
use Rattle.std.proofs.lemmas.List.Elements.{filter-append}
use Rattle.desk_tables.specs.SpacedLines.{words_of}
use Rattle.desk_tables.specs.PrivateSpacedLines.{words_between_tabs}

module _ (p q : ℕ → Bool) where
  abbrev either : ℕ → Bool
  either b = p b || q b

  -- cut at the second kind within the cuts at the first kind
  abbrev twice : List ℕ → List (List ℕ)
  twice text = flat_map (slice_split q) (slice_split p text)

  onto_append : (x : ℕ) (parts more : List (List ℕ)) → 0 < length parts → onto_first x (parts ++ more) ≡ onto_first x parts ++ more
  onto_append x [] more some = absurd (omega arith)
  onto_append x (part ∷ parts) more some = refl

  onto_some : (x : ℕ) (parts : List (List ℕ)) → 0 < length (onto_first x parts)
  onto_some x [] = omega arith
  onto_some x (part ∷ parts) = omega arith

  some_parts : (r : ℕ → Bool) (text : List ℕ) → 0 < length (slice_split r text)
  some_parts r [] = omega arith
  some_parts r (x ∷ text) =
      elim (cases_Bool (r x)) [
        | inl e ↦ rw (cond-true (r x) ([] ∷ slice_split r text) (onto_first x (slice_split r text)) e) (omega arith)
        | inr e ↦ rw (cond-false (r x) ([] ∷ slice_split r text) (onto_first x (slice_split r text)) e) (onto_some x (slice_split r text))
      ]

  onto_twice : (x : ℕ) (parts : List (List ℕ)) → q x ≡ false → 0 < length parts → flat_map (slice_split q) (onto_first x parts) ≡ onto_first x (flat_map (slice_split q) parts)
  onto_twice x [] fails some = absurd (omega arith)
  onto_twice x (part ∷ parts) fails some =
      ap (λ ws. ws ++ flat_map (slice_split q) parts) (cond-false (q x) ([] ∷ slice_split q part) (onto_first x (slice_split q part)) fails)
      ∙ sym (onto_append x (slice_split q part) (flat_map (slice_split q) parts) (some_parts q part))

  cut_twice : (x : ℕ) (parts : List (List ℕ)) → q x ≡ true → 0 < length parts → flat_map (slice_split q) (onto_first x parts) ≡ [] ∷ flat_map (slice_split q) parts
  cut_twice x [] passes some = absurd (omega arith)
  cut_twice x (part ∷ parts) passes some =
      ap (λ ws. ws ++ flat_map (slice_split q) parts) (cond-true (q x) ([] ∷ slice_split q part) (onto_first x (slice_split q part)) passes)

  pub twice_is : (text : List ℕ) → twice text ≡ slice_split either text
  twice_is [] = refl
  twice_is (x ∷ text) =
      elim (cases_Bool (p x)) [
        | inl e ↦
            ap (flat_map (slice_split q)) (cond-true (p x) ([] ∷ slice_split p text) (onto_first x (slice_split p text)) e)
            ∙ ap (λ ws. [] ∷ ws) (twice_is text)
            ∙ sym (cond-true (either x) ([] ∷ slice_split either text) (onto_first x (slice_split either text)) (ap (λ b. b || q x) e))
        | inr e ↦
            ap (flat_map (slice_split q)) (cond-false (p x) ([] ∷ slice_split p text) (onto_first x (slice_split p text)) e)
            ∙ elim (cases_Bool (q x)) [
              | inl passes ↦
                  cut_twice x (slice_split p text) passes (some_parts p text)
                  ∙ ap (λ ws. [] ∷ ws) (twice_is text)
                  ∙ sym (cond-true (either x) ([] ∷ slice_split either text) (onto_first x (slice_split either text)) (ap (λ b. b || q x) e ∙ passes))
              | inr fails ↦
                  onto_twice x (slice_split p text) fails (some_parts p text)
                  ∙ ap (onto_first x) (twice_is text)
                  ∙ sym (cond-false (either x) ([] ∷ slice_split either text) (onto_first x (slice_split either text)) (ap (λ b. b || q x) e ∙ fails))
            ]
      ]

-- a word that is no empty one
abbrev is_word : List ℕ → Bool
is_word word = not (length word == 0)

filter-flat_map : (f : List ℕ → List (List ℕ)) (runs : List (List ℕ)) → flat_map (λ run. filter is_word (f run)) runs ≡ filter is_word (flat_map f runs)
filter-flat_map f [] = refl
filter-flat_map f (run ∷ runs) =
    ap (λ ws. filter is_word (f run) ++ ws) (filter-flat_map f runs) ∙ sym (filter-append is_word (f run) (flat_map f runs))

-- the words between spaces and then between tabs
pub words_are : (text : List ℕ) → flat_map words_between_tabs (slice_split (λ b. b == 32) text) ≡ words_of text
words_are text =
    filter-flat_map (slice_split (λ b. b == 9)) (slice_split (λ b. b == 32) text)
    ∙ ap (filter is_word) (twice_is (λ b. b == 32) (λ b. b == 9) text)

module _ (parts : List (List ℕ)) (k : ℕ) (part : List ℕ) (turn : (k < length parts) × (part ≡ get_or parts k part)) where
  -- one more part
  taken : take (k + 1) parts ≡ take k parts ++ part ∷ []
  taken = take_more parts k part turn.0 ∙ ap (λ x. take k parts ++ x ∷ []) (sym turn.1)

  pub runs_more : flat_map words_between_tabs (take (k + 1) parts) ≡ flat_map words_between_tabs (take k parts) ++ words_between_tabs part
  runs_more =
      ap (flat_map words_between_tabs) taken ∙ flat_map-append words_between_tabs (take k parts) (part ∷ [])
      ∙ ap (λ ws. flat_map words_between_tabs (take k parts) ++ ws) (append-nil (words_between_tabs part))

  pub word_more : is_word part ≡ true → filter is_word (take (k + 1) parts) ≡ filter is_word (take k parts) ++ part ∷ []
  word_more passes =
      ap (filter is_word) taken ∙ filter-append is_word (take k parts) (part ∷ [])
      ∙ ap (λ ws. filter is_word (take k parts) ++ ws) (cond-true (is_word part) (part ∷ []) [] passes)

  pub word_less : is_word part ≡ false → filter is_word (take (k + 1) parts) ≡ filter is_word (take k parts)
  word_less fails =
      ap (filter is_word) taken ∙ filter-append is_word (take k parts) (part ∷ [])
      ∙ ap (λ ws. filter is_word (take k parts) ++ ws) (cond-false (is_word part) (part ∷ []) [] fails)
      ∙ append-nil (filter is_word (take k parts))

-- a test of the texts behind references
pub any_now : (p : List ℕ → Bool) (xs : List (Bor (List ℕ))) → list_any (λ x. p x.now) xs ≡ list_any p (map (λ x. x.now) xs)
any_now p [] = refl
any_now p (x ∷ xs) = ap (λ b. p x.now || b) (any_now p xs)
