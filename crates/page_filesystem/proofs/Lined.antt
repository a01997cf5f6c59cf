-- The rows of a text's lines, with one more.
use Rattle.std.proofs.Common.{◌≡◌, ◌<◌, ◌+◌, ◌++◌, ◌∙◌, ℕ, List, [], ◌∷◌, ap, append_assoc, arith, get_or, length, sym, take}
use Rattle.std.proofs.lemmas.List.{append-nil, length-take-le, take_more}
use Rattle.page_filesystem.specs.Texts.{text_row, text_rows}
use Rattle.page_filesystem.specs.declared.gutter.Note.{Note}

module _ (fs : ℕ) (notes : List Note) where
  rows_push : (before : ℕ) (xs : List (List ℕ)) (x : List ℕ) → text_rows fs notes before (xs ++ x ∷ []) ≡ text_rows fs notes before xs ++ text_row fs
      notes (before + length xs + 1) x
  rows_push before [] x = append-nil (text_row fs notes (before + 1) x) ∙ ap (λ n. text_row fs notes n x)
      (let e : before + 1 ≡ before + 0 + 1 = omega arith in e)
  rows_push before (y ∷ xs) x =
      ap (λ t. text_row fs notes (before + 1) y ++ t) (rows_push (before + 1) xs x)
      ∙ ap (λ n. text_row fs notes (before + 1) y ++ (text_rows fs notes (before + 1) xs ++ text_row fs notes n x))
      (let e : before + 1 + length xs + 1 ≡ before + length (y ∷ xs) + 1 = omega arith in e)
      ∙ sym (append_assoc (text_row fs notes (before + 1) y) (text_rows fs notes (before + 1) xs)
      (text_row fs notes (before + length (y ∷ xs) + 1) x))

  pub rows_more : (ls : List (List ℕ)) (k number : ℕ) (line : List ℕ) (start now next : List ℕ) → k < length ls → line ≡ get_or ls k line → number ≡ k
      → now ≡ start ++ text_rows fs notes 0 (take k ls) → next ≡ now ++ text_row fs notes (number + 1) line → next ≡ start ++ text_rows fs notes 0
      (take (k + 1) ls)
  rows_more ls k number line start now next within is counted before added =
      let here : 0 + length (take k ls) + 1 ≡ number + 1 = omega (arith, length-take-le k ls) in
      added ∙ ap (λ t. t ++ text_row fs notes (number + 1) line) before ∙ append_assoc start (text_rows fs notes 0 (take k ls))
      (text_row fs notes (number + 1) line)
      ∙ ap (λ n. start ++ (text_rows fs notes 0 (take k ls) ++ text_row fs notes n line)) (sym here)
      ∙ ap (λ t. start ++ t) (sym (rows_push 0 (take k ls) line)) ∙ ap (λ l. start ++ text_rows fs notes 0 (take k ls ++ l ∷ [])) is
      ∙ ap (λ xs. start ++ text_rows fs notes 0 xs) (sym (take_more ls k line within))
