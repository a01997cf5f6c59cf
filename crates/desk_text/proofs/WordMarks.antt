-- Whether a quote or a backslash stands in the first bytes of a text.
use Rattle.std.proofs.Common.{◌≡◌, ℕ, ◌+◌, ◌<◌, ◌≤◌, Bool, true, false, ◌||◌, List, length, get_or, take, drop, refl, ap, ◌∙◌, arith}
use Rattle.std.proofs.lemmas.List.{get_or-take, length-drop, length-take-le}
use Rattle.std.proofs.lemmas.List.Folds.{list_any_at, list_any_more}
use Rattle.desk_text.specs.PrivateWord.{IsAtomLen}
use Rattle.desk_text.specs.Word.{has_marks, is_special}

or_none : (b : Bool) → (b || false) ≡ b
or_none true = refl
or_none false = refl

module _ (text : List ℕ) (n : ℕ) (within : n < length text) where
  -- a quote or a backslash at this place, with what belongs to it
  pub marks_there : (k : ℕ) → is_special (get_or text n 0) ≡ true → IsAtomLen (drop n text) k → has_marks (take (n + k) text) ≡ true
  marks_there k special atom =
      let fits : n + k ≤ length text = omega (arith, atom.within, length-drop n text) in
      let long : length (take (n + k) text) ≡ n + k = length-take-le (n + k) text fits in
      let before : n < n + k = omega (arith, atom.some) in
      let inside : n < length (take (n + k) text) = omega (arith, long, before) in
      list_any_at is_special (take (n + k) text) n 0 inside (ap is_special (get_or-take (n + k) text n 0 before) ∙ special)

  -- any other byte
  pub marks_before : (marked : Bool) → is_special (get_or text n 0) ≡ false → has_marks (take n text) ≡ marked → has_marks (take (n + 1) text) ≡ marked
  marks_before marked plain so_far =
      list_any_more is_special text n 0 within ∙ ap (λ b. has_marks (take n text) || b) plain ∙ or_none (has_marks (take n text)) ∙ so_far
