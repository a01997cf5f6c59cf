-- The end of a line: blanks, a backslash, a carriage return.
use Rattle.std.proofs.Common.{◌≡◌, ◌≢◌, ℕ, ◌+◌, ◌-◌, ◌<◌, List, [], ◌∷◌, ◌++◌, length, get_or, take, eqb, true, false, arith, refl, sym, ap, ◌∙◌, ◌⊎◌, inl, inr, eq-eqb, not, reverse, suc, Some}
use Rattle.std.specs.List.{prefix_len, suffix_len}
use Rattle.std.specs.Str.Lines.{strip_carriage_return}
use Rattle.std.proofs.lemmas.Bool.{cases_Bool, eqb-true, false≢true, cond-true, cond-false}
use Rattle.std.proofs.lemmas.List.{get_or-reverse, length-reverse, take_at, get_or_push, length_push, take_more, take_all}
use Rattle.desk_text.specs.Bytes.{first_non_blank, is_blank}
use Rattle.desk_text.specs.Lines.{is_backslash, is_continued}

-- the byte that is found is the one behind the blanks
found_at : (bytes : List ℕ) → is_backslash (first_non_blank bytes) ≡ true → (prefix_len is_blank bytes < length bytes) × (get_or bytes (prefix_len is_blank bytes) 0 ≡ 92)
found_at [] h = absurd (false≢true h)
found_at (b ∷ bytes) h =
    elim (cases_Bool (is_blank b)) [
      | inl e ↦
          let rest = found_at bytes (sym (ap is_backslash (cond-false (not (is_blank b)) (Some b) (first_non_blank bytes) (ap not e))) ∙ h) in
          let len : prefix_len is_blank (b ∷ bytes) ≡ 1 + prefix_len is_blank bytes = cond-true _ _ _ e in
          let next : prefix_len is_blank (b ∷ bytes) ≡ suc (prefix_len is_blank bytes) = omega (arith, len) in
          (omega (arith, rest.0, len), ap (λ k. get_or (b ∷ bytes) k 0) next ∙ rest.1)
      | inr e ↦
          let is : eqb b 92 ≡ true = sym (ap is_backslash (cond-true (not (is_blank b)) (Some b) (first_non_blank bytes) (ap not e))) ∙ h in
          let len : prefix_len is_blank (b ∷ bytes) ≡ 0 = cond-false _ _ _ e in
          (omega (arith, len), ap (λ k. get_or (b ∷ bytes) k 0) len ∙ eqb-true b 92 is)
    ]

-- where the backslash of a continued line stands
pub continued_end : (line : List ℕ) → is_continued line ≡ true → (suffix_len is_blank line < length line) × (get_or line (length line - suffix_len is_blank line - 1) 0 ≡ 92)
continued_end line h =
    let at = found_at (reverse line) h in
    let long : length (reverse line) ≡ length line = length-reverse line in
    let within : suffix_len is_blank line < length line = omega (arith, at.0) in
    let place : length line - 1 - suffix_len is_blank line ≡ length line - suffix_len is_blank line - 1 = omega arith in
    (within, ap (λ k. get_or line k 0) (sym place) ∙ sym (get_or-reverse line (suffix_len is_blank line) 0 within) ∙ at.1)

pub strip-some : (bs front : List ℕ) → bs ≡ front ++ 13 ∷ [] → strip_carriage_return bs ≡ front
strip-some bs front e =
    let n : length bs ≡ length front + 1 = ap length e ∙ length_push front 13 in
    let last : get_or bs (length bs - 1) 0 ≡ 13 = ap (λ xs. get_or xs (length bs - 1) 0) e ∙ get_or_push front 13 0 (length bs - 1) (omega arith) in
    cond-true _ _ _ (eq-eqb _ _ last) ∙ ap (take (length bs - 1)) e ∙ take_at front (13 ∷ []) (length bs - 1) (omega arith)

pub strip-none : (bs : List ℕ) → ((front : List ℕ) → bs ≢ front ++ 13 ∷ []) → strip_carriage_return bs ≡ bs
strip-none [] h = refl
strip-none (b ∷ bs) h =
    let xs : List ℕ = b ∷ bs in
    let lt : length xs - 1 < length xs = omega arith in
    let ends : get_or xs (length xs - 1) 0 ≡ 13 → xs ≡ take (length xs - 1) xs ++ 13 ∷ [] =
    λ e. sym (take_all (length xs - 1 + 1) xs (omega arith)) ∙ take_more xs (length xs - 1) 0 lt ∙ ap (λ x. take (length xs - 1) xs ++ x ∷ []) e in
    let cases : (eqb (get_or xs (length xs - 1) 0) 13 ≡ true) ⊎ (eqb (get_or xs (length xs - 1) 0) 13 ≡ false) = cases_Bool _ in
    elim cases [ inl t ↦ absurd (h _ (ends (eqb-true _ _ t))) | inr f ↦ cond-false _ _ _ f ]
