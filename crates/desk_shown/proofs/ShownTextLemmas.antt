-- Marks that are repeated, and how long a code is.
use Rattle.std.proofs.Common.{◌≡◌, ℕ, zero, suc, ◌+◌, ◌/◌, ◌%◌, ◌<◌, ◌≤◌, ◌==◌, ◌++◌, ◌∷◌, ◌∙◌, [], List, Bool, true, false, arith, length, refl, ap, if◌then◌else◌}
use Rattle.std.proofs.lemmas.Bool.Decides.{nat_tests}
use Rattle.std.proofs.lemmas.List.{length-append}
use Rattle.std.specs.Fmt.{digit_glyph, digits, digits_onto}
use Rattle.std.specs.List.{repeat}
use Rattle.desk_shown.specs.ShownText.{code}

-- one mark more
pub repeat_more : (n : ℕ) (mark : ℕ) → repeat n (mark ∷ []) ++ mark ∷ [] ≡ repeat (suc n) (mark ∷ [])
repeat_more zero mark = refl
repeat_more (suc n) mark = ap (λ marks. mark ∷ marks) (repeat_more n mark)

-- so many digits more than one write n
abbrev HasMore : ℕ → ℕ → Type 0
HasMore zero n = n < 16
HasMore (suc more) n = (16 ≤ n) × HasMore more (n / 16)

onto_last : (left n : ℕ) (after : List ℕ) → (n / 16 == 0) ≡ true → length (digits_onto (suc left) 16 false n after) ≡ suc (length after)
onto_last left n after last =
    ap (λ (b : Bool). length (if b then digit_glyph false (n % 16) ∷ after else digits_onto left 16 false (n / 16) (digit_glyph false (n % 16) ∷ after))) last

onto_more : (left n : ℕ) (after : List ℕ) → (n / 16 == 0) ≡ false → length (digits_onto (suc left) 16 false n after) ≡ length (digits_onto left 16 false (n / 16) (digit_glyph false (n % 16) ∷ after))
onto_more left n after other =
    ap (λ (b : Bool). length (if b then digit_glyph false (n % 16) ∷ after else digits_onto left 16 false (n / 16) (digit_glyph false (n % 16) ∷ after))) other

onto_length : (more left n : ℕ) (after : List ℕ) → more < left → HasMore more n → length (digits_onto left 16 false n after) ≡ suc (more + length after)
onto_length more zero n after room has = absurd (omega (arith, room))
onto_length zero (suc left) n after room few =
    let below : n < 16 = few in
    let none : n / 16 ≡ 0 = omega arith in
    let last : (n / 16 == 0) ≡ true = grind (arith, nat_tests) in
    onto_last left n after last ∙ omega arith
onto_length (suc more) (suc left) n after room many =
    let above : 16 ≤ n = many.0 in
    let some : 0 < n / 16 = omega arith in
    let other : (n / 16 == 0) ≡ false = grind (arith, nat_tests) in
    let rest : length (digits_onto left 16 false (n / 16) (digit_glyph false (n % 16) ∷ after)) ≡ suc (more + suc (length after)) =
    onto_length more left (n / 16) (digit_glyph false (n % 16) ∷ after) (omega (arith, room)) many.1 in
    onto_more left n after other ∙ rest ∙ omega arith

digits_length : (more n : ℕ) → more < 64 → HasMore more n → length (digits 16 false n) ≡ suc more
unfolding digits
digits_length more n within has =
    let full : length (digits_onto 64 16 false n []) ≡ suc (more + 0) = onto_length more 64 n [] within has in
    full ∙ omega arith

length_of_code : (more n : ℕ) → more < 64 → HasMore more n → length (code n) ≡ more + 5
length_of_code more n within has = rw (length-append, digits_length more n within has) (omega arith)

pub code_of_1 : (n : ℕ) → n < 16 → length (code n) ≡ 5
code_of_1 n high = length_of_code 0 n (omega arith) high

pub code_of_2 : (n : ℕ) → 16 ≤ n → n < 256 → length (code n) ≡ 6
code_of_2 n low high = length_of_code 1 n (omega arith) (low, omega arith)

pub code_of_3 : (n : ℕ) → 256 ≤ n → n < 4096 → length (code n) ≡ 7
code_of_3 n low high = length_of_code 2 n (omega arith) (omega arith, (omega arith, omega arith))

pub code_of_4 : (n : ℕ) → 4096 ≤ n → n < 65536 → length (code n) ≡ 8
code_of_4 n low high = length_of_code 3 n (omega arith) (omega arith, (omega arith, (omega arith, omega arith)))

pub code_of_5 : (n : ℕ) → 65536 ≤ n → n < 1048576 → length (code n) ≡ 9
code_of_5 n low high = length_of_code 4 n (omega arith) (omega arith, (omega arith, (omega arith, (omega arith, omega arith))))

pub code_of_6 : (n : ℕ) → 1048576 ≤ n → n < 16777216 → length (code n) ≡ 10
code_of_6 n low high = length_of_code 5 n (omega arith) (omega arith, (omega arith, (omega arith, (omega arith, (omega arith, omega arith)))))
