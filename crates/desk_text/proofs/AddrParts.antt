-- One more part of an address.
use Rattle.std.proofs.Common.{◌≡◌, ℕ, suc, zero, ◌+◌, ◌*◌, ◌^◌, ◌<◌, ◌≤◌, ◌%◌, Bool, ◌&&◌, ◌||◌, not, cond, Result, Ok, Err, IfOk, List, [], ◌∷◌, ◌++◌, length, get_or, take, true, false, arith, refl, sym, ap, subst, ◌∙◌}
use Rattle.std.specs.List.{list_all, list_any}
use Rattle.std.proofs.lemmas.List.{take_more}
use Rattle.std.proofs.lemmas.List.Sums.{fold_push}
use Rattle.std.proofs.lemmas.List.Recursion.{and_push, or_push}
use Rattle.std.specs.Str.Parse.{digits_value}
use Rattle.desk_text.specs.Bytes.{has_leading_zero, is_digits}
use Rattle.desk_text.specs.Address.{parts_value, is_byte, read_parts}
use Rattle.desk_text.specs.PrivateAddress.{read_octet, with_octet}
use Rattle.desk_text.specs.declared.address.AddrFault.{AddrFault}
use Rattle.desk_text.specs.declared.address.AddrFault.TheVariants.{Digits, Range, LeadingZero}

abbrev outcome : Bool → Bool → Bool → ℕ → Result ℕ AddrFault
outcome digits byte zero_first value = cond (not digits) (Err Digits) (cond (not byte) (Err Range) (cond zero_first (Err LeadingZero) (Ok value)))

-- a number with one more octet behind it, however large
abbrev joined : Result ℕ AddrFault → Result ℕ AddrFault → Result ℕ AddrFault
joined (Ok number) (Ok octet) = Ok (number * 256 + octet)
joined (Ok number) (Err fault) = Err fault
joined (Err fault) (Ok octet) = Err fault
joined (Err fault) (Err other) = with_octet (Err fault) (Err other)

both_outcomes : (A a B b Z z : Bool) (v w : ℕ) → outcome (A && a) (B && b) (Z || z) (v * 256 + w) ≡ joined (outcome A B Z v) (outcome a b z w)
both_outcomes false false B b Z z v w = refl
both_outcomes false true B false Z z v w = refl
both_outcomes false true B true Z false v w = refl
both_outcomes false true B true Z true v w = refl
both_outcomes true false false b Z z v w = refl
both_outcomes true false true b false z v w = refl
both_outcomes true false true b true z v w = refl
both_outcomes true true false false Z z v w = refl
both_outcomes true true false true Z false v w = refl
both_outcomes true true false true Z true v w = refl
both_outcomes true true true false false z v w = refl
both_outcomes true true true false true z v w = refl
both_outcomes true true true true false false v w = refl
both_outcomes true true true true false true v w = refl
both_outcomes true true true true true false v w = refl
both_outcomes true true true true true true v w = refl

read_parts-push : (parts : List (List ℕ)) (part : List ℕ) → read_parts (parts ++ part ∷ []) ≡ joined (read_parts parts) (read_octet part)
read_parts-push parts part =
    ap (λ a. outcome a (list_all is_byte (parts ++ part ∷ [])) (list_any has_leading_zero (parts ++ part ∷ [])) (parts_value (parts ++ part ∷ []))) (and_push (list_all is_digits) is_digits refl (λ _ _. refl) parts part)
    ∙ ap (λ b. outcome (list_all is_digits parts && is_digits part) b (list_any has_leading_zero (parts ++ part ∷ [])) (parts_value (parts ++ part ∷ []))) (and_push (list_all is_byte) is_byte refl (λ _ _. refl) parts part)
    ∙ ap (λ z. outcome (list_all is_digits parts && is_digits part) (list_all is_byte parts && is_byte part) z (parts_value (parts ++ part ∷ []))) (or_push (list_any has_leading_zero) has_leading_zero refl (λ _ _. refl) parts part)
    ∙ ap (outcome (list_all is_digits parts && is_digits part) (list_all is_byte parts && is_byte part) (list_any has_leading_zero parts || has_leading_zero part)) (fold_push (λ n p. n * 256 + digits_value 10 p) 0 parts part)
    ∙ both_outcomes (list_all is_digits parts) (is_digits part) (list_all is_byte parts) (is_byte part) (list_any has_leading_zero parts) (has_leading_zero part) (parts_value parts) (digits_value 10 part)

-- four parts fit 32 bits
below_four : (k n v : ℕ) → k < 4 → n < 256 ^ k → v < 256 → (n * 256 + v < 2 ^ 32) × (n * 256 + v < 256 ^ (k + 1))
below_four zero n v lt s b = (omega arith, omega arith)
below_four (suc zero) n v lt s b = (omega arith, omega arith)
below_four (suc (suc zero)) n v lt s b = (omega arith, omega arith)
below_four (suc (suc (suc zero))) n v lt s b = (omega arith, omega arith)
below_four (suc (suc (suc (suc k)))) n v lt s b = absurd (omega arith)

joined_is : (k : ℕ) (number octet : Result ℕ AddrFault) → k < 4 → IfOk number (λ n. n < 256 ^ k) → IfOk octet (λ v. v < 256)
    → (with_octet number octet ≡ joined number octet) × IfOk (with_octet number octet) (λ n. n < 256 ^ (k + 1))
joined_is k (Ok n) (Ok v) lt small byte =
    let fits = below_four k n v lt small byte in
    let same : (n * 256 % 2 ^ 32 + v) % 2 ^ 32 ≡ n * 256 + v = omega (arith, fits.0) in
    (ap (λ m. Ok m) same, omega (arith, fits.1, same))
joined_is k (Ok n) (Err f) lt small byte = (refl, tt)
joined_is k (Err f) (Ok v) lt small byte = (refl, tt)
joined_is k (Err f) (Err g) lt small byte = (refl, tt)

pub record SoFar (parts : List (List ℕ)) (k : ℕ) (number : Result ℕ AddrFault) : Type 0 where
  pub is : k ≤ 4 → number ≡ read_parts (take k parts)
  pub small : k ≤ 4 → IfOk number (λ n. n < 256 ^ k)

pub SoFar-more : (parts : List (List ℕ)) (k : ℕ) (part : List ℕ) (number octet new : Result ℕ AddrFault) → (k < length parts) × (part ≡ get_or parts k part) → SoFar parts k number
    → octet ≡ read_octet part → IfOk octet (λ v. v < 256) → new ≡ with_octet number octet → SoFar parts (k + 1) new
SoFar-more parts k part number octet new at so_far is byte e = record {
  is = λ few.
      let same = joined_is k number octet (omega arith) (so_far.small (omega arith)) byte in
      let next : read_parts (take (k + 1) parts) ≡ joined (read_parts (take k parts)) (read_octet part) =
      ap read_parts (take_more parts k part at.0 ∙ ap (λ p. take k parts ++ p ∷ []) (sym at.1)) ∙ read_parts-push (take k parts) part in
      e ∙ same.0 ∙ ap (λ n. joined n octet) (so_far.is (omega arith)) ∙ ap (joined (read_parts (take k parts))) is ∙ sym next;
  small = λ few.
      let same = joined_is k number octet (omega arith) (so_far.small (omega arith)) byte in
      subst (λ n. IfOk n (λ n. n < 256 ^ (k + 1))) (sym e) same.1;
}
