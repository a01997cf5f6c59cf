-- Why bytes are no text, and where, for `input::text_of` and `input::last_line`.
use Rattle.std.proofs.Common.{◌≡◌, ◌≢◌, ℕ, ◌-◌, ◌<◌, ◌≤◌, ◌==◌, Bool, true, false, not, List, length, take, drop, slice_index, Ok, Err, nat_lt, refl, sym, ap, ◌∙◌, arith}
use Rattle.std.proofs.lemmas.Bool.{ne_eqb}
use Rattle.std.proofs.lemmas.Bool.Decides.{nat_tests}
use Rattle.std.proofs.lemmas.List.{take_rest}
use Rattle.std.proofs.lemmas.List.Sums.{suffix_len_is}
use Rattle.std.proofs.lemmas.Str.{IsUtf8-from_is_utf8, is_utf8-from_IsUtf8}
use Rattle.std.specs.List.{after_last, suffix_len}
use Rattle.std.specs.Str.{IsUtf8, is_utf8}
use Rattle.std.specs.Str.Lossy.{utf8_valid_len}
use Rattle.cli_files.specs.Input.{longest_input, not_utf8_behind, text_of}

within : (bytes : List ℕ) → length bytes ≤ 16777216 → nat_lt longest_input (length bytes) ≡ false
within bytes short = grind (arith, nat_tests)

-- bytes that are UTF-8 and not too many are a text
pub taken : (bytes : List ℕ) → length bytes ≤ 16777216 → IsUtf8 bytes → text_of bytes ≡ Ok bytes
taken bytes short utf8 = rw (within bytes short, is_utf8-from_IsUtf8 bytes utf8) refl

not_utf8 : (bytes : List ℕ) (b : Bool) → is_utf8 bytes ≡ b → ¬ (IsUtf8 bytes) → b ≡ false
not_utf8 bytes false is bad = refl
not_utf8 bytes true is bad = absurd (bad (IsUtf8-from_is_utf8 bytes is))

-- bytes that are not UTF-8 are refused with the place behind their longest front that is
pub refused : (bytes : List ℕ) → length bytes ≤ 16777216 → ¬ (IsUtf8 bytes) → text_of bytes ≡ Err (not_utf8_behind (take (utf8_valid_len bytes) bytes))
refused bytes short bad = rw (within bytes short, not_utf8 bytes (is_utf8 bytes) refl bad) refl

-- where no line end stands from n on, and one before it, what follows the last line end begins at n
pub behind_last : (xs : List ℕ) (n : ℕ) → n ≤ length xs → ((k : ℕ) → n ≤ k → k < length xs → slice_index xs k ≢ 10) → (0 < n → slice_index xs (n - 1) ≡ 10) → take (length xs - n) (drop n xs) ≡ after_last (λ b. b == 10) xs
behind_last xs n fits behind before =
    let others : suffix_len (λ b. not (b == 10)) xs ≡ length xs - n =
    suffix_len_is (λ b. not (b == 10)) xs n 0 fits
    (λ k low high. ap not (ne_eqb (slice_index xs k) 10 (behind k low high)))
    (λ some. ap (λ b. not (b == 10)) (before some)) in
    let start : length xs - (length xs - n) ≡ n = omega arith in
    take_rest xs n ∙ sym (rw (others, start) refl)
