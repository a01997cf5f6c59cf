-- For the law `digests_are_hexadecimal`: the bytes that digits write have these digits, in small letters.
use Rattle.std.proofs.Common.{◌≡◌, ◌<◌, ◌+◌, ◌*◌, ◌/◌, ◌%◌, ◌∙◌, ℕ, zero, suc, Bool, true, false, List, [], ◌∷◌, Option, Some, None, Result, Ok, Err, cond, map, slice_index, refl, ap, sym, arith}
use Rattle.std.specs.Prelude.{nat_lt}
use Rattle.std.specs.Char.{to_ascii_lowercase}
use Rattle.std.specs.Result.{result_unwrap_or}
use Rattle.std.specs.Str.{str_to_ascii_lowercase}
use Rattle.std.proofs.lemmas.Bool.Decides.{nat_tests}
use Rattle.hex.specs.Hex.{decode_pairs, decode_sized, digit_or_error, encode_lower, encode_with, hex_digit_value, lower_digits, pair_value, value_at, ◌>>=◌}
use Rattle.hex.specs.declared.error.FromHexError.{FromHexError}

-- the sixteen digits, by their values
digit_text : (v : ℕ) → v < 16 → slice_index lower_digits v ≡ cond (nat_lt v 10) (v + 48) (v + 87)
digit_text zero small = refl
digit_text (suc zero) small = refl
digit_text (suc (suc zero)) small = refl
digit_text (suc (suc (suc zero))) small = refl
digit_text (suc (suc (suc (suc zero)))) small = refl
digit_text (suc (suc (suc (suc (suc zero))))) small = refl
digit_text (suc (suc (suc (suc (suc (suc zero)))))) small = refl
digit_text (suc (suc (suc (suc (suc (suc (suc zero))))))) small = refl
digit_text (suc (suc (suc (suc (suc (suc (suc (suc zero)))))))) small = refl
digit_text (suc (suc (suc (suc (suc (suc (suc (suc (suc zero))))))))) small = refl
digit_text (suc (suc (suc (suc (suc (suc (suc (suc (suc (suc zero)))))))))) small = refl
digit_text (suc (suc (suc (suc (suc (suc (suc (suc (suc (suc (suc zero))))))))))) small = refl
digit_text (suc (suc (suc (suc (suc (suc (suc (suc (suc (suc (suc (suc zero)))))))))))) small = refl
digit_text (suc (suc (suc (suc (suc (suc (suc (suc (suc (suc (suc (suc (suc zero))))))))))))) small = refl
digit_text (suc (suc (suc (suc (suc (suc (suc (suc (suc (suc (suc (suc (suc (suc zero)))))))))))))) small = refl
digit_text (suc (suc (suc (suc (suc (suc (suc (suc (suc (suc (suc (suc (suc (suc (suc zero))))))))))))))) small = refl
digit_text (suc (suc (suc (suc (suc (suc (suc (suc (suc (suc (suc (suc (suc (suc (suc (suc n)))))))))))))))) small = absurd (omega arith)

-- a digit in small letters is the digit of its value
digit_code : (c v : ℕ) → hex_digit_value c ≡ Some v → cond (nat_lt v 10) (v + 48) (v + 87) ≡ to_ascii_lowercase c
digit_code c v h = grind (arith, nat_tests)

digit_small : (c v : ℕ) → hex_digit_value c ≡ Some v → v < 16
digit_small c v h = grind (arith)

bind_ok : {A B : Type 0} (r : Result A FromHexError) (f : A → Result B FromHexError) (y : B) → (r >>= f) ≡ Ok y → (x : A) × (r ≡ Ok x) × (f x ≡ Ok y)
bind_ok (Ok x) f y h = (x, refl, h)
bind_ok (Err e) f y h = cc h

digit_read : (c i : ℕ) (o : Option ℕ) (v : ℕ) → digit_or_error c i o ≡ Ok v → o ≡ Some v
digit_read c i (Some w) v h = ap Some (ap (λ (r : Result ℕ FromHexError). result_unwrap_or r 0) h)
digit_read c i None v h = cc h

high_of : (h l : ℕ) → l < 16 → (h * 16 + l) / 16 ≡ h
high_of h l small = omega arith

low_of : (h l : ℕ) → l < 16 → (h * 16 + l) % 16 ≡ l
low_of h l small = omega arith

digit_back : (c v : ℕ) → hex_digit_value c ≡ Some v → slice_index lower_digits v ≡ to_ascii_lowercase c
digit_back c v h = digit_text v (digit_small c v h) ∙ digit_code c v h

pairs_written : (i : ℕ) (s bytes : List ℕ) → decode_pairs i s ≡ Ok bytes → encode_with lower_digits bytes ≡ map to_ascii_lowercase s
unfolding decode_pairs encode_with
pairs_written i [] bytes h =
    let e : [] ≡ bytes = ap (λ (r : Result (List ℕ) FromHexError). result_unwrap_or r []) h in
    rw (← e) refl
pairs_written i (a ∷ []) bytes h = cc h
pairs_written i (a ∷ b ∷ rest) bytes h =
    let p0 = bind_ok (pair_value a b i) _ bytes h in
    let p1 = bind_ok (value_at a i) _ p0.0 p0.1 in
    let p2 = bind_ok (value_at b (i + 1)) _ p0.0 p1.2 in
    let p3 = bind_ok (decode_pairs (i + 2) rest) _ bytes p0.2 in
    let more : encode_with lower_digits p3.0 ≡ map to_ascii_lowercase rest = pairs_written (i + 2) rest p3.0 p3.1 in
    let e : p0.0 ∷ p3.0 ≡ bytes = ap (λ (r : Result (List ℕ) FromHexError). result_unwrap_or r []) p3.2 in
    let va : hex_digit_value a ≡ Some p1.0 = digit_read a i (hex_digit_value a) p1.0 p1.1 in
    let vb : hex_digit_value b ≡ Some p2.0 = digit_read b (i + 1) (hex_digit_value b) p2.0 p2.1 in
    let byte : p0.0 ≡ p1.0 * 16 + p2.0 = sym (ap (λ (r : Result ℕ FromHexError). result_unwrap_or r 0) p2.2) in
    let high : slice_index lower_digits (p0.0 / 16) ≡ to_ascii_lowercase a = ap (λ n. slice_index lower_digits (n / 16)) byte ∙ ap (slice_index lower_digits) (high_of p1.0 p2.0 (digit_small b p2.0 vb)) ∙ digit_back a p1.0 va in
    let low : slice_index lower_digits (p0.0 % 16) ≡ to_ascii_lowercase b = ap (λ n. slice_index lower_digits (n % 16)) byte ∙ ap (slice_index lower_digits) (low_of p1.0 p2.0 (digit_small b p2.0 vb)) ∙ digit_back b p2.0 vb in
    ap (encode_with lower_digits) (sym e)
    ∙ ap (λ x. x ∷ slice_index lower_digits (p0.0 % 16) ∷ encode_with lower_digits p3.0) high
    ∙ ap (λ y. to_ascii_lowercase a ∷ y ∷ encode_with lower_digits p3.0) low
    ∙ ap (λ more. to_ascii_lowercase a ∷ to_ascii_lowercase b ∷ more) more

decoded_pairs : (odd sized : Bool) (e f : FromHexError) (read : Result (List ℕ) FromHexError) (bytes : List ℕ) → cond odd (Err e) (cond sized read (Err f)) ≡ Ok bytes → read ≡ Ok bytes
decoded_pairs true sized e f read bytes h = absurd (cc)
decoded_pairs false true e f read bytes h = h
decoded_pairs false false e f read bytes h = absurd (cc)

pub digest_written : (text bytes : List ℕ) → decode_sized text 32 ≡ Ok bytes → encode_lower bytes ≡ str_to_ascii_lowercase text
digest_written text bytes h = pairs_written 0 text bytes (decoded_pairs _ _ _ _ (decode_pairs 0 text) bytes h)
