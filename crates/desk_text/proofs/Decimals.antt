-- Decimals that are parsed: for `bytes::read_decimal`.
use Rattle.std.proofs.Common.{◌≡◌, ◌<◌, ◌^◌, ℕ, Bool, true, false, not, ◌&&◌, List, Option, Some, None, Result, Ok, Err, length, ap, sym, ◌∙◌, arith, rules, inl, inr}
use Rattle.std.proofs.lemmas.Bool.{cases_lt}
use Rattle.std.proofs.lemmas.Bool.Decides.{nat_tests}
use Rattle.std.proofs.lemmas.Str.Parse.{IsNumeralModel, numerals_by_value, parse_digits}
use Rattle.std.specs.Prelude.{nat_le, if◌then◌else◌}
use Rattle.std.specs.List.{list_all}
use Rattle.std.specs.Char.{is_ascii_digit}
use Rattle.std.specs.Str.Parse.{ParsesUnsigned, digits_value}
use Rattle.desk_text.specs.Bytes.{has_leading_zero, is_digits, read_decimal}

own : IsNumeralModel (λ ds. list_all is_ascii_digit ds ≡ true) (digits_value 10)
own = numerals_by_value _ (search rules)

abbrev number_if : List ℕ → Bool → Bool → Bool → Option ℕ
number_if bs digits zero small = if digits && not zero && small then Some (digits_value 10 bs) else None

-- digits that are not parsed write a number over 32 bits
pub none_parsed : {E : Type 0} (most : ℕ) (bs : List ℕ) (r : Result ℕ E) (e : E) → ParsesUnsigned 32 10 bs r → r ≡ Err e → most < 2 ^ 32 → is_digits bs ≡ true → has_leading_zero bs ≡ false → None ≡ read_decimal most bs
none_parsed most bs (Ok n) e parses is few digits plain = absurd (cc)
none_parsed {E = E} most bs (Err f) e parses is few digits plain =
    let all : list_all is_ascii_digit bs ≡ true = grind (arith, nat_tests) in
    let some : 0 < length bs = grind (arith, nat_tests) in
    let read = parse_digits own {E = E} 32 bs (Err f) parses all in
    let large : nat_le (digits_value 10 bs) most ≡ false =
    elim (cases_lt (digits_value 10 bs) (2 ^ 32)) [ inl less ↦ absurd (read (some, less)) | inr more ↦ grind (arith, nat_tests) ] in
    ap (λ b. number_if bs b false false) (sym digits)
    ∙ ap (λ b. number_if bs (is_digits bs) b false) (sym plain)
    ∙ ap (number_if bs (is_digits bs) (has_leading_zero bs)) (sym large)
