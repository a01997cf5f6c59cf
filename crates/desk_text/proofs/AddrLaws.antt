-- Printed addresses read back: for the law `addrs_read_back`.
use Rattle.std.proofs.Common.{◌≡◌, ℕ, ◌+◌, ◌*◌, ◌/◌, ◌%◌, ◌<◌, ◌^◌, Bool, true, false, not, ◌&&◌, ◌||◌, cond, eqb, List, [], ◌∷◌, length, Ok, Err, refl, sym, ap, ◌∙◌, arith}
use Rattle.std.specs.Fmt.{decimal, digits}
use Rattle.std.specs.List.{All, AllByRecursion, join_with_byte, list_all}
use Rattle.std.specs.Str.Parse.{digits_value}
use Rattle.std.proofs.lemmas.Bool.{cond-false, eqb-true}
use Rattle.std.proofs.lemmas.List.Elements.{All-from_recursion}
use Rattle.std.proofs.lemmas.List.Splits.{slice_split_at, slice_split_none}
use Rattle.desk_text.specs.declared.address.AddrFault.TheVariants.{Parts}
use Rattle.desk_text.specs.Address.{dotted_parts, is_byte, parts_value, read_addr, read_parts}
use Rattle.desk_text.specs.Bytes.{has_leading_zero, is_digits}
use Rattle.desk_text.specs.Laws.{AddrsReadBack}
use Rattle.desk_text.proofs.Masks.{passes_below}

not_passed : (b : Bool) → not b ≡ true → b ≡ false
not_passed true e = sym e
not_passed false e = refl

both : (b c : Bool) → (b && c) ≡ true → (b ≡ true) × (c ≡ true)
both true c e = (refl, e)
both false c e = absurd (cc)

-- what holds of each printed octet, tried for all 256
of_digits : (n : ℕ) → n < 256 → is_digits (decimal n) ≡ true
unfolding digits
of_digits n small = passes_below (λ k. is_digits (decimal k)) 256 refl n small

byte : (n : ℕ) → n < 256 → is_byte (decimal n) ≡ true
unfolding digits
byte n small = passes_below (λ k. is_byte (decimal k)) 256 refl n small

plain : (n : ℕ) → n < 256 → has_leading_zero (decimal n) ≡ false
unfolding digits
plain n small = not_passed (has_leading_zero (decimal n)) (passes_below (λ k. not (has_leading_zero (decimal k))) 256 refl n small)

value : (n : ℕ) → n < 256 → digits_value 10 (decimal n) ≡ n
unfolding digits
value n small = eqb-true (digits_value 10 (decimal n)) n (passes_below (λ k. eqb (digits_value 10 (decimal k)) k) 256 refl n small)

none_is_dot : (bytes : List ℕ) → list_all (λ b. not (eqb b 46)) bytes ≡ true → AllByRecursion (λ b. eqb b 46 ≡ false) bytes
none_is_dot [] h = tt
none_is_dot (b ∷ bytes) h =
    let each = both (not (eqb b 46)) (list_all (λ b. not (eqb b 46)) bytes) h in
    (not_passed (eqb b 46) each.0, none_is_dot bytes each.1)

no_dot : (n : ℕ) → n < 256 → All (λ b. eqb b 46 ≡ false) (decimal n)
unfolding digits
no_dot n small =
    All-from_recursion (λ b. eqb b 46 ≡ false) (decimal n)
    (none_is_dot (decimal n) (passes_below (λ k. list_all (λ b. not (eqb b 46)) (decimal k)) 256 refl n small))

four_pass : (w x y z : Bool) → w ≡ true → x ≡ true → y ≡ true → z ≡ true → not (w && (x && (y && (z && true)))) ≡ false
four_pass w x y z p q r s =
    ap (λ b. not (b && (x && (y && (z && true))))) p ∙ ap (λ b. not (b && (y && (z && true)))) q ∙ ap (λ b. not (b && (z && true))) r ∙ ap (λ b. not (b && true)) s

four_fail : (w x y z : Bool) → w ≡ false → x ≡ false → y ≡ false → z ≡ false → (w || (x || (y || (z || false)))) ≡ false
four_fail w x y z p q r s =
    ap (λ b. b || (x || (y || (z || false)))) p ∙ ap (λ b. b || (y || (z || false))) q ∙ ap (λ b. b || (z || false)) r ∙ ap (λ b. b || false) s

module _ (a b c d : ℕ) (la : a < 256) (lb : b < 256) (lc : c < 256) (ld : d < 256) where
  abbrev four : List (List ℕ)
  four = decimal a ∷ decimal b ∷ decimal c ∷ decimal d ∷ []

  parts_are : dotted_parts (join_with_byte 46 four) ≡ four
  parts_are =
      slice_split_at (λ x. eqb x 46) (decimal a) 46 (join_with_byte 46 (decimal b ∷ decimal c ∷ decimal d ∷ [])) (no_dot a la) refl
      ∙ ap (λ ps. decimal a ∷ ps) (slice_split_at (λ x. eqb x 46) (decimal b) 46 (join_with_byte 46 (decimal c ∷ decimal d ∷ [])) (no_dot b lb) refl
      ∙ ap (λ ps. decimal b ∷ ps) (slice_split_at (λ x. eqb x 46) (decimal c) 46 (decimal d) (no_dot c lc) refl
      ∙ ap (λ ps. decimal c ∷ ps) (slice_split_none (λ x. eqb x 46) (decimal d) (no_dot d ld))))

  value_is : parts_value four ≡ ((a * 256 + b) * 256 + c) * 256 + d
  value_is = let va = value a la in let vb = value b lb in let vc = value c lc in let vd = value d ld in omega arith

  parts_read : read_parts four ≡ Ok (((a * 256 + b) * 256 + c) * 256 + d)
  parts_read =
      cond-false _ _ _ (four_pass (is_digits (decimal a)) (is_digits (decimal b)) (is_digits (decimal c)) (is_digits (decimal d)) (of_digits a la) (of_digits b lb) (of_digits c lc) (of_digits d ld))
      ∙ cond-false _ _ _ (four_pass (is_byte (decimal a)) (is_byte (decimal b)) (is_byte (decimal c)) (is_byte (decimal d)) (byte a la) (byte b lb) (byte c lc) (byte d ld))
      ∙ cond-false _ _ _ (four_fail (has_leading_zero (decimal a)) (has_leading_zero (decimal b)) (has_leading_zero (decimal c)) (has_leading_zero (decimal d)) (plain a la) (plain b lb) (plain c lc) (plain d ld))
      ∙ ap Ok value_is

  four_read : read_addr (join_with_byte 46 four) ≡ Ok (((a * 256 + b) * 256 + c) * 256 + d)
  four_read = ap (λ (parts : List (List ℕ)). cond (eqb (length parts) 4) (read_parts parts) (Err Parts)) parts_are ∙ parts_read

whole_again : (n : ℕ) → n < 2 ^ 32 → ((n / 2 ^ 24 * 256 + n / 2 ^ 16 % 256) * 256 + n / 2 ^ 8 % 256) * 256 + n % 256 ≡ n
whole_again n small = omega arith

pub addrs_read_back : AddrsReadBack
addrs_read_back n small =
    four_read (n / 2 ^ 24) (n / 2 ^ 16 % 256) (n / 2 ^ 8 % 256) (n % 256) (omega arith) (omega arith) (omega arith) (omega arith) ∙ ap Ok (whole_again n small)
