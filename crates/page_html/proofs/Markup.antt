-- What is shown of a character has no markup.
use Rattle.std.proofs.Common.{◌≡◌, ◌≢◌, ℕ, zero, suc, ◌+◌, ◌/◌, ◌%◌, ◌<◌, ◌++◌, ◌∙◌, true, false, cond, List, [], ◌∷◌, ap, arith, get_or, inl, inr, length, refl, subst, sym}
use Rattle.std.specs.Prelude.{◌==◌, ◌&&◌, codes, not}
use Rattle.std.specs.Char.{encode_utf8}
use Rattle.std.specs.Fmt.{digit_glyph, digits, digits_onto}
use Rattle.std.specs.List.{flat_map}
use Rattle.std.specs.Str.{chars}
use Rattle.std.proofs.lemmas.Bool.{cases_Bool, cases_lt, eqb-true, le-ltb, lt-ltb, ne_eqb}
use Rattle.std.proofs.lemmas.List.{append-nil, append_assoc}
use Rattle.std.proofs.lemmas.Str.{inside_one}
use Rattle.desk_shown.specs.ShownText.{code, is_coded, is_tab}
use Rattle.page_html.specs.Escaping.{attribute, before_code, behind_code, hyphen, in_attribute, seen, shown, shown_in_line}
use Rattle.page_html.specs.TextLaws.{HasNoOtherMarkup, NoTextIsMarkup, begins_reference, has_no_markup, is_delimiter}
use Rattle.page_html.proofs.Telling.{is_seen, no_delimiter}

-- a byte that is neither a delimiter nor an &
pub record IsHarmless (b : ℕ) : Type 0 where
  pub delimiter : is_delimiter b ≡ false
  pub reference : b ≢ 38

passes : (b : ℕ) (bs : List ℕ) → IsHarmless b → has_no_markup (b ∷ bs) ≡ has_no_markup bs
passes b bs harmless =
    ap (λ x. not x && (cond (b == 38) (begins_reference bs) true && has_no_markup bs)) harmless.delimiter ∙ ap (λ x. cond x (begins_reference bs) true && has_no_markup bs) (ne_eqb b 38 harmless.reference)

all_pass : (bytes rest : List ℕ) → ((k : ℕ) → k < length bytes → IsHarmless (get_or bytes k 0)) → has_no_markup (bytes ++ rest) ≡ has_no_markup rest
all_pass [] rest each = refl
all_pass (b ∷ bytes) rest each = passes b (bytes ++ rest) (each 0 (omega arith)) ∙ all_pass bytes rest (λ k within. each (suc k) (omega arith))

-- ---- a character as it is
module _ (c : ℕ) (delimiter : is_delimiter c ≡ false) (reference : c ≢ 38) where
  byte_by : (b : ℕ) → (b < 128 → c ≡ b) → IsHarmless b
  byte_by b small =
      elim (cases_lt b 128) as (λ _. IsHarmless b) [
        | inl less ↦ subst IsHarmless (small less) (record { delimiter = delimiter; reference = reference })
        | inr le ↦ record {
          delimiter = no_delimiter b (λ is. omega arith) (λ is. omega arith) (λ is. omega arith) (λ is. omega arith);
          reference = λ is. omega arith;
        }
      ]

  encoded_free : (rest : List ℕ) → has_no_markup (encode_utf8 c ++ rest) ≡ has_no_markup rest
  encoded_free rest = all_pass (encode_utf8 c) rest (λ k within. byte_by (get_or (encode_utf8 c) k 0) (λ less. inside_one c [] (encode_utf8 c) k (sym (append-nil (encode_utf8 c))) within less))

seen_free : (c : ℕ) (rest : List ℕ) → has_no_markup (seen c ++ rest) ≡ has_no_markup rest
seen_free c rest =
    elim (is_seen c) as (λ _. has_no_markup (seen c ++ rest) ≡ has_no_markup rest) [
      | inl named ↦ named.free rest
      | inr itself ↦ ap (λ bs. has_no_markup (bs ++ rest)) itself.are ∙ encoded_free c itself.no_delimiter itself.no_reference rest
    ]

-- ---- a code
glyph_harmless : (d : ℕ) → d < 16 → IsHarmless (digit_glyph false d)
glyph_harmless d small =
    elim (cases_lt d 10) as (λ _. IsHarmless (digit_glyph false d)) [
      | inl less ↦ subst IsHarmless (sym (ap (λ b. cond b (48 + d) (87 + d)) (lt-ltb d 10 less))) (record {
        delimiter = no_delimiter (48 + d) (λ is. omega arith) (λ is. omega arith) (λ is. omega arith) (λ is. omega arith);
        reference = λ is. omega arith;
      })
      | inr le ↦ subst IsHarmless (sym (ap (λ b. cond b (48 + d) (87 + d)) (le-ltb d 10 le))) (record {
        delimiter = no_delimiter (87 + d) (λ is. omega arith) (λ is. omega arith) (λ is. omega arith) (λ is. omega arith);
        reference = λ is. omega arith;
      })
    ]

digits_free : (k n : ℕ) (after rest : List ℕ) → has_no_markup (after ++ rest) ≡ has_no_markup rest → has_no_markup (digits_onto k 16 false n after ++ rest) ≡ has_no_markup rest
digits_free zero n after rest free = free
digits_free (suc k) n after rest free =
    let more = passes (digit_glyph false (n % 16)) (after ++ rest) (glyph_harmless (n % 16) (omega arith)) ∙ free in
    elim (cases_Bool (n / 16 == 0)) as (λ _. has_no_markup (digits_onto (suc k) 16 false n after ++ rest) ≡ has_no_markup rest) [
      | inl last ↦ ap (λ b. has_no_markup (cond b (digit_glyph false (n % 16) ∷ after) (digits_onto k 16 false (n / 16) (digit_glyph false (n % 16) ∷ after)) ++ rest)) last ∙ more
      | inr some ↦
          ap (λ b. has_no_markup (cond b (digit_glyph false (n % 16) ∷ after) (digits_onto k 16 false (n / 16) (digit_glyph false (n % 16) ∷ after)) ++ rest)) some
          ∙ digits_free k (n / 16) (digit_glyph false (n % 16) ∷ after) rest more
    ]

code_free : (c : ℕ) (rest : List ℕ) → has_no_markup (code c ++ rest) ≡ has_no_markup rest
unfolding digits
code_free c rest = ap has_no_markup (append_assoc (digits 16 false c) (125 ∷ []) rest) ∙ digits_free 64 c [] (125 ∷ rest) refl

-- ---- texts
attribute_free : (c : ℕ) (rest : List ℕ) → has_no_markup (in_attribute c ++ rest) ≡ has_no_markup rest
attribute_free c rest =
    elim (cases_Bool (is_coded c)) as (λ _. has_no_markup (in_attribute c ++ rest) ≡ has_no_markup rest) [
      | inl coded ↦ ap (λ b. has_no_markup (cond b (code c) (cond (c == 92) (codes "\\\\") (seen c)) ++ rest)) coded ∙ code_free c rest
      | inr plain ↦
          ap (λ b. has_no_markup (cond b (code c) (cond (c == 92) (codes "\\\\") (seen c)) ++ rest)) plain
          ∙ elim (cases_Bool (c == 92)) as (λ _. has_no_markup (cond (c == 92) (codes "\\\\") (seen c) ++ rest) ≡ has_no_markup rest) [
            | inl backslash ↦ ap (λ b. has_no_markup (cond b (codes "\\\\") (seen c) ++ rest)) backslash
            | inr other ↦ ap (λ b. has_no_markup (cond b (codes "\\\\") (seen c) ++ rest)) other ∙ seen_free c rest
          ]
    ]

attributes_free : (cs : List ℕ) → has_no_markup (flat_map in_attribute cs) ≡ true
attributes_free [] = refl
attributes_free (c ∷ cs) = attribute_free c (flat_map in_attribute cs) ∙ attributes_free cs

uncoded_free : (c : ℕ) → HasNoOtherMarkup (cond (c == 45) hyphen (seen c))
uncoded_free c =
    elim (cases_Bool (c == 45)) as (λ _. HasNoOtherMarkup (cond (c == 45) hyphen (seen c))) [
      | inl is ↦ inr (inr (ap (λ b. cond b hyphen (seen c)) is))
      | inr other ↦ inl (ap (λ b. has_no_markup (cond b hyphen (seen c))) other ∙ ap has_no_markup (sym (append-nil (seen c))) ∙ seen_free c [])
    ]

shown_free : (c : ℕ) → HasNoOtherMarkup (shown c)
shown_free c =
    elim (cases_Bool (is_coded c)) as (λ _. HasNoOtherMarkup (shown c)) [
      | inl coded ↦ inr (inl (record {
        inner = code c;
        are = ap (λ b. cond b (before_code ++ code c ++ behind_code) (cond (c == 45) hyphen (seen c))) coded;
        free = ap has_no_markup (sym (append-nil (code c))) ∙ code_free c [];
      }))
      | inr plain ↦ subst HasNoOtherMarkup (sym (ap (λ b. cond b (before_code ++ code c ++ behind_code) (cond (c == 45) hyphen (seen c))) plain)) (uncoded_free c)
    ]

line_free : (c : ℕ) → HasNoOtherMarkup (shown_in_line c)
line_free c =
    elim (cases_Bool (is_tab c)) as (λ _. HasNoOtherMarkup (shown_in_line c)) [
      | inl tab ↦ inl (ap (λ b. has_no_markup (cond b (c ∷ []) (shown c))) tab ∙ ap (λ x. has_no_markup (x ∷ [])) (eqb-true c 9 tab))
      | inr other ↦ subst HasNoOtherMarkup (sym (ap (λ b. cond b (c ∷ []) (shown c)) other)) (shown_free c)
    ]

pub no_text_is_markup : NoTextIsMarkup
unfolding attribute
no_text_is_markup = record {
  attributes = λ text. attributes_free (chars text);
  characters = shown_free;
  lines = line_free;
}
