-- What is shown of a character tells the character.
use Rattle.std.proofs.Common.{◌≡◌, ◌≢◌, ◌⊎◌, ℕ, zero, suc, ◌<◌, ◌++◌, ◌∙◌, Bool, true, false, cond, List, [], ◌∷◌, ap, arith, inl, inr, length, refl, subst, sym}
use Rattle.std.specs.Prelude.{◌==◌, ◌&&◌, ◌||◌, codes}
use Rattle.std.specs.Char.{IsScalar, encode_utf8}
use Rattle.std.specs.Fmt.{digits}
use Rattle.std.specs.List.{flat_map}
use Rattle.std.specs.Str.{IsUtf8, all_scalars, chars, encode_utf8_all}
use Rattle.std.proofs.lemmas.Bool.{cases_Bool, cases_eq, eq-eqb, eqb-true, ne_eqb, true≢false}
use Rattle.std.proofs.lemmas.List.{append_assoc, append_cancel_left}
use Rattle.std.proofs.lemmas.Str.{char_from_byte, cons_from_encodes, encode_ascii, encode_same, encodes-chars, scalars-chars}
use Rattle.std.proofs.Math.Utf8.{scalar_fits}
use Rattle.desk_shown.specs.ShownText.{code, is_coded, is_tab}
use Rattle.page_html.specs.Escaping.{attribute, before_code, behind_code, escaped, escaped_line, hyphen, in_attribute, seen, shown, shown_in_line}
use Rattle.page_html.specs.TextLaws.{TextsAreToldApart, has_no_markup, is_delimiter}
use Rattle.page_html.proofs.CodesRead.{code_read, read}

-- the second of some bytes, and those behind the first
second : List ℕ → ℕ
second [] = 0
second (a ∷ []) = 0
second (a ∷ b ∷ bs) = b

behind : ℕ → List ℕ → List ℕ
behind zero bytes = bytes
behind (suc n) [] = []
behind (suc n) (b ∷ bytes) = behind n bytes

first : List ℕ → ℕ
first [] = 0
first (b ∷ bs) = b

and_left : (a b : Bool) → (a && b) ≡ true → a ≡ true
and_left a b e = elim (cases_Bool a) as (λ _. a ≡ true) [
  | inl is ↦ is
  | inr fails ↦ absurd (true≢false (sym e ∙ ap (λ x. x && b) fails))
]

and_right : (a b : Bool) → (a && b) ≡ true → b ≡ true
and_right a b e = sym (ap (λ x. x && b) (and_left a b e)) ∙ e

-- ---- texts by the bytes of their characters
-- bytes that begin with a sign, and tell the character
pub record IsSigned (sign : ℕ → Bool) (decode : List ℕ → ℕ) (c : ℕ) (bytes : List ℕ) : Type 0 where
  pub start : ℕ
  pub others : List ℕ
  pub are : bytes ≡ start ∷ others
  pub signed : sign start ≡ true
  pub tells : (rest : List ℕ) → decode (bytes ++ rest) ≡ c

-- bytes of a character itself, which is no sign
pub record IsItself (sign : ℕ → Bool) (c : ℕ) (bytes : List ℕ) : Type 0 where
  pub are : bytes ≡ encode_utf8 c
  pub no_sign : sign c ≡ false

abbrev pub IsShown : (ℕ → Bool) → (List ℕ → ℕ) → ℕ → List ℕ → Type 0
IsShown sign decode c bytes = IsSigned sign decode c bytes ⊎ IsItself sign c bytes

module _ (sign : ℕ → Bool) (ascii : (b : ℕ) → sign b ≡ true → b < 128) (decode : List ℕ → ℕ) (written : ℕ → List ℕ) (each : (c : ℕ) → IsScalar c → IsShown sign decode c (written c)) where
  apart : (c d : ℕ) (r t : List ℕ) → IsSigned sign decode c (written c) → IsItself sign d (written d) → written c ++ r ≡ written d ++ t → ⊥
  apart c d r t signed itself e =
      let bytes : signed.start ∷ signed.others ++ r ≡ encode_utf8 d ++ t = sym (ap (λ bs. bs ++ r) signed.are) ∙ e ∙ ap (λ bs. bs ++ t) itself.are in
      let small : signed.start < 128 = ascii signed.start signed.signed in
      let is : d ≡ signed.start = char_from_byte (signed.start ∷ signed.others ++ r) t d bytes small (omega arith) in
      true≢false (sym signed.signed ∙ ap sign (sym is) ∙ itself.no_sign)

  same_first : (c d : ℕ) (r t : List ℕ) → IsScalar c → IsScalar d → written c ++ r ≡ written d ++ t → c ≡ d
  same_first c d r t is is' e =
      elim (each c is) as (λ _. c ≡ d) [
        | inl signed ↦ elim (each d is') as (λ _. c ≡ d) [
          | inl signed' ↦ sym (signed.tells r) ∙ ap decode e ∙ signed'.tells t
          | inr itself ↦ absurd (apart c d r t signed itself e)
        ]
        | inr itself ↦ elim (each d is') as (λ _. c ≡ d) [
          | inl signed ↦ absurd (apart d c t r signed itself (sym e))
          | inr itself' ↦ (encode_same c d r t (sym (ap (λ bs. bs ++ r) itself.are) ∙ e ∙ ap (λ bs. bs ++ t) itself'.are)).0
        ]
      ]

  some_bytes : (c : ℕ) (r : List ℕ) → IsScalar c → written c ++ r ≡ [] → ⊥
  some_bytes c r is none =
      elim (each c is) [
        | inl signed ↦ no_cons signed.start (signed.others ++ r) (sym (ap (λ bs. bs ++ r) signed.are) ∙ none)
        | inr itself ↦ no_encoding c r (sym (ap (λ bs. bs ++ r) itself.are) ∙ none)
      ]
    where
      no_cons : (b : ℕ) (bs : List ℕ) → b ∷ bs ≡ [] → ⊥
      no_cons b bs e = (let n = ap length e in omega arith)

      no_encoding : (c : ℕ) (r : List ℕ) → encode_utf8 c ++ r ≡ [] → ⊥
      no_encoding c r e = (let found = cons_from_encodes [] r c (sym e) in let n = ap length found.1 in omega arith)

  same_characters : (cs ds : List ℕ) → all_scalars cs ≡ true → all_scalars ds ≡ true → flat_map written cs ≡ flat_map written ds → cs ≡ ds
  same_characters [] [] are are' e = refl
  same_characters [] (d ∷ ds) are are' e = absurd (some_bytes d (flat_map written ds) (and_left _ _ are') (sym e))
  same_characters (c ∷ cs) [] are are' e = absurd (some_bytes c (flat_map written cs) (and_left _ _ are) e)
  same_characters (c ∷ cs) (d ∷ ds) are are' e =
      let is = same_first c d (flat_map written cs) (flat_map written ds) (and_left _ _ are) (and_left _ _ are') e in
      let rest = append_cancel_left (written d) (flat_map written cs) (flat_map written ds) (sym (ap (λ x. written x ++ flat_map written cs) is) ∙ e) in
      ap (λ x. x ∷ cs) is ∙ ap (λ xs. d ∷ xs) (same_characters cs ds (and_right _ _ are) (and_right _ _ are') rest)

  pub told_apart : (text other : List ℕ) → IsUtf8 text → IsUtf8 other → flat_map written (chars text) ≡ flat_map written (chars other) → text ≡ other
  told_apart text other utf8 utf8' e =
      sym (encodes-chars text utf8) ∙ ap encode_utf8_all (same_characters (chars text) (chars other) (scalars-chars text utf8) (scalars-chars other utf8') e) ∙ encodes-chars other utf8'

-- ---- the characters of this page
-- the character of a reference, by its second character
pub character_of : ℕ → ℕ
character_of n = cond (n == 97) 38 (cond (n == 108) 60 (cond (n == 103) 62 (cond (n == 113) 34 39)))

is_sign : ℕ → Bool
is_sign b = b == 38 || b == 60

is_attribute_sign : ℕ → Bool
is_attribute_sign b = b == 38 || b == 92

-- what is told between tags, and within an attribute
decode : List ℕ → ℕ
decode bytes = cond (first bytes == 38) (character_of (second bytes)) (cond (second bytes == 117) 45 (read 0 (behind 16 bytes)))

decode_attribute : List ℕ → ℕ
decode_attribute bytes = cond (first bytes == 38) (character_of (second bytes)) (cond (second bytes == 92) 92 (read 0 (behind 3 bytes)))

-- a character that is seen
pub record IsReference (c : ℕ) (bytes : List ℕ) : Type 0 where
  pub sign : ℕ
  pub others : List ℕ
  pub are : bytes ≡ 38 ∷ sign ∷ others
  pub tells : character_of sign ≡ c
  pub free : (rest : List ℕ) → has_no_markup (bytes ++ rest) ≡ has_no_markup rest

pub record IsAsItIs (c : ℕ) (bytes : List ℕ) : Type 0 where
  pub are : bytes ≡ encode_utf8 c
  pub no_reference : c ≢ 38
  pub no_tag : c ≢ 60
  pub no_delimiter : is_delimiter c ≡ false

pub no_delimiter : (b : ℕ) → b ≢ 60 → b ≢ 62 → b ≢ 34 → b ≢ 39 → is_delimiter b ≡ false
no_delimiter b less greater quote apostrophe =
    ap (λ x. x || (b == 62 || (b == 34 || b == 39))) (ne_eqb b 60 less) ∙ ap (λ x. x || (b == 34 || b == 39)) (ne_eqb b 62 greater) ∙ ap (λ x. x || b == 39) (ne_eqb b 34 quote)
    ∙ ne_eqb b 39 apostrophe

abbrev rest_4 : ℕ → List ℕ
rest_4 c = cond (c == 39) (codes "&#39;") (encode_utf8 c)

abbrev rest_3 : ℕ → List ℕ
rest_3 c = cond (c == 34) (codes "&quot;") (rest_4 c)

abbrev rest_2 : ℕ → List ℕ
rest_2 c = cond (c == 62) (codes "&gt;") (rest_3 c)

abbrev rest_1 : ℕ → List ℕ
rest_1 c = cond (c == 60) (codes "&lt;") (rest_2 c)

pub is_seen : (c : ℕ) → IsReference c (seen c) ⊎ IsAsItIs c (seen c)
unfolding character_of
is_seen c =
    elim (cases_eq c 38) as (λ _. IsReference c (seen c) ⊎ IsAsItIs c (seen c)) [
      | inl is ↦ inl (record { sign = 97; others = codes "mp;"; are = ap seen is; tells = sym is; free = λ rest. ap (λ x. has_no_markup (seen x ++ rest)) is })
      | inr amp ↦ elim (cases_eq c 60) as (λ _. IsReference c (seen c) ⊎ IsAsItIs c (seen c)) [
        | inl is ↦ inl (record { sign = 108; others = codes "t;"; are = ap seen is; tells = sym is; free = λ rest. ap (λ x. has_no_markup (seen x ++ rest)) is })
        | inr less ↦ elim (cases_eq c 62) as (λ _. IsReference c (seen c) ⊎ IsAsItIs c (seen c)) [
          | inl is ↦ inl (record { sign = 103; others = codes "t;"; are = ap seen is; tells = sym is; free = λ rest. ap (λ x. has_no_markup (seen x ++ rest)) is })
          | inr greater ↦ elim (cases_eq c 34) as (λ _. IsReference c (seen c) ⊎ IsAsItIs c (seen c)) [
            | inl is ↦ inl (record { sign = 113; others = codes "uot;"; are = ap seen is; tells = sym is; free = λ rest. ap (λ x. has_no_markup (seen x ++ rest)) is })
            | inr quote ↦ elim (cases_eq c 39) as (λ _. IsReference c (seen c) ⊎ IsAsItIs c (seen c)) [
              | inl is ↦ inl (record { sign = 35; others = codes "39;"; are = ap seen is; tells = sym is; free = λ rest. ap (λ x. has_no_markup (seen x ++ rest)) is })
              | inr apostrophe ↦ inr (record {
                are =
                    ap (λ b. cond b (codes "&amp;") (rest_1 c)) (ne_eqb c 38 amp) ∙ ap (λ b. cond b (codes "&lt;") (rest_2 c)) (ne_eqb c 60 less)
                    ∙ ap (λ b. cond b (codes "&gt;") (rest_3 c)) (ne_eqb c 62 greater) ∙ ap (λ b. cond b (codes "&quot;") (rest_4 c)) (ne_eqb c 34 quote)
                    ∙ ap (λ b. cond b (codes "&#39;") (encode_utf8 c)) (ne_eqb c 39 apostrophe);
                no_reference = amp;
                no_tag = less;
                no_delimiter = no_delimiter c less greater quote apostrophe;
              })
            ]
          ]
        ]
      ]
    ]

small : (c : ℕ) → IsScalar c → c < 4294967296
small c is = scalar_fits c is

-- ---- between tags
coded_told : (c : ℕ) → IsScalar c → (rest : List ℕ) → decode ((before_code ++ code c ++ behind_code) ++ rest) ≡ c
unfolding decode first second behind
coded_told c is rest =
    ap (read 0) (append_assoc (digits 16 false c ++ 125 ∷ []) behind_code rest ∙ append_assoc (digits 16 false c) (125 ∷ []) (behind_code ++ rest)) ∙ code_read c (behind_code ++ rest) (small c is)

seen_told : (c : ℕ) → IsShown is_sign decode c (seen c)
unfolding is_sign decode first second
seen_told c =
    elim (is_seen c) as (λ _. IsShown is_sign decode c (seen c)) [
      | inl named ↦ inl (record { start = 38; others = named.sign ∷ named.others; are = named.are; signed = refl; tells = λ rest. ap (λ bs. decode (bs ++ rest)) named.are ∙ named.tells })
      | inr itself ↦ inr (record { are = itself.are; no_sign = ap (λ b. b || (c == 60)) (ne_eqb c 38 itself.no_reference) ∙ ne_eqb c 60 itself.no_tag })
    ]

-- one that is not shown by its code
abbrev uncoded : ℕ → List ℕ
uncoded c = cond (c == 45) hyphen (seen c)

uncoded_told : (c : ℕ) → IsShown is_sign decode c (uncoded c)
unfolding is_sign decode first second
uncoded_told c =
    elim (cases_eq c 45) as (λ _. IsShown is_sign decode c (uncoded c)) [
      | inl is ↦
          let are : uncoded c ≡ hyphen = ap (λ b. cond b hyphen (seen c)) (eq-eqb c 45 is) in
          inl (record { start = 60; others = codes "u>-</u>"; are = are; signed = refl; tells = λ rest. ap (λ bs. decode (bs ++ rest)) are ∙ sym is })
      | inr other ↦ subst (IsShown is_sign decode c) (sym (ap (λ b. cond b hyphen (seen c)) (ne_eqb c 45 other))) (seen_told c)
    ]

shown_told : (c : ℕ) → IsScalar c → IsShown is_sign decode c (shown c)
unfolding is_sign
shown_told c is =
    elim (cases_Bool (is_coded c)) as (λ _. IsShown is_sign decode c (shown c)) [
      | inl coded ↦
          let are : shown c ≡ before_code ++ code c ++ behind_code = ap (λ b. cond b (before_code ++ code c ++ behind_code) (uncoded c)) coded in
          inl (record { start = 60; others = codes "i class=\"x\">" ++ code c ++ behind_code; are = are; signed = refl; tells = λ rest. ap (λ bs. decode (bs ++ rest)) are ∙ coded_told c is rest })
      | inr plain ↦ subst (IsShown is_sign decode c) (sym (ap (λ b. cond b (before_code ++ code c ++ behind_code) (uncoded c)) plain)) (uncoded_told c)
    ]

line_told : (c : ℕ) → IsScalar c → IsShown is_sign decode c (shown_in_line c)
unfolding is_sign
line_told c is =
    elim (cases_Bool (is_tab c)) as (λ _. IsShown is_sign decode c (shown_in_line c)) [
      | inl tab ↦
          let same : c ≡ 9 = eqb-true c 9 tab in
          inr (record { are = ap (λ b. cond b (c ∷ []) (shown c)) tab ∙ sym (encode_ascii c (omega arith)); no_sign = ap is_sign same })
      | inr other ↦ subst (IsShown is_sign decode c) (sym (ap (λ b. cond b (c ∷ []) (shown c)) other)) (shown_told c is)
    ]

-- ---- within an attribute
code_told : (c : ℕ) → IsScalar c → (rest : List ℕ) → decode_attribute (code c ++ rest) ≡ c
unfolding decode_attribute first second behind
code_told c is rest = ap (read 0) (append_assoc (digits 16 false c) (125 ∷ []) rest) ∙ code_read c rest (small c is)

attribute_told : (c : ℕ) → IsScalar c → IsShown is_attribute_sign decode_attribute c (in_attribute c)
unfolding is_attribute_sign decode_attribute first second
attribute_told c is =
    elim (cases_Bool (is_coded c)) as (λ _. IsShown is_attribute_sign decode_attribute c (in_attribute c)) [
      | inl coded ↦
          let are : in_attribute c ≡ code c = ap (λ b. cond b (code c) (cond (c == 92) (codes "\\\\") (seen c))) coded in
          inl (record { start = 92; others = codes "u{" ++ digits 16 false c ++ codes "}"; are = are; signed = refl; tells = λ rest. ap (λ bs. decode_attribute (bs ++ rest)) are ∙ code_told c is rest })
      | inr plain ↦
          let not_coded : in_attribute c ≡ cond (c == 92) (codes "\\\\") (seen c) = ap (λ b. cond b (code c) (cond (c == 92) (codes "\\\\") (seen c))) plain in
          elim (cases_eq c 92) as (λ _. IsShown is_attribute_sign decode_attribute c (in_attribute c)) [
            | inl backslash ↦
                let are : in_attribute c ≡ codes "\\\\" = not_coded ∙ ap (λ b. cond b (codes "\\\\") (seen c)) (eq-eqb c 92 backslash) in
                inl (record { start = 92; others = 92 ∷ []; are = are; signed = refl; tells = λ rest. ap (λ bs. decode_attribute (bs ++ rest)) are ∙ sym backslash })
            | inr other ↦
                let are : in_attribute c ≡ seen c = not_coded ∙ ap (λ b. cond b (codes "\\\\") (seen c)) (ne_eqb c 92 other) in
                elim (is_seen c) as (λ _. IsShown is_attribute_sign decode_attribute c (in_attribute c)) [
                  | inl named ↦ inl (record {
                    start = 38;
                    others = named.sign ∷ named.others;
                    are = are ∙ named.are;
                    signed = refl;
                    tells = λ rest. ap (λ bs. decode_attribute (bs ++ rest)) (are ∙ named.are) ∙ named.tells;
                  })
                  | inr itself ↦ inr (record { are = are ∙ itself.are; no_sign = ap (λ b. b || (c == 92)) (ne_eqb c 38 itself.no_reference) ∙ ne_eqb c 92 other })
                ]
          ]
    ]

sign_ascii : (b : ℕ) → is_sign b ≡ true → b < 128
unfolding is_sign
sign_ascii b is =
    elim (cases_Bool (b == 38)) as (λ _. b < 128) [
      | inl amp ↦ (let e = eqb-true b 38 amp in omega arith)
      | inr other ↦ (let e = eqb-true b 60 (sym (ap (λ x. x || (b == 60)) other) ∙ is) in omega arith)
    ]

attribute_sign_ascii : (b : ℕ) → is_attribute_sign b ≡ true → b < 128
unfolding is_attribute_sign
attribute_sign_ascii b is =
    elim (cases_Bool (b == 38)) as (λ _. b < 128) [
      | inl amp ↦ (let e = eqb-true b 38 amp in omega arith)
      | inr other ↦ (let e = eqb-true b 92 (sym (ap (λ x. x || (b == 92)) other) ∙ is) in omega arith)
    ]

pub texts_are_told_apart : TextsAreToldApart
unfolding escaped escaped_line attribute
texts_are_told_apart = record {
  texts = told_apart is_sign sign_ascii decode shown shown_told;
  lines = told_apart is_sign sign_ascii decode shown_in_line line_told;
  attributes = told_apart is_attribute_sign attribute_sign_ascii decode_attribute in_attribute attribute_told;
}
