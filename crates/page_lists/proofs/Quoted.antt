-- The bytes of a word in quotation marks, and how a text begins.
use Rattle.std.proofs.Common.{◌≡◌, ◌<◌, ◌≤◌, ◌++◌, ◌∙◌, ℕ, List, [], ◌∷◌, true, false, cond, ap, append-nil, arith, get_or, inl, inr, length, refl, sym}
use Rattle.std.specs.Prelude.{◌==◌, not}
use Rattle.std.specs.Char.{encode_utf8}
use Rattle.std.specs.Str.{IsUtf8, chars, encode_utf8_all}
use Rattle.std.proofs.lemmas.Bool.{cases_eq, eq-eqb, eqb-true, ne_eqb, true≢false}
use Rattle.std.proofs.lemmas.List.{append_assoc}
use Rattle.std.proofs.lemmas.List.Concat.{flat_map-append}
use Rattle.std.proofs.lemmas.Str.{byte_from_char, char_from_byte, encodes-append, encodes-chars, length-le-encodes}
use Rattle.page_lists.specs.Shell.{all_in_quotes, begins_plainly, in_quotes, is_plain, quoted, shell_word}

-- one more character within quotation marks
pub one_more : (cs : List ℕ) (c : ℕ) (start now next : List ℕ) → now ≡ start ++ encode_utf8_all (all_in_quotes cs)
    → next ≡ now ++ encode_utf8_all (in_quotes c) → next ≡ start ++ encode_utf8_all (all_in_quotes (cs ++ c ∷ []))
one_more cs c start now next so_far added =
    let both : all_in_quotes (cs ++ c ∷ []) ≡ all_in_quotes cs ++ in_quotes c = flat_map-append in_quotes cs (c ∷ [])
    ∙ ap (λ t. all_in_quotes cs ++ t) (append-nil (in_quotes c)) in
    added ∙ ap (λ t. t ++ encode_utf8_all (in_quotes c)) so_far
    ∙ append_assoc start (encode_utf8_all (all_in_quotes cs)) (encode_utf8_all (in_quotes c))
    ∙ ap (λ t. start ++ t) (sym (encodes-append (all_in_quotes cs) (in_quotes c)) ∙ sym (ap encode_utf8_all both))

-- both quotation marks
pub in_marks : (cs one two new : List ℕ) → one ≡ 39 ∷ [] → two ≡ one ++ encode_utf8_all (all_in_quotes cs) → new ≡ two ++ 39 ∷ []
    → new ≡ encode_utf8_all (quoted cs)
unfolding encode_utf8
in_marks cs one two new begun more ended =
    ended ∙ ap (λ t. t ++ 39 ∷ []) (more ∙ ap (λ t. t ++ encode_utf8_all (all_in_quotes cs)) begun)
    ∙ sym (encodes-append ((39 ∷ []) ++ all_in_quotes cs) (39 ∷ []) ∙ ap (λ t. t ++ 39 ∷ []) (encodes-append (39 ∷ []) (all_in_quotes cs)))

-- the first byte is a - if the first character is
same_first : (c : ℕ) (text rest : List ℕ) → text ≡ encode_utf8 c ++ rest → 0 < length text → (c == 45) ≡ (get_or text 0 0 == 45)
same_first c text rest is some =
    elim (cases_eq c 45) as (λ _. (c == 45) ≡ (get_or text 0 0 == 45)) [
      | inl dash ↦ ap (λ b. b == 45) (sym (byte_from_char text rest c is (omega arith)))
      | inr other ↦ ne_eqb c 45 other ∙ sym (ne_eqb (get_or text 0 0) 45 (λ first. other (char_from_byte text rest c is (omega arith) some ∙ first)))
    ]

plainly : (cs text : List ℕ) → text ≡ encode_utf8_all cs → 0 < length text → begins_plainly cs ≡ not (get_or text 0 0 == 45)
plainly [] text is some = absurd (let none = ap length is in omega arith)
plainly (c ∷ cs) text is some = ap not (same_first c text (encode_utf8_all cs) is some)

pub begins : (text : List ℕ) → IsUtf8 text → (length text == 0) ≡ false → not (get_or text 0 0 == 45) ≡ begins_plainly (chars text)
begins text utf8 some =
    elim (cases_eq (length text) 0) as (λ _. not (get_or text 0 0 == 45) ≡ begins_plainly (chars text)) [
      | inl none ↦ absurd (true≢false (sym (eq-eqb (length text) 0 none) ∙ some))
      | inr other ↦ sym (plainly (chars text) text (sym (encodes-chars text utf8)) (omega arith))
    ]

-- an empty text does not begin plainly
begins_not : (cs : List ℕ) → length cs ≤ 0 → false ≡ begins_plainly cs
begins_not [] none = refl
begins_not (c ∷ cs) none = absurd (omega arith)

pub empty_begins_not : (text : List ℕ) → IsUtf8 text → (length text == 0) ≡ true → false ≡ begins_plainly (chars text)
empty_begins_not text utf8 none =
    let all = length-le-encodes (chars text) in
    let same = ap length (encodes-chars text utf8) in
    let no_byte = eqb-true (length text) 0 none in
    begins_not (chars text) (omega arith)

-- the word for a text that is plain, and for another one
pub plain_word : (text : List ℕ) → IsUtf8 text → is_plain (chars text) ≡ true → text ≡ shell_word text
unfolding shell_word
plain_word text utf8 plain = sym (ap (λ b. encode_utf8_all (cond b (chars text) (quoted (chars text)))) plain ∙ encodes-chars text utf8)

pub quoted_word : (text : List ℕ) → is_plain (chars text) ≡ false → encode_utf8_all (quoted (chars text)) ≡ shell_word text
unfolding shell_word
quoted_word text other = sym (ap (λ b. encode_utf8_all (cond b (chars text) (quoted (chars text)))) other)
