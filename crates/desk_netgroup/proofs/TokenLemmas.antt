-- Tokens: by one character, by one word, and by parts of a text.
use Rattle.std.proofs.Common.{◌≡◌, ℕ, suc, ◌+◌, ◌<◌, ◌≤◌, ◌||◌, ◌&&◌, Bool, true, false, not, cond, eqb, List, [], ◌∷◌, ◌++◌, length, get_or, take, drop, refl, sym, ap, subst, ◌∙◌, inl, inr, ◌⊎◌, append_assoc, arith}
use Rattle.std.specs.Prelude.{filter}
use Rattle.std.specs.List.{flat_map, list_all, prefix_len, join_with_byte}
use Rattle.std.specs.Str.{IsCharBoundary}
use Rattle.std.proofs.lemmas.Bool.{or_cases, cases_lt, cases_Bool, cond-true, cond-false, eqb-true, true≢false}
use Rattle.std.proofs.lemmas.List.{append-nil, take-append-drop, drop_more, drop_all, length-take-le}
use Rattle.std.proofs.lemmas.List.Sums.{prefix_len-le-length, prefix_len_stops}
use Rattle.std.proofs.lemmas.Str.{IsCharBoundary-before_ascii, IsCharBoundary-end}
use Rattle.desk_text.specs.Bytes.{is_blank}
use Rattle.desk_netgroup.specs.Laws.{TokensAreTheText, ends_with_word, token_text}
use Rattle.desk_netgroup.specs.PrivateLine.{mark_tokens}
use Rattle.desk_netgroup.specs.Token.{begins_with_word, is_of_word, tokens, with_character}
use Rattle.desk_netgroup.specs.declared.token.Token.{Token}
use Rattle.desk_netgroup.specs.declared.token.Token.TheVariants.{Open, Close, Comma, Word}

-- ---- one character

of_word_by : (b o cl co : Bool) (rest word : List Token) → not (b || o || cl || co) ≡ true
    → cond b rest (cond o (Open ∷ rest) (cond cl (Close ∷ rest) (cond co (Comma ∷ rest) word))) ≡ word
of_word_by false false false false rest word h = refl
of_word_by true o cl co rest word h = absurd (true≢false (sym h))
of_word_by false true cl co rest word h = absurd (true≢false (sym h))
of_word_by false false true co rest word h = absurd (true≢false (sym h))
of_word_by false false false true rest word h = absurd (true≢false (sym h))

mark_by : (o cl co : Bool) (rest word : List Token) → not (false || o || cl || co) ≡ false
    → cond o (Open ∷ rest) (cond cl (Close ∷ rest) (cond co (Comma ∷ rest) word)) ≡ cond o (Open ∷ []) (cond cl (Close ∷ []) (cond co (Comma ∷ []) [])) ++ rest
mark_by true cl co rest word h = refl
mark_by false true co rest word h = refl
mark_by false false true rest word h = refl
mark_by false false false rest word h = absurd (true≢false h)

-- what a blank is
blank_is : (c : ℕ) → is_blank c ≡ true → (c ≡ 32) ⊎ (c ≡ 9)
blank_is c h = elim (or_cases (eqb c 32) (eqb c 9) h) [ inl e ↦ inl (eqb-true c 32 e) | inr e ↦ inr (eqb-true c 9 e) ]

pub of_word : (c : ℕ) (text : List ℕ) → is_of_word c ≡ true → tokens (c ∷ text) ≡ with_character c (begins_with_word text) (tokens text)
of_word c text h = of_word_by (is_blank c) (eqb c 40) (eqb c 41) (eqb c 44) (tokens text) (with_character c (begins_with_word text) (tokens text)) h

pub no_word : (c : ℕ) (text : List ℕ) → is_of_word c ≡ false → tokens (c ∷ text) ≡ mark_tokens c ++ tokens text
no_word c text h =
    elim (cases_Bool (is_blank c)) [
      | inl blank ↦
          cond-true (is_blank c) (tokens text) (cond (eqb c 40) (Open ∷ tokens text) (cond (eqb c 41) (Close ∷ tokens text) (cond (eqb c 44) (Comma ∷ tokens text) (with_character c (begins_with_word text) (tokens text))))) blank
          ∙ ap (λ marks. marks ++ tokens text) (sym (elim (blank_is c blank) [ inl e ↦ ap mark_tokens e | inr e ↦ ap mark_tokens e ]))
      | inr other ↦
          cond-false (is_blank c) (tokens text) (cond (eqb c 40) (Open ∷ tokens text) (cond (eqb c 41) (Close ∷ tokens text) (cond (eqb c 44) (Comma ∷ tokens text) (with_character c (begins_with_word text) (tokens text))))) other
          ∙ mark_by (eqb c 40) (eqb c 41) (eqb c 44) (tokens text) (with_character c (begins_with_word text) (tokens text))
          (ap (λ b. not (b || eqb c 40 || eqb c 41 || eqb c 44)) (sym other) ∙ h)
    ]

-- ---- one word

and_first : (a b : Bool) → (a && b) ≡ true → a ≡ true
and_first true b h = refl
and_first false b h = absurd (true≢false (sym h))

and_second : (a b : Bool) → (a && b) ≡ true → b ≡ true
and_second true b h = h
and_second false b h = absurd (true≢false (sym h))

begins_new : (c : ℕ) (b : Bool) (more : List Token) → b ≡ false → with_character c b more ≡ Word (c ∷ []) ∷ more
begins_new c true more h = absurd (true≢false h)
begins_new c false more h = refl

goes_on : (c : ℕ) (b : Bool) (word : List ℕ) (more : List Token) → b ≡ true → with_character c b (Word word ∷ more) ≡ Word (c ∷ word) ∷ more
goes_on c true word more h = refl
goes_on c false word more h = absurd (true≢false (sym h))

pub whole_word : (c : ℕ) (word after : List ℕ) → list_all is_of_word (c ∷ word) ≡ true → begins_with_word after ≡ false → tokens ((c ∷ word) ++ after) ≡ Word (c ∷ word) ∷ tokens after
whole_word c [] after h e = of_word c after (and_first (is_of_word c) true h) ∙ begins_new c (begins_with_word after) (tokens after) e
whole_word c (d ∷ word) after h e =
    let rest = and_second (is_of_word c) (list_all is_of_word (d ∷ word)) h in
    of_word c ((d ∷ word) ++ after) (and_first (is_of_word c) (list_all is_of_word (d ∷ word)) h)
    ∙ ap (with_character c (is_of_word d)) (whole_word d word after rest e)
    ∙ goes_on c (is_of_word d) (d ∷ word) (tokens after) (and_first (is_of_word d) (list_all is_of_word word) rest)

whole_words : (word after : List ℕ) → 0 < length word → list_all is_of_word word ≡ true → begins_with_word after ≡ false → tokens (word ++ after) ≡ Word word ∷ tokens after
whole_words [] after some h e = absurd (omega arith)
whole_words (c ∷ word) after some h e = whole_word c word after h e

all_take : (text : List ℕ) → list_all is_of_word (take (prefix_len is_of_word text) text) ≡ true
all_take [] = refl
all_take (c ∷ text) =
    elim (cases_Bool (is_of_word c)) [
      | inl yes_it_is ↦
          let up : 1 + prefix_len is_of_word text ≡ suc (prefix_len is_of_word text) = omega arith in
          ap (λ n. list_all is_of_word (take n (c ∷ text))) (cond-true (is_of_word c) (1 + prefix_len is_of_word text) 0 yes_it_is ∙ up)
          ∙ ap (λ b. b && list_all is_of_word (take (prefix_len is_of_word text) text)) yes_it_is ∙ all_take text
      | inr it_is_not ↦ ap (λ n. list_all is_of_word (take n (c ∷ text))) (cond-false (is_of_word c) (1 + prefix_len is_of_word text) 0 it_is_not)
    ]

pub ends_there : (text : List ℕ) → begins_with_word (drop (prefix_len is_of_word text) text) ≡ false
ends_there text =
    let n = prefix_len is_of_word text in
    elim (cases_lt n (length text)) [
      | inl lt ↦ ap begins_with_word (drop_more text n 0 lt) ∙ prefix_len_stops is_of_word text 0 lt
      | inr ge ↦ ap begins_with_word (drop_all n text ge)
    ]

-- a text that begins with a word
pub first_word : (text : List ℕ) (n : ℕ) → n ≡ prefix_len is_of_word text → 0 < n → tokens text ≡ Word (take n text) ∷ tokens (drop n text)
first_word text n is some =
    let within : n ≤ length text = omega (arith, prefix_len-le-length is_of_word text, is) in
    ap tokens (sym (take-append-drop n text))
    ∙ whole_words (take n text) (drop n text) (omega (arith, length-take-le n text within, some))
    (ap (λ k. list_all is_of_word (take k text)) is ∙ all_take text) (ap (λ k. begins_with_word (drop k text)) is ∙ ends_there text)

-- ---- the tokens so far, and those of the rest

pub next_word : (all done new : List Token) (rest word after : List ℕ) (n : ℕ) → n ≡ prefix_len is_of_word rest → 0 < n → word ≡ take n rest → after ≡ drop n rest
    → new ≡ done ++ Word word ∷ [] → done ++ tokens rest ≡ all → new ++ tokens after ≡ all
next_word all done new rest word after n is some w a more so_far =
    ap (λ ts. ts ++ tokens after) (more ∙ ap (λ t. done ++ Word t ∷ []) w) ∙ append_assoc done (Word (take n rest) ∷ []) (tokens after)
    ∙ ap (λ t. done ++ Word (take n rest) ∷ tokens t) a ∙ ap (λ ts. done ++ ts) (sym (first_word rest n is some)) ∙ so_far

-- ---- where a text may be cut

ascii_by : (c : ℕ) → is_of_word c ≡ false → c < 128
ascii_by c h =
    elim (cases_Bool (is_blank c)) [
      | inl blank ↦ elim (blank_is c blank) [ inl e ↦ omega arith | inr e ↦ omega arith ]
      | inr b ↦ elim (cases_Bool (eqb c 40)) [
        | inl e ↦ (let is = eqb-true c 40 e in omega arith)
        | inr o ↦ elim (cases_Bool (eqb c 41)) [
          | inl e ↦ (let is = eqb-true c 41 e in omega arith)
          | inr cl ↦ elim (cases_Bool (eqb c 44)) [
            | inl e ↦ (let is = eqb-true c 44 e in omega arith)
            | inr co ↦ absurd (true≢false (sym (ap not (none_of _ _ _ _ b o cl co)) ∙ h))
          ]
        ]
      ]
    ]
  where
    none_of : (b o cl co : Bool) → b ≡ false → o ≡ false → cl ≡ false → co ≡ false → (b || o || cl || co) ≡ false
    none_of b o cl co p q r s = ap (λ x. x || o || cl || co) p ∙ ap (λ x. x || cl || co) q ∙ ap (λ x. x || co) r ∙ s

pub first_is_ascii : (text : List ℕ) → 0 < length text → prefix_len is_of_word text ≡ 0 → get_or text 0 0 < 128
first_is_ascii text some none =
    let lt : prefix_len is_of_word text < length text = omega arith in
    ascii_by (get_or text 0 0) (ap (λ k. is_of_word (get_or text k 0)) (sym none) ∙ prefix_len_stops is_of_word text 0 lt)

pub word_boundary : (text : List ℕ) (n : ℕ) → n ≡ prefix_len is_of_word text → IsCharBoundary text n
word_boundary text n is =
    elim (cases_lt n (length text)) [
      | inl lt ↦ IsCharBoundary-before_ascii text n lt
          (ascii_by (get_or text n 0) (ap (λ k. is_of_word (get_or text k 0)) is ∙ prefix_len_stops is_of_word text 0 (omega (arith, is, lt))))
      | inr ge ↦ (let e : length text ≡ n = omega (arith, prefix_len-le-length is_of_word text, is, ge) in subst (λ k. IsCharBoundary text k) e (IsCharBoundary-end text))
    ]

-- ---- parts of a text

begins_with : (text : List ℕ) → begins_with_word text ≡ true → (word : List ℕ) × (more : List Token) × (tokens text ≡ Word word ∷ more)
begins_with [] h = absurd (true≢false (sym h))
begins_with (c ∷ text) h = by_next (begins_with_word text) (tokens text) (of_word c text h)
  where
    by_next : (b : Bool) (next : List Token) → tokens (c ∷ text) ≡ with_character c b next → (word : List ℕ) × (more : List Token) × (tokens (c ∷ text) ≡ Word word ∷ more)
    by_next true (Word word ∷ next) e = (c ∷ word, next, e)
    by_next true [] e = (c ∷ [], [], e)
    by_next true (Open ∷ next) e = (c ∷ [], Open ∷ next, e)
    by_next true (Close ∷ next) e = (c ∷ [], Close ∷ next, e)
    by_next true (Comma ∷ next) e = (c ∷ [], Comma ∷ next, e)
    by_next false next e = (c ∷ [], next, e)

character_append : (c : ℕ) (text : List ℕ) (after : List Token) → begins_with_word text ≡ true → with_character c true (tokens text ++ after) ≡ with_character c true (tokens text) ++ after
character_append c text after h =
    let w = begins_with text h in
    ap (λ ts. with_character c true (ts ++ after)) w.2 ∙ ap (λ ts. with_character c true ts ++ after) (sym w.2)

pub cut : (text after : List ℕ) → (ends_with_word text && begins_with_word after) ≡ false → tokens (text ++ after) ≡ tokens text ++ tokens after
cut [] after h = refl
cut (c ∷ []) after h =
    elim (cases_Bool (is_of_word c)) [
      | inl word ↦
          of_word c after word
          ∙ begins_new c (begins_with_word after) (tokens after) (ap (λ b. b && begins_with_word after) (sym word) ∙ h)
          ∙ ap (λ ts. ts ++ tokens after) (sym (of_word c [] word))
      | inr mark ↦ no_word c after mark ∙ ap (λ ts. ts ++ tokens after) (sym (append-nil (mark_tokens c)) ∙ sym (no_word c [] mark))
    ]
cut (c ∷ d ∷ text) after h =
    let rest = cut (d ∷ text) after h in
    elim (cases_Bool (is_of_word c)) [
      | inl word ↦
          of_word c (d ∷ text ++ after) word ∙ ap (with_character c (is_of_word d)) rest
          ∙ elim (cases_Bool (is_of_word d)) [
            | inl on ↦
                ap (λ b. with_character c b (tokens (d ∷ text) ++ tokens after)) on ∙ character_append c (d ∷ text) (tokens after) on
                ∙ ap (λ b. with_character c b (tokens (d ∷ text)) ++ tokens after) (sym on)
            | inr off ↦
                begins_new c (is_of_word d) (tokens (d ∷ text) ++ tokens after) off
                ∙ ap (λ ts. ts ++ tokens after) (sym (begins_new c (is_of_word d) (tokens (d ∷ text)) off))
          ]
          ∙ ap (λ ts. ts ++ tokens after) (sym (of_word c (d ∷ text) word))
      | inr mark ↦
          no_word c (d ∷ text ++ after) mark ∙ ap (λ ts. mark_tokens c ++ ts) rest ∙ sym (append_assoc (mark_tokens c) (tokens (d ∷ text)) (tokens after))
          ∙ ap (λ ts. ts ++ tokens after) (sym (no_word c (d ∷ text) mark))
    ]

and_false : (b : Bool) → (b && false) ≡ false
and_false true = refl
and_false false = refl

-- texts joined by a blank have the tokens of each
pub joined : (texts : List (List ℕ)) → tokens (join_with_byte 32 texts) ≡ flat_map tokens texts
joined [] = refl
joined (text ∷ []) = sym (append-nil (tokens text))
joined (text ∷ next ∷ texts) =
    cut text (32 ∷ join_with_byte 32 (next ∷ texts)) (and_false (ends_with_word text)) ∙ ap (λ ts. tokens text ++ ts) (joined (next ∷ texts))

-- ---- the law

kept_by : (c : ℕ) (b : Bool) (more : List Token) → flat_map token_text (with_character c b more) ≡ c ∷ flat_map token_text more
kept_by c true (Word word ∷ more) = refl
kept_by c true [] = refl
kept_by c true (Open ∷ more) = refl
kept_by c true (Close ∷ more) = refl
kept_by c true (Comma ∷ more) = refl
kept_by c false more = refl

kept_mark : (b o cl co : Bool) (c : ℕ) → b ≡ is_blank c → o ≡ eqb c 40 → cl ≡ eqb c 41 → co ≡ eqb c 44 → (rest : List Token) (word : List Token) (text : List ℕ)
    → flat_map token_text rest ≡ text → flat_map token_text word ≡ c ∷ text
    → flat_map token_text (cond b rest (cond o (Open ∷ rest) (cond cl (Close ∷ rest) (cond co (Comma ∷ rest) word)))) ≡ cond (not b) (c ∷ text) text
kept_mark true o cl co c p q r s rest word text h w = h
kept_mark false true cl co c p q r s rest word text h w = ap (λ t. 40 ∷ t) h ∙ ap (λ d. d ∷ text) (sym (eqb-true c 40 (sym q)))
kept_mark false false true co c p q r s rest word text h w = ap (λ t. 41 ∷ t) h ∙ ap (λ d. d ∷ text) (sym (eqb-true c 41 (sym r)))
kept_mark false false false true c p q r s rest word text h w = ap (λ t. 44 ∷ t) h ∙ ap (λ d. d ∷ text) (sym (eqb-true c 44 (sym s)))
kept_mark false false false false c p q r s rest word text h w = w

kept : (text : List ℕ) → flat_map token_text (tokens text) ≡ filter (λ c. not (is_blank c)) text
kept [] = refl
kept (c ∷ text) =
    kept_mark (is_blank c) (eqb c 40) (eqb c 41) (eqb c 44) c refl refl refl refl (tokens text) (with_character c (begins_with_word text) (tokens text)) (filter (λ x. not (is_blank x)) text)
    (kept text) (kept_by c (begins_with_word text) (tokens text) ∙ ap (λ t. c ∷ t) (kept text))

word : (c : ℕ) (text : List ℕ) → list_all is_of_word (c ∷ text) ≡ true → tokens (c ∷ text) ≡ Word (c ∷ text) ∷ []
word c text h = ap tokens (sym (append-nil (c ∷ text))) ∙ whole_word c text [] h refl

pub tokens_are_the_text : TokensAreTheText
tokens_are_the_text = record { kept = kept; word = word; cut = cut }
