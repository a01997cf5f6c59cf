-- What a word stands for, character by character.
use Rattle.std.proofs.Common.{◌≡◌, ◌⊎◌, inl, inr, ℕ, ◌+◌, ◌<◌, ◌≤◌, drop, Bool, true, false, ◌||◌, cond, eqb, Option, Some, None, is_some, List, [], ◌∷◌, ◌++◌, length, get_or, refl, sym, ap, subst, ◌∙◌, append_assoc, arith}
use Rattle.std.specs.List.{flat_map, AllByRecursion}
use Rattle.std.specs.Prelude.{encode_utf8, encode_utf8_all}
use Rattle.std.proofs.lemmas.Bool.{cases_Bool, cases_lt, cond-true, cond-false, eqb-true, ne_eqb, or_cases, or_parts, false≢true, true≢false}
use Rattle.std.proofs.lemmas.List.{append-nil, drop_more}
use Rattle.std.proofs.lemmas.List.Concat.{flat_map-append}
use Rattle.std.proofs.lemmas.Str.{encode_ascii, inside_one, length-encode, len_utf8_bounds, encodes-chars}
use Rattle.std.specs.Str.{IsUtf8, chars}
use Rattle.std.proofs.lemmas.List.Elements.{recursion_from_All, All-from_get_or}
use Rattle.desk_text.specs.Word.{Character, Bare, Escaped, Lone, Single, Quoted, characters, atoms_of, quoted, atoms, is_quote, character_value, atom_value, word_value, has_marks}
use Rattle.desk_text.specs.PrivateWord.{is_mark}
use Rattle.desk_text.proofs.Atoms.{characters-bare}

-- the value of the rest of a word, where a quote may be open, and the character before may be a backslash that takes the next
abbrev pub value_from : Option ℕ → Bool → List ℕ → List ℕ
value_from q e [] = []
value_from q true (c ∷ cs) = c ∷ value_from q false cs
value_from None false (c ∷ cs) = cond (eqb c 92) (value_from None true cs) (cond (is_quote c) (value_from (Some c) false cs) (c ∷ value_from None false cs))
value_from (Some p) false (c ∷ cs) = cond (eqb c 92) (value_from (Some p) true cs) (cond (eqb c p) (value_from None false cs) (c ∷ value_from (Some p) false cs))

abbrev HasValues : List ℕ → Type 0
HasValues cs =
    (flat_map atom_value (atoms cs) ≡ value_from None false cs)
    × ((q : ℕ) (inner : List Character) → flat_map atom_value (quoted q inner (characters cs)) ≡ flat_map character_value inner ++ value_from (Some q) false cs)

pick : {X Y : Type 0} (f : X → Y) (b : Bool) (x y : X) (v w : Y) → f x ≡ v → f y ≡ w → f (cond b x y) ≡ cond b v w
pick f true x y v w e h = e
pick f false x y v w e h = h

inner_more : (inner : List Character) (c : Character) (t : List ℕ) → flat_map character_value (inner ++ c ∷ []) ++ t ≡ flat_map character_value inner ++ (character_value c ++ t)
inner_more inner c t =
    ap (λ vs. vs ++ t) (flat_map-append character_value inner (c ∷ []) ∙ ap (λ vs. flat_map character_value inner ++ vs) (append-nil (character_value c)))
    ∙ append_assoc (flat_map character_value inner) (character_value c) t

bare : (c : ℕ) (t : List ℕ) → HasValues t → eqb c 92 ≡ false → HasValues (c ∷ t)
bare c t h e = (
  ap (λ xs. flat_map atom_value (atoms_of xs)) (characters-bare c t e)
      ∙ pick (flat_map atom_value) (is_quote c) (quoted c [] (characters t)) (Single (Bare c) ∷ atoms t) (value_from (Some c) false t) (c ∷ value_from None false t) (h.1 c []) (ap (λ v. c ∷ v) h.0)
      ∙ sym (cond-false (eqb c 92) (value_from None true t) (cond (is_quote c) (value_from (Some c) false t) (c ∷ value_from None false t)) e),
  λ q inner.
      ap (λ xs. flat_map atom_value (quoted q inner xs)) (characters-bare c t e)
      ∙ pick (flat_map atom_value) (eqb c q) (Quoted q inner ∷ atoms t) (quoted q (inner ++ Bare c ∷ []) (characters t)) (flat_map character_value inner ++ value_from None false t) (flat_map character_value inner ++ (c ∷ value_from (Some q) false t))
      (ap (λ v. flat_map character_value inner ++ v) h.0) (h.1 q (inner ++ Bare c ∷ []) ∙ inner_more inner (Bare c) (value_from (Some q) false t))
      ∙ sym (pick (λ v. flat_map character_value inner ++ v) (eqb c q) (value_from None false t) (c ∷ value_from (Some q) false t) _ _ refl refl)
      ∙ ap (λ v. flat_map character_value inner ++ v) (sym (cond-false (eqb c 92) (value_from (Some q) true t) (cond (eqb c q) (value_from None false t) (c ∷ value_from (Some q) false t)) e)),
)

escape : (d : ℕ) (t : List ℕ) → HasValues t → HasValues (92 ∷ d ∷ t)
escape d t h = (ap (λ v. d ∷ v) h.0, λ q inner. h.1 q (inner ++ Escaped d ∷ []) ∙ inner_more inner (Escaped d) (value_from (Some q) false t))

lone : HasValues (92 ∷ [])
lone = (refl, λ q inner. inner_more inner Lone [])

has_values : (cs : List ℕ) → HasValues cs
has_values [] = (refl, λ q inner. refl)
has_values (c ∷ []) =
    let cases : (eqb c 92 ≡ true) ⊎ (eqb c 92 ≡ false) = cases_Bool (eqb c 92) in
    elim cases [ inl e ↦ subst (λ x. HasValues (x ∷ [])) (sym (eqb-true c 92 e)) lone | inr e ↦ bare c [] (refl, λ q inner. refl) e ]
has_values (c ∷ d ∷ cs) =
    let short = has_values cs in
    let long = has_values (d ∷ cs) in
    let cases : (eqb c 92 ≡ true) ⊎ (eqb c 92 ≡ false) = cases_Bool (eqb c 92) in
    elim cases [ inl e ↦ subst (λ x. HasValues (x ∷ d ∷ cs)) (sym (eqb-true c 92 e)) (escape d cs short) | inr e ↦ bare c (d ∷ cs) long e ]

pub word_value-from : (cs : List ℕ) → word_value cs ≡ value_from None false cs
word_value-from cs = (has_values cs).0

pub value-escaped : (q : Option ℕ) (c : ℕ) (t : List ℕ) → value_from q true (c ∷ t) ≡ c ∷ value_from q false t
value-escaped None c t = refl
value-escaped (Some p) c t = refl

pub value-backslash : (q : Option ℕ) (t : List ℕ) → value_from q false (92 ∷ t) ≡ value_from q true t
value-backslash None t = refl
value-backslash (Some p) t = refl

pub value-close : (q : Option ℕ) (c : ℕ) (t : List ℕ) → eqb c 92 ≡ false → is_mark q c ≡ true → is_some q ≡ true → value_from q false (c ∷ t) ≡ value_from None false t
value-close None c t e h s = absurd (false≢true s)
value-close (Some p) c t e h s = cond-false _ _ _ e ∙ cond-true _ _ _ h

pub value-open : (q : Option ℕ) (c : ℕ) (t : List ℕ) → eqb c 92 ≡ false → is_mark q c ≡ true → is_some q ≡ false → value_from q false (c ∷ t) ≡ value_from (Some c) false t
value-open None c t e h s = cond-false _ _ _ e ∙ cond-true _ _ _ h
value-open (Some p) c t e h s = absurd (true≢false s)

pub value-plain : (q : Option ℕ) (c : ℕ) (t : List ℕ) → eqb c 92 ≡ false → is_mark q c ≡ false → value_from q false (c ∷ t) ≡ c ∷ value_from q false t
value-plain None c t e h = cond-false _ _ _ e ∙ cond-false _ _ _ h
value-plain (Some p) c t e h = cond-false _ _ _ e ∙ cond-false _ _ _ h

-- bytes and characters: the value of the bytes is the bytes of the value
abbrev IsQuote : Option ℕ → Type 0
IsQuote None = Unit {0}
IsQuote (Some p) = is_quote p ≡ true

quote_is_ascii : (p : ℕ) → is_quote p ≡ true → p < 128
quote_is_ascii p h = elim (or_cases (eqb p 34) (eqb p 39) h) [ inl e ↦ (let s = eqb-true p 34 e in omega arith) | inr e ↦ (let s = eqb-true p 39 e in omega arith) ]

high-stays : (q : Option ℕ) (c : ℕ) → 128 ≤ c → IsQuote q → is_mark q c ≡ false
high-stays None c h k = ap (λ b. b || eqb c 39) (ne_eqb c 34 (λ e. omega arith)) ∙ ne_eqb c 39 (λ e. omega arith)
high-stays (Some p) c h k = let a = quote_is_ascii p k in ne_eqb c p (λ e. omega arith)

high : (q : Option ℕ) (e : Bool) (c : ℕ) (t : List ℕ) → 128 ≤ c → IsQuote q → value_from q e (c ∷ t) ≡ c ∷ value_from q false t
high q true c t h k = value-escaped q c t
high q false c t h k = value-plain q c t (ne_eqb c 92 (λ e. omega arith)) (high-stays q c h k)

block : (bs t : List ℕ) (q : Option ℕ) (e : Bool) → 0 < length bs → AllByRecursion (λ b. 128 ≤ b) bs → IsQuote q → value_from q e (bs ++ t) ≡ bs ++ value_from q false t
block [] t q e some h k = absurd (omega arith)
block (b ∷ []) t q e some h k = high q e b t h.0 k
block (b ∷ d ∷ bs) t q e some h k = high q e b (d ∷ bs ++ t) h.0 k ∙ ap (λ v. b ∷ v) (block (d ∷ bs) t q false (omega arith) h.1 k)

high_bytes : (c : ℕ) → 128 ≤ c → AllByRecursion (λ b. 128 ≤ b) (encode_utf8 c)
high_bytes c h =
    recursion_from_All (λ b. 128 ≤ b) (encode_utf8 c) (All-from_get_or (λ b. 128 ≤ b) (encode_utf8 c) 0 (λ k lt.
    let cases : (get_or (encode_utf8 c) k 0 < 128) ⊎ (128 ≤ get_or (encode_utf8 c) k 0) = cases_lt (get_or (encode_utf8 c) k 0) 128 in
    elim cases [ inl low ↦ absurd (let same = inside_one c [] (encode_utf8 c) k (sym (append-nil (encode_utf8 c))) lt low in omega arith) | inr ge ↦ ge ]))

abbrev AgreesOn : List ℕ → Type 0
AgreesOn cs = (q : Option ℕ) (e : Bool) → IsQuote q → value_from q e (encode_utf8_all cs) ≡ encode_utf8_all (value_from q e cs)

pick_by : {X Y : Type 0} (f : X → Y) (b : Bool) (x y : X) (v w : Y) → (b ≡ true → v ≡ f x) → (b ≡ false → w ≡ f y) → cond b v w ≡ f (cond b x y)
pick_by f true x y v w h k = h refl
pick_by f false x y v w h k = k refl

low : (c : ℕ) (cs : List ℕ) → encode_utf8 c ≡ c ∷ [] → AgreesOn cs → (q : Option ℕ) (e : Bool) → IsQuote q → value_from q e (c ∷ encode_utf8_all cs) ≡ encode_utf8_all (value_from q e (c ∷ cs))
low c cs one ih q true k =
    value-escaped q c (encode_utf8_all cs) ∙ ap (λ v. c ∷ v) (ih q false k) ∙ ap (λ bs. bs ++ encode_utf8_all (value_from q false cs)) (sym one) ∙ ap encode_utf8_all (sym (value-escaped q c cs))
low c cs one ih None false k =
    pick_by encode_utf8_all (eqb c 92) (value_from None true cs) (cond (is_quote c) (value_from (Some c) false cs) (c ∷ value_from None false cs)) _ _
    (λ _. ih None true tt)
    (λ _. pick_by encode_utf8_all (is_quote c) (value_from (Some c) false cs) (c ∷ value_from None false cs) _ _
    (λ h. ih (Some c) false h)
    (λ _. ap (λ v. c ∷ v) (ih None false tt) ∙ ap (λ bs. bs ++ encode_utf8_all (value_from None false cs)) (sym one)))
low c cs one ih (Some p) false k =
    pick_by encode_utf8_all (eqb c 92) (value_from (Some p) true cs) (cond (eqb c p) (value_from None false cs) (c ∷ value_from (Some p) false cs)) _ _
    (λ _. ih (Some p) true k)
    (λ _. pick_by encode_utf8_all (eqb c p) (value_from None false cs) (c ∷ value_from (Some p) false cs) _ _
    (λ _. ih None false tt)
    (λ _. ap (λ v. c ∷ v) (ih (Some p) false k) ∙ ap (λ bs. bs ++ encode_utf8_all (value_from (Some p) false cs)) (sym one)))

agrees : (cs : List ℕ) → AgreesOn cs
agrees [] = λ q e k. refl
agrees (c ∷ cs) = λ q e k.
    let ih = agrees cs in
    let cases : (c < 128) ⊎ (128 ≤ c) = cases_lt c 128 in
    elim cases [
      | inl lt ↦ ap (λ bs. value_from q e (bs ++ encode_utf8_all cs)) (encode_ascii c lt) ∙ low c cs (encode_ascii c lt) ih q e k
      | inr ge ↦
          block (encode_utf8 c) (encode_utf8_all cs) q e (omega (arith, length-encode c, (len_utf8_bounds c).0)) (high_bytes c ge) k
          ∙ ap (λ v. encode_utf8 c ++ v) (ih q false k) ∙ ap encode_utf8_all (sym (high q e c cs ge k))
    ]

pub word_value-chars : (raw : List ℕ) → IsUtf8 raw → encode_utf8_all (value_from None false (chars raw)) ≡ word_value raw
word_value-chars raw h =
    sym (agrees (chars raw) None false tt) ∙ ap (value_from None false) (encodes-chars raw h) ∙ sym (word_value-from raw)

-- one more character of the word
module _ (raw done : List ℕ) (k c : ℕ) (q : Option ℕ) (e : Bool) (at : (k < length (chars raw)) × (c ≡ get_or (chars raw) k c))
    (so_far : done ++ encode_utf8_all (value_from q e (drop k (chars raw))) ≡ encode_utf8_all (value_from None false (chars raw))) where
  rest : drop k (chars raw) ≡ c ∷ drop (k + 1) (chars raw)
  rest = drop_more (chars raw) k c at.0 ∙ ap (λ x. x ∷ drop (k + 1) (chars raw)) (sym at.1)

  pub silent : (q' : Option ℕ) (e' : Bool) → value_from q e (c ∷ drop (k + 1) (chars raw)) ≡ value_from q' e' (drop (k + 1) (chars raw))
      → done ++ encode_utf8_all (value_from q' e' (drop (k + 1) (chars raw))) ≡ encode_utf8_all (value_from None false (chars raw))
  silent q' e' s = ap (λ v. done ++ encode_utf8_all v) (sym s ∙ ap (value_from q e) (sym rest)) ∙ so_far

  pub stands : (new : List ℕ) (q' : Option ℕ) (e' : Bool) → new ≡ done ++ encode_utf8 c → value_from q e (c ∷ drop (k + 1) (chars raw)) ≡ c ∷ value_from q' e' (drop (k + 1) (chars raw))
      → new ++ encode_utf8_all (value_from q' e' (drop (k + 1) (chars raw))) ≡ encode_utf8_all (value_from None false (chars raw))
  stands new q' e' is s =
      ap (λ t. t ++ encode_utf8_all (value_from q' e' (drop (k + 1) (chars raw)))) is ∙ append_assoc done (encode_utf8 c) (encode_utf8_all (value_from q' e' (drop (k + 1) (chars raw))))
      ∙ ap (λ v. done ++ encode_utf8_all v) (sym s ∙ ap (value_from q e) (sym rest)) ∙ so_far

module _ (q : Option ℕ) (e : Bool) (c : ℕ) (t : List ℕ) where
  pub by_escape : e ≡ true → value_from q e (c ∷ t) ≡ c ∷ value_from q false t
  by_escape h = ap (λ b. value_from q b (c ∷ t)) h ∙ value-escaped q c t

  pub by_backslash : e ≡ false → c ≡ 92 → value_from q e (c ∷ t) ≡ value_from q true t
  by_backslash h s = ap (λ b. value_from q b (c ∷ t)) h ∙ ap (λ x. value_from q false (x ∷ t)) s ∙ value-backslash q t

  pub by_plain : e ≡ false → eqb c 92 ≡ false → is_mark q c ≡ false → value_from q e (c ∷ t) ≡ c ∷ value_from q e t
  by_plain h s m = ap (λ b. value_from q b (c ∷ t)) h ∙ value-plain q c t s m ∙ ap (λ b. c ∷ value_from q b t) (sym h)

  pub by_close : e ≡ false → eqb c 92 ≡ false → is_mark q c ≡ true → is_some q ≡ true → value_from q e (c ∷ t) ≡ value_from None e t
  by_close h s m k = ap (λ b. value_from q b (c ∷ t)) h ∙ value-close q c t s m k ∙ ap (λ b. value_from None b t) (sym h)

  pub by_open : e ≡ false → eqb c 92 ≡ false → is_mark q c ≡ true → is_some q ≡ false → value_from q e (c ∷ t) ≡ value_from (Some c) e t
  by_open h s m k = ap (λ b. value_from q b (c ∷ t)) h ∙ value-open q c t s m k ∙ ap (λ b. value_from (Some c) b t) (sym h)

-- a word without quotes and backslashes stands for itself
unmarked : (raw : List ℕ) → has_marks raw ≡ false → value_from None false raw ≡ raw
unmarked [] h = refl
unmarked (c ∷ t) h =
    let here : (is_quote c || eqb c 92 ≡ false) × (has_marks t ≡ false) = or_parts _ _ h in
    let no_mark : (is_quote c ≡ false) × (eqb c 92 ≡ false) = or_parts _ _ here.0 in
    value-plain None c t no_mark.1 no_mark.0 ∙ ap (λ v. c ∷ v) (unmarked t here.1)

pub word_value-unmarked : (raw : List ℕ) → has_marks raw ≡ false → word_value raw ≡ raw
word_value-unmarked raw h = word_value-from raw ∙ unmarked raw h
