-- Texts in the order of their first places, without duplicates.
use Rattle.std.proofs.Common.{◌≡◌, ℕ, ◌+◌, ◌<◌, ◌||◌, Bool, true, false, cond, List, [], ◌∷◌, ◌++◌, length, get_or, map, take, drop, refl, sym, ap, subst, ◌∙◌, inl, inr, append_assoc, arith}
use Rattle.std.specs.Borrow.{Bor}
use Rattle.std.specs.List.{AllByRecursion}
use Rattle.std.specs.Str.{bytes_eq}
use Rattle.std.proofs.lemmas.Bool.{cases_Bool, or_left, or_right, true≢false}
use Rattle.std.proofs.lemmas.List.{append-nil, drop_more, get_or-map, length-map, take_more}
use Rattle.std.proofs.lemmas.List.Elements.{All-from_recursion}
use Rattle.std.proofs.lemmas.List.Folds.{list_any-append}
use Rattle.std.proofs.lemmas.List.Kept.{AllPairs-cons}
use Rattle.std.proofs.lemmas.Slice.Eq.{bytes_eq-Decides}
use Rattle.desk_netgroup.specs.Netgroups.{AreDistinct, is_among}
use Rattle.desk_netgroup.specs.Walk.{new_texts}

or_false : (b : Bool) → (b || false) ≡ b
or_false true = refl
or_false false = refl

or_neither : (a b : Bool) → a ≡ false → b ≡ false → (a || b) ≡ false
or_neither a b p q = ap (λ x. x || b) p ∙ q

pub among_more : (text last : List ℕ) (before : List (List ℕ)) → is_among text (before ++ last ∷ []) ≡ (is_among text before || bytes_eq text last)
among_more text last before = list_any-append (bytes_eq text) before (last ∷ []) ∙ ap (λ b. is_among text before || b) (or_false (bytes_eq text last))

same_text : (a b : List ℕ) → bytes_eq a b ≡ true → a ≡ b
same_text a b e = (bytes_eq-Decides a b).0 e

-- what is kept of a text
kept_old : (before : List (List ℕ)) (text : List ℕ) (more : List (List ℕ)) → is_among text before ≡ true → cond (is_among text before) [] (text ∷ []) ++ more ≡ more
kept_old before text more e = ap (λ b. cond b [] (text ∷ []) ++ more) e

kept_new : (before : List (List ℕ)) (text : List ℕ) (more : List (List ℕ)) → is_among text before ≡ false → cond (is_among text before) [] (text ∷ []) ++ more ≡ text ∷ more
kept_new before text more e = ap (λ b. cond b [] (text ∷ []) ++ more) e

by_cases : (b : Bool) → (b ≡ true → ⊥) → b ≡ false
by_cases true no_way = absurd (no_way refl)
by_cases false no_way = refl

-- a text that stands before is not new
never_again : (before texts : List (List ℕ)) (text : List ℕ) → is_among text before ≡ true → is_among text (new_texts before texts) ≡ false
never_again before [] text e = refl
never_again before (first ∷ texts) text e =
    let later : is_among text (new_texts (before ++ first ∷ []) texts) ≡ false = never_again (before ++ first ∷ []) texts text (among_more text first before ∙ or_left _ _ e) in
    elim (cases_Bool (is_among first before)) [
      | inl old ↦ ap (is_among text) (kept_old before first (new_texts (before ++ first ∷ []) texts) old) ∙ later
      | inr new ↦
          ap (is_among text) (kept_new before first (new_texts (before ++ first ∷ []) texts) new)
          ∙ or_neither (bytes_eq text first) (is_among text (new_texts (before ++ first ∷ []) texts))
          (by_cases (bytes_eq text first) (λ same. true≢false (sym e ∙ ap (λ t. is_among t before) (same_text text first same) ∙ new)))
          later
    ]

-- a text that does not stand before is new where it is one of the texts
among_new : (before texts : List (List ℕ)) (text : List ℕ) → is_among text before ≡ false → is_among text (new_texts before texts) ≡ is_among text texts
among_new before [] text e = refl
among_new before (first ∷ texts) text e =
    let rest = new_texts (before ++ first ∷ []) texts in
    elim (cases_Bool (bytes_eq text first)) [
      | inl same ↦
          let new : is_among first before ≡ false = ap (λ t. is_among t before) (sym (same_text text first same)) ∙ e in
          ap (is_among text) (kept_new before first rest new) ∙ or_left _ _ same ∙ sym (or_left (bytes_eq text first) (is_among text texts) same)
      | inr other ↦
          let later : is_among text rest ≡ is_among text texts = among_new (before ++ first ∷ []) texts text (among_more text first before ∙ or_neither _ _ e other) in
          elim (cases_Bool (is_among first before)) [
            | inl old ↦ ap (is_among text) (kept_old before first rest old) ∙ later ∙ ap (λ b. b || is_among text texts) (sym other)
            | inr new ↦ ap (is_among text) (kept_new before first rest new) ∙ ap (λ b. b || is_among text rest) other ∙ later ∙ ap (λ b. b || is_among text texts) (sym other)
          ]
    ]

pub same_texts : (texts : List (List ℕ)) (text : List ℕ) → is_among text (new_texts [] texts) ≡ is_among text texts
same_texts texts text = among_new [] texts text refl

none_of : (text : List ℕ) (texts : List (List ℕ)) → is_among text texts ≡ false → AllByRecursion (λ later. bytes_eq text later ≡ false) texts
none_of text [] e = tt
none_of text (first ∷ texts) e = (first_no (bytes_eq text first) (is_among text texts) e, none_of text texts (second_no (bytes_eq text first) (is_among text texts) e))
  where
    first_no : (a b : Bool) → (a || b) ≡ false → a ≡ false
    first_no true b h = h
    first_no false b h = refl

    second_no : (a b : Bool) → (a || b) ≡ false → b ≡ false
    second_no true b h = absurd (true≢false h)
    second_no false b h = h

distinct_from : (before texts : List (List ℕ)) → AreDistinct (new_texts before texts)
distinct_from before [] = λ i j d less within. absurd (omega arith)
distinct_from before (first ∷ texts) =
    let R : List ℕ → List ℕ → Type 0 = λ text later. bytes_eq text later ≡ false in
    let rest = new_texts (before ++ first ∷ []) texts in
    let later : AreDistinct rest = distinct_from (before ++ first ∷ []) texts in
    elim (cases_Bool (is_among first before)) [
      | inl old ↦ subst AreDistinct (sym (kept_old before first rest old)) later
      | inr new ↦ subst AreDistinct (sym (kept_new before first rest new))
          (AllPairs-cons R first rest (All-from_recursion (λ later. bytes_eq first later ≡ false) rest
          (none_of first rest (never_again (before ++ first ∷ []) texts first (among_more first first before ∙ or_right _ _ ((bytes_eq-Decides first first).1 refl))))) later)
    ]

pub distinct : (texts : List (List ℕ)) → AreDistinct (new_texts [] texts)
distinct texts = distinct_from [] texts

cond_join : (b : Bool) (kept : List (List ℕ)) (text : List ℕ) → cond b kept (kept ++ text ∷ []) ≡ kept ++ cond b [] (text ∷ [])
cond_join true kept text = sym (append-nil kept)
cond_join false kept text = refl

-- one text more
module _ (xs : List (Bor (List ℕ))) (i : ℕ) (d : Bor (List ℕ)) (within : i < length xs) where
  abbrev texts : List (List ℕ)
  texts = map (λ x. x.now) xs

  abbrev text : List ℕ
  text = (get_or xs i d).now

  at : get_or texts i d.now ≡ text
  at = get_or-map (λ x. x.now) xs i d d.now within

  inside : i < length texts
  inside = omega (arith, within, length-map xs (λ x. x.now))

  up : take (i + 1) texts ≡ take i texts ++ text ∷ []
  up = take_more texts i d.now inside ∙ ap (λ t. take i texts ++ t ∷ []) at

  down : drop i texts ≡ text ∷ drop (i + 1) texts
  down = drop_more texts i d.now inside ∙ ap (λ t. t ∷ drop (i + 1) texts) at

  pub seen_more : (old new : List ℕ → Bool) → ((t : List ℕ) → old t ≡ is_among t (take i texts)) → ((t : List ℕ) → new t ≡ (old t || bytes_eq t text))
      → (t : List ℕ) → new t ≡ is_among t (take (i + 1) texts)
  seen_more old new seen step t =
      step t ∙ ap (λ b. b || bytes_eq t text) (seen t) ∙ sym (among_more t text (take i texts)) ∙ ap (is_among t) (sym up)

  pub kept_more : (old : List ℕ → Bool) (kept kept' all : List (List ℕ)) → ((t : List ℕ) → old t ≡ is_among t (take i texts)) → kept' ≡ cond (old text) kept (kept ++ text ∷ [])
      → kept ++ new_texts (take i texts) (drop i texts) ≡ all → kept' ++ new_texts (take (i + 1) texts) (drop (i + 1) texts) ≡ all
  kept_more old kept kept' all seen more so_far =
      let rest = new_texts (take i texts ++ text ∷ []) (drop (i + 1) texts) in
      ap (λ k. k ++ new_texts (take (i + 1) texts) (drop (i + 1) texts)) (more ∙ cond_join (old text) kept text ∙ ap (λ b. kept ++ cond b [] (text ∷ [])) (seen text))
      ∙ ap (λ before. (kept ++ cond (is_among text (take i texts)) [] (text ∷ [])) ++ new_texts before (drop (i + 1) texts)) up
      ∙ append_assoc kept (cond (is_among text (take i texts)) [] (text ∷ [])) rest
      ∙ ap (λ more. kept ++ new_texts (take i texts) more) (sym down) ∙ so_far
