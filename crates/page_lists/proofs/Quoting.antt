-- A shell takes the word that is made of a text for this text.
use Rattle.std.proofs.Common.{◌≡◌, ◌++◌, ◌∙◌, ℕ, Bool, true, cond, List, [], ◌∷◌, Option, Some, None, ap, inl, inr, refl, sym}
use Rattle.std.specs.Prelude.{◌==◌, ◌&&◌}
use Rattle.std.specs.List.{list_all}
use Rattle.std.specs.Option.{option_map}
use Rattle.std.proofs.lemmas.Bool.{cases_Bool, eqb-true, true≢false}
use Rattle.std.proofs.lemmas.List.{append_assoc}
use Rattle.page_lists.specs.Laws.{Behind, Outside, ShellsTakeWords, Within, taken}
use Rattle.page_lists.specs.Shell.{all_in_quotes, begins_plainly, in_quotes, is_plain, is_plain_character, quoted, word_of}

and_left : (a b : Bool) → (a && b) ≡ true → a ≡ true
and_left a b e = elim (cases_Bool a) as (λ _. a ≡ true) [
  | inl is ↦ is
  | inr fails ↦ absurd (true≢false (sym e ∙ ap (λ x. x && b) fails))
]

and_right : (a b : Bool) → (a && b) ≡ true → b ≡ true
and_right a b e = sym (ap (λ x. x && b) (and_left a b e)) ∙ e

-- what a character comes to outside of quotation marks that is not plain
abbrev otherwise : ℕ → List ℕ → Option (List ℕ)
otherwise c cs = cond (c == 39) (taken Within cs) (cond (c == 92) (taken Behind cs) None)

plain_taken : (cs : List ℕ) → list_all is_plain_character cs ≡ true → taken Outside cs ≡ Some cs
plain_taken [] are = refl
plain_taken (c ∷ cs) are =
    ap (λ b. cond b (option_map (λ rest. c ∷ rest) (taken Outside cs)) (otherwise c cs))
    (and_left (is_plain_character c) (list_all is_plain_character cs) are)
    ∙ ap (option_map (λ rest. c ∷ rest)) (plain_taken cs (and_right (is_plain_character c) (list_all is_plain_character cs) are))

-- one more character within quotation marks
one_taken : (c : ℕ) (rest : List ℕ) → taken Within (in_quotes c ++ rest) ≡ option_map (λ more. c ∷ more) (taken Within rest)
one_taken c rest =
    elim (cases_Bool (c == 39)) as (λ _. taken Within (in_quotes c ++ rest) ≡ option_map (λ more. c ∷ more) (taken Within rest)) [
      | inl is ↦ ap (λ x. taken Within (in_quotes x ++ rest)) (eqb-true c 39 is)
          ∙ ap (λ x. option_map (λ more. x ∷ more) (taken Within rest)) (sym (eqb-true c 39 is))
      | inr other ↦ ap (λ b. taken Within (cond b (39 ∷ 92 ∷ 39 ∷ 39 ∷ []) (c ∷ []) ++ rest)) other
          ∙ ap (λ b. cond b (taken Outside rest) (option_map (λ more. c ∷ more) (taken Within rest))) other
    ]

quoted_taken : (cs : List ℕ) → taken Within (all_in_quotes cs ++ 39 ∷ []) ≡ Some cs
quoted_taken [] = refl
quoted_taken (c ∷ cs) =
    ap (taken Within) (append_assoc (in_quotes c) (all_in_quotes cs) (39 ∷ [])) ∙ one_taken c (all_in_quotes cs ++ 39 ∷ [])
    ∙ ap (option_map (λ more. c ∷ more)) (quoted_taken cs)

pub shells_take_words : ShellsTakeWords
shells_take_words = λ cs.
    elim (cases_Bool (is_plain cs)) as (λ _. taken Outside (word_of cs) ≡ Some cs) [
      | inl plain ↦ ap (λ b. taken Outside (cond b cs (quoted cs))) plain
          ∙ plain_taken cs (and_right (begins_plainly cs) (list_all is_plain_character cs) plain)
      | inr other ↦ ap (λ b. taken Outside (cond b cs (quoted cs))) other ∙ quoted_taken cs
    ]
