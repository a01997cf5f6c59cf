-- Lemmas on the elements of a credential text.
use Rattle.std.proofs.Common.{◌≡◌, ◌<◌, ◌==◌, ℕ, Bool, List, [], ◌∷◌, length, ap, sym, refl, ◌∙◌, inl, inr, arith}
use Rattle.std.specs.List.{after_first, before_first, join_with_byte, onto_first, position_or_len, slice_split}
use Rattle.std.proofs.lemmas.Bool.{cases_Bool}
use Rattle.std.proofs.lemmas.List.Splits.{join_with_byte-slice_split, length-slice_split, slice_split-cons_no, slice_split_first}
use Rattle.desk_tables.specs.CredentialText.{cred_breaks, elements, elements_answer, read_credential, user_and_groups_breaks}
use Rattle.desk_tables.specs.PrivateCredentialText.{user_and_groups_answer}
use Rattle.desk_tables.specs.declared.credential_text.CredFault.{CredFault}
use Rattle.desk_tables.specs.declared.groups.Group.{Group}
use Rattle.desk_tables.specs.declared.users.User.{User}

one_part : (p : ℕ → Bool) (xs : List ℕ) → position_or_len p xs ≡ length xs → slice_split p xs ≡ xs ∷ []
one_part p [] whole = refl
one_part p (x ∷ xs) whole =
    elim (cases_Bool (p x)) [
      | inl passes ↦ let h = rw passes at whole in absurd (omega (arith, h))
      | inr fails ↦ let h = rw fails at whole in slice_split-cons_no p x xs fails ∙ ap (onto_first x) (one_part p xs (omega (arith, h)))
    ]

no_text : (text : List ℕ) → length text ≡ 0 → elements text ≡ [] ∷ []
no_text [] empty = refl
no_text (b ∷ bs) empty = absurd (omega arith)

-- the elements of a text without a colon, of one that ends with its only colon, and of another
pub alone : (text : List ℕ) → position_or_len (λ b. b == 58) text ≡ length text → elements text ≡ text ∷ []
alone text whole = one_part (λ b. b == 58) text whole

cut : (text : List ℕ) → position_or_len (λ b. b == 58) text < length text → elements text ≡ before_first (λ b. b == 58) text ∷ elements (after_first (λ b. b == 58) text)
cut text inside = slice_split_first (λ b. b == 58) text 0 inside

pub without_others : (text : List ℕ) → position_or_len (λ b. b == 58) text < length text → length (after_first (λ b. b == 58) text) ≡ 0 → elements text ≡ before_first (λ b. b == 58) text ∷ [] ∷ []
without_others text inside empty = cut text inside ∙ ap (λ es. before_first (λ b. b == 58) text ∷ es) (no_text (after_first (λ b. b == 58) text) empty)

module _ (users : List User) (groups : List Group) where
  -- groups behind a user answer, and have faults, as they are written
  answers_as_written : (user others : List ℕ) (es : List (List ℕ)) → elements others ≡ es → (length others ≡ 0 → ⊥) → elements_answer users groups (user ∷ es) ≡ user_and_groups_answer users groups user es
  answers_as_written user others [] is some = absurd (omega (arith, ap length is, length-slice_split (λ b. b == 58) others))
  answers_as_written user others ([] ∷ []) is some =
      let empty : others ≡ [] = sym (join_with_byte-slice_split 58 others) ∙ ap (join_with_byte 58) is in
      absurd (some (ap length empty))
  answers_as_written user others ((b ∷ bs) ∷ []) is some = refl
  answers_as_written user others ([] ∷ e ∷ es) is some = refl
  answers_as_written user others ((b ∷ bs) ∷ e ∷ es) is some = refl

  breaks_as_written : (user others : List ℕ) (es : List (List ℕ)) (fault : CredFault) → elements others ≡ es → (length others ≡ 0 → ⊥) → cred_breaks users groups (user ∷ es) fault ≡ user_and_groups_breaks users groups user es fault
  breaks_as_written user others [] fault is some = absurd (omega (arith, ap length is, length-slice_split (λ b. b == 58) others))
  breaks_as_written user others ([] ∷ []) fault is some =
      let empty : others ≡ [] = sym (join_with_byte-slice_split 58 others) ∙ ap (join_with_byte 58) is in
      absurd (some (ap length empty))
  breaks_as_written user others ((b ∷ bs) ∷ []) fault is some = refl
  breaks_as_written user others ([] ∷ e ∷ es) fault is some = refl
  breaks_as_written user others ((b ∷ bs) ∷ e ∷ es) fault is some = refl

  pub with_others : (text : List ℕ) → position_or_len (λ b. b == 58) text < length text → (length (after_first (λ b. b == 58) text) ≡ 0 → ⊥)
      → read_credential users groups text ≡ user_and_groups_answer users groups (before_first (λ b. b == 58) text) (elements (after_first (λ b. b == 58) text))
  with_others text inside some =
      ap (elements_answer users groups) (cut text inside) ∙ answers_as_written (before_first (λ b. b == 58) text) (after_first (λ b. b == 58) text) (elements (after_first (λ b. b == 58) text)) refl some

  pub breaks_with_others : (text : List ℕ) (fault : CredFault) → position_or_len (λ b. b == 58) text < length text → (length (after_first (λ b. b == 58) text) ≡ 0 → ⊥)
      → cred_breaks users groups (elements text) fault ≡ user_and_groups_breaks users groups (before_first (λ b. b == 58) text) (elements (after_first (λ b. b == 58) text)) fault
  breaks_with_others text fault inside some =
      ap (λ es. cred_breaks users groups es fault) (cut text inside)
      ∙ breaks_as_written (before_first (λ b. b == 58) text) (after_first (λ b. b == 58) text) (elements (after_first (λ b. b == 58) text)) fault refl some
