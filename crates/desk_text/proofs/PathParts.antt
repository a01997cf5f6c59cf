-- The parts between the slashes of a text.
use Rattle.std.proofs.Common.{◌≡◌, ◌⊎◌, inl, inr, ℕ, ◌+◌, ◌<◌, Bool, true, false, ◌||◌, not, eqb, List, [], ◌∷◌, ◌++◌, length, get_or, take, drop, filter, refl, sym, ap, ◌∙◌}
use Rattle.std.specs.List.{list_any, slice_split}
use Rattle.std.proofs.lemmas.Bool.{or_parts, cond-true, eqb-true, true≢false}
use Rattle.std.proofs.lemmas.List.{take_more}
use Rattle.std.proofs.lemmas.List.Recursion.{or_push}
use Rattle.std.proofs.lemmas.List.Splits.{slice_split-cons_yes, join_with_byte-slice_split}
use Rattle.desk_text.specs.Path.{components, path_text, is_dot_component, is_absolute}
use Rattle.desk_text.specs.PrivatePath.{is_empty, kept_text}
use Rattle.desk_text.proofs.Slashes.{slashes}

-- one more part
pub any_more : (test : List ℕ → Bool) (parts : List (List ℕ)) (k : ℕ) (part : List ℕ) → (k < length parts) × (part ≡ get_or parts k part) → (found : Bool) → found ≡ list_any test (take k parts)
    → (found || test part) ≡ list_any test (take (k + 1) parts)
any_more test parts k part at found e =
    ap (λ b. b || test part) e ∙ sym (or_push (list_any test) test refl (λ _ _. refl) (take k parts) part)
    ∙ ap (λ p. list_any test (take k parts ++ p ∷ [])) at.1 ∙ ap (list_any test) (sym (take_more parts k part at.0))

-- of an absolute text: what stands behind its first slash
pub parts_behind : (text : List ℕ) → is_absolute text ≡ true → slice_split (λ b. eqb b 47) text ≡ [] ∷ slice_split (λ b. eqb b 47) (drop 1 text)
parts_behind [] h = absurd (cc)
parts_behind (b ∷ text) h = slice_split-cons_yes (λ b. eqb b 47) b text h

keeps_all : (parts : List (List ℕ)) → list_any is_empty parts ≡ false → filter (λ part. not (eqb (length part) 0)) parts ≡ parts
keeps_all [] h = refl
keeps_all (part ∷ parts) h =
    let here = or_parts (is_empty part) (list_any is_empty parts) h in
    cond-true _ _ _ (ap not here.0) ∙ ap (λ ps. part ∷ ps) (keeps_all parts here.1)

-- a text without empty parts behind its first slash is printed as it is
pub printed_already : (text : List ℕ) → is_absolute text ≡ true → list_any is_empty (slice_split (λ b. eqb b 47) (drop 1 text)) ≡ false → path_text (components text) ≡ text
printed_already [] h e = absurd (cc)
printed_already (b ∷ text) h e =
    ap (λ ps. path_text (filter (λ part. not (eqb (length part) 0)) ps)) (parts_behind (b ∷ text) h)
    ∙ ap path_text (keeps_all (slice_split (λ b. eqb b 47) text) e)
    ∙ ap (λ t. 47 ∷ t) (join_with_byte-slice_split 47 text)
    ∙ ap (λ x. x ∷ text) (sym (eqb-true b 47 h))

-- and kept as it is
pub kept_already : (text : List ℕ) → is_absolute text ≡ true → list_any is_empty (slice_split (λ b. eqb b 47) (drop 1 text)) ≡ false → kept_text (components text) ≡ text
kept_already text h e =
    elim (kept_or_root (components text)) [
      | inl same ↦ same ∙ printed_already text h e
      | inr root ↦
          let bare : text ≡ 47 ∷ [] = sym (printed_already text h e) ∙ ap path_text root in
          absurd (true≢false (ap (λ t. list_any is_empty (slice_split (λ b. eqb b 47) (drop 1 t))) (sym bare) ∙ e))
    ]
  where
    kept_or_root : (path : List (List ℕ)) → (kept_text path ≡ path_text path) ⊎ (path ≡ [])
    kept_or_root [] = inr refl
    kept_or_root (c ∷ path) = inl (slashes c path)

-- and no part before it is `.` or `..`
pub dots_behind : (text : List ℕ) → is_absolute text ≡ true → list_any is_dot_component (slice_split (λ b. eqb b 47) (drop 1 text)) ≡ list_any is_dot_component (slice_split (λ b. eqb b 47) text)
dots_behind text h = ap (list_any is_dot_component) (sym (parts_behind text h))
