-- The components of a path, and its text.
use Rattle.std.proofs.Common.{◌≡◌, ◌⊎◌, inl, inr, ℕ, ◌+◌, ◌<◌, true, false, not, cond, eqb, List, [], ◌∷◌, ◌++◌, length, get_or, take, filter, refl, sym, ap, subst, ◌∙◌, append_assoc, arith}
use Rattle.std.specs.List.{slice_split, onto_first, flat_map, AllByRecursion, join_with_byte}
use Rattle.std.proofs.lemmas.Bool.{cases_Bool, cond-true, cond-false, ne_eqb}
use Rattle.std.proofs.lemmas.List.{append-nil}
use Rattle.std.proofs.lemmas.List.Elements.{All-from_recursion, filter_more}
use Rattle.std.proofs.lemmas.List.Concat.{flat_map-append}
use Rattle.std.proofs.lemmas.List.Splits.{slice_split_at, slice_split_none}
use Rattle.desk_text.specs.Path.{components, path_text}
use Rattle.desk_text.specs.PrivatePath.{kept_text}

abbrev pub NoSlash : List ℕ → Type 0
NoSlash part = AllByRecursion (λ b. eqb b 47 ≡ false) part

abbrev pub IsComponent : List ℕ → Type 0
IsComponent part = (not (eqb (length part) 0) ≡ true) × NoSlash part

onto_no_slash : (b : ℕ) (parts : List (List ℕ)) → eqb b 47 ≡ false → AllByRecursion NoSlash parts → AllByRecursion NoSlash (onto_first b parts)
onto_no_slash b [] e h = ((e, tt), tt)
onto_no_slash b (part ∷ parts) e h = ((e, h.0), h.1)

parts_no_slash : (text : List ℕ) → AllByRecursion NoSlash (slice_split (λ b. eqb b 47) text)
parts_no_slash [] = (tt, tt)
parts_no_slash (b ∷ text) =
    let rest = parts_no_slash text in
    let cases : (eqb b 47 ≡ true) ⊎ (eqb b 47 ≡ false) = cases_Bool (eqb b 47) in
    elim cases [
      | inl e ↦ subst (λ ps. AllByRecursion NoSlash ps) (sym (cond-true (eqb b 47) ([] ∷ slice_split (λ b. eqb b 47) text) (onto_first b (slice_split (λ b. eqb b 47) text)) e)) (tt, rest)
      | inr e ↦ subst (λ ps. AllByRecursion NoSlash ps) (sym (cond-false (eqb b 47) ([] ∷ slice_split (λ b. eqb b 47) text) (onto_first b (slice_split (λ b. eqb b 47) text)) e)) (onto_no_slash b _ e rest)
    ]

kept_components : (parts : List (List ℕ)) → AllByRecursion NoSlash parts → AllByRecursion IsComponent (filter (λ part. not (eqb (length part) 0)) parts)
kept_components [] h = tt
kept_components ([] ∷ parts) h = kept_components parts h.1
kept_components ((b ∷ part) ∷ parts) h =
    let some : not (eqb (length (b ∷ part)) 0) ≡ true = ap not (ne_eqb (length (b ∷ part)) 0 (λ e. omega arith)) in
    let rest = filter (λ (p : List ℕ). not (eqb (length p) 0)) parts in
    subst (λ ps. AllByRecursion IsComponent ps) (sym (cond-true (not (eqb (length (b ∷ part)) 0)) ((b ∷ part) ∷ rest) rest some)) ((some, h.0), kept_components parts h.1)

pub are_components : (text : List ℕ) → AllByRecursion IsComponent (components text)
are_components text = kept_components (slice_split (λ b. eqb b 47) text) (parts_no_slash text)

pub joined_components : (path : List (List ℕ)) → AllByRecursion IsComponent path → components (join_with_byte 47 path) ≡ path
joined_components [] h = refl
joined_components (c ∷ []) h =
    ap (filter (λ part. not (eqb (length part) 0))) (slice_split_none (λ b. eqb b 47) c (All-from_recursion (λ b. eqb b 47 ≡ false) c h.0.1))
    ∙ cond-true (not (eqb (length c) 0)) (c ∷ []) [] h.0.0
joined_components (c ∷ d ∷ path) h =
    ap (filter (λ part. not (eqb (length part) 0))) (slice_split_at (λ b. eqb b 47) c 47 (join_with_byte 47 (d ∷ path)) (All-from_recursion (λ b. eqb b 47 ≡ false) c h.0.1) refl)
    ∙ cond-true (not (eqb (length c) 0)) (c ∷ components (join_with_byte 47 (d ∷ path))) (components (join_with_byte 47 (d ∷ path))) h.0.0
    ∙ ap (λ cs. c ∷ cs) (joined_components (d ∷ path) h.1)

-- each component behind a slash
pub slashes : (c : List ℕ) (path : List (List ℕ)) → flat_map (λ part. 47 ∷ part) (c ∷ path) ≡ path_text (c ∷ path)
slashes c [] = append-nil (47 ∷ c)
slashes c (d ∷ path) = ap (λ t. 47 ∷ (c ++ t)) (slashes d path)

-- a path as it is kept has just its components
pub kept_reads_back : (path : List (List ℕ)) → AllByRecursion IsComponent path → components (kept_text path) ≡ path
kept_reads_back [] h = refl
kept_reads_back (c ∷ path) h = ap components (slashes c path) ∙ joined_components (c ∷ path) h

pub components-kept_text : (text : List ℕ) → components (kept_text (components text)) ≡ components text
components-kept_text text = kept_reads_back (components text) (are_components text)

-- what is kept of a path tells how it is printed
pub kept_some : (path : List (List ℕ)) → 0 < length (kept_text path) → kept_text path ≡ path_text path
kept_some [] h = absurd (omega arith)
kept_some (c ∷ path) h = slashes c path

pub kept_none : (path : List (List ℕ)) → length (kept_text path) ≡ 0 → 47 ∷ [] ≡ path_text path
kept_none [] h = refl
kept_none (c ∷ path) h = absurd (omega arith)

module _ (parts : List (List ℕ)) (i : ℕ) (part : List ℕ) (at : (i < length parts) × (part ≡ get_or parts i part)) (out new : List ℕ)
    (so_far : out ≡ flat_map (λ part. 47 ∷ part) (filter (λ part. not (eqb (length part) 0)) (take i parts))) where
  more : flat_map (λ part. 47 ∷ part) (filter (λ part. not (eqb (length part) 0)) (take (i + 1) parts)) ≡ out ++ flat_map (λ part. 47 ∷ part) (cond (not (eqb (length part) 0)) (part ∷ []) [])
  more =
      ap (flat_map (λ part. 47 ∷ part)) (filter_more (λ part. not (eqb (length part) 0)) parts i part at.0)
      ∙ flat_map-append (λ part. 47 ∷ part) (filter (λ part. not (eqb (length part) 0)) (take i parts)) _
      ∙ ap (λ t. t ++ flat_map (λ part. 47 ∷ part) (cond (not (eqb (length (get_or parts i part)) 0)) (get_or parts i part ∷ []) [])) (sym so_far)
      ∙ ap (λ p. out ++ flat_map (λ part. 47 ∷ part) (cond (not (eqb (length p) 0)) (p ∷ []) [])) (sym at.1)

  pub print_empty : eqb (length part) 0 ≡ true → out ≡ flat_map (λ part. 47 ∷ part) (filter (λ part. not (eqb (length part) 0)) (take (i + 1) parts))
  print_empty e = sym (more ∙ ap (λ b. out ++ flat_map (λ part. 47 ∷ part) (cond (not b) (part ∷ []) [])) e ∙ append-nil out)

  pub print_part : eqb (length part) 0 ≡ false → new ≡ (out ++ 47 ∷ []) ++ part → new ≡ flat_map (λ part. 47 ∷ part) (filter (λ part. not (eqb (length part) 0)) (take (i + 1) parts))
  print_part e is =
      is ∙ append_assoc out (47 ∷ []) part ∙ ap (λ t. out ++ t) (sym (append-nil (47 ∷ part)))
      ∙ sym (more ∙ ap (λ b. out ++ flat_map (λ part. 47 ∷ part) (cond (not b) (part ∷ []) [])) e)
