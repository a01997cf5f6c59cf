-- The atoms of a text write it back.
use Rattle.std.proofs.Common.{◌≡◌, ℕ, true, eqb, List, [], ◌∷◌, ◌++◌, refl, sym, ap, ◌∙◌, append_assoc}
use Rattle.std.specs.List.{flat_map}
use Rattle.std.proofs.lemmas.Bool.{cond_both, eqb-true}
use Rattle.std.proofs.lemmas.List.{append-nil}
use Rattle.std.proofs.lemmas.List.Concat.{flat_map-append}
use Rattle.desk_text.specs.Word.{Character, Bare, Escaped, Lone, Single, Quoted, characters, atoms, atoms_of, quoted, is_quote, is_bare, character_text, atom_text}

characters_write : (text : List ℕ) → flat_map character_text (characters text) ≡ text
characters_write [] = refl
characters_write (c ∷ []) =
    cond_both (eqb c 92) (Lone ∷ []) (Bare c ∷ []) (λ cs. flat_map character_text cs ≡ c ∷ []) (λ e. ap (λ b. b ∷ []) (sym (eqb-true c 92 e))) (λ _. refl)
characters_write (c ∷ d ∷ text) =
    let short = characters_write text in
    let long = characters_write (d ∷ text) in
    cond_both (eqb c 92) (Escaped d ∷ characters text) (Bare c ∷ characters (d ∷ text)) (λ cs. flat_map character_text cs ≡ c ∷ d ∷ text)
    (λ e. ap (λ t. 92 ∷ d ∷ t) short ∙ ap (λ b. b ∷ d ∷ text) (sym (eqb-true c 92 e))) (λ _. ap (λ t. c ∷ t) long)

bare_text : (q : ℕ) (c : Character) → is_bare q c ≡ true → character_text c ≡ q ∷ []
bare_text q (Bare c) e = ap (λ b. b ∷ []) (eqb-true c q e)
bare_text q (Escaped c) e = absurd (cc)
bare_text q Lone e = absurd (cc)

-- outside a quoted run, and within one
abbrev WriteBack : List Character → Type 0
WriteBack cs =
    (flat_map atom_text (atoms_of cs) ≡ flat_map character_text cs)
    × ((q : ℕ) (inner : List Character) → flat_map atom_text (quoted q inner cs) ≡ q ∷ (flat_map character_text inner ++ flat_map character_text cs))

within_more : (inner : List Character) (c : Character) (cs : List Character)
    → flat_map character_text (inner ++ c ∷ []) ++ flat_map character_text cs ≡ flat_map character_text inner ++ (character_text c ++ flat_map character_text cs)
within_more inner c cs =
    ap (λ t. t ++ flat_map character_text cs) (flat_map-append character_text inner (c ∷ []) ∙ ap (λ t. flat_map character_text inner ++ t) (append-nil (character_text c)))
    ∙ append_assoc (flat_map character_text inner) (character_text c) (flat_map character_text cs)

within : (c : Character) (cs : List Character) → WriteBack cs → (q : ℕ) (inner : List Character)
    → flat_map atom_text (quoted q inner (c ∷ cs)) ≡ q ∷ (flat_map character_text inner ++ (character_text c ++ flat_map character_text cs))
within c cs h q inner =
    cond_both (is_bare q c) (Quoted q inner ∷ atoms_of cs) (quoted q (inner ++ c ∷ []) cs)
    (λ atms. flat_map atom_text atms ≡ q ∷ (flat_map character_text inner ++ (character_text c ++ flat_map character_text cs)))
    (λ e. ap (λ t. q ∷ t) (append_assoc (flat_map character_text inner) (q ∷ []) (flat_map atom_text (atoms_of cs))
    ∙ ap (λ t. flat_map character_text inner ++ (q ∷ t)) h.0 ∙ ap (λ t. flat_map character_text inner ++ (t ++ flat_map character_text cs)) (sym (bare_text q c e))))
    (λ _. h.1 q (inner ++ c ∷ []) ∙ ap (λ t. q ∷ t) (within_more inner c cs))

atoms_write : (cs : List Character) → WriteBack cs
atoms_write [] = (refl, λ q inner. refl)
atoms_write (Bare c ∷ cs) =
    let h = atoms_write cs in (
      cond_both (is_quote c) (quoted c [] cs) (Single (Bare c) ∷ atoms_of cs) (λ atms. flat_map atom_text atms ≡ c ∷ flat_map character_text cs)
          (λ _. h.1 c []) (λ _. ap (λ t. c ∷ t) h.0),
      within (Bare c) cs h,
    )
atoms_write (Escaped c ∷ cs) = let h = atoms_write cs in (ap (λ t. 92 ∷ c ∷ t) h.0, within (Escaped c) cs h)
atoms_write (Lone ∷ cs) = let h = atoms_write cs in (ap (λ t. 92 ∷ t) h.0, within Lone cs h)

pub atoms_write_text : (text : List ℕ) → flat_map atom_text (atoms text) ≡ text
atoms_write_text text = (atoms_write (characters text)).0 ∙ characters_write text
