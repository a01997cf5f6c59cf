-- A text is written by one list of atoms.
use Rattle.std.proofs.Common.{◌≡◌, ℕ, Bool, true, false, eqb, eq-eqb, List, [], ◌∷◌, ◌++◌, refl, sym, ap, subst, ◌∙◌, append_assoc}
use Rattle.std.specs.List.{flat_map}
use Rattle.std.proofs.lemmas.Bool.{cond_both, cond-true, cond-false}
use Rattle.std.proofs.lemmas.List.{append-nil}
use Rattle.std.proofs.lemmas.List.Concat.{flat_map-append}
use Rattle.desk_text.specs.Word.{Character, Bare, Escaped, Lone, Atom, Single, Quoted, Unclosed, atoms, characters, atoms_of, quoted, is_quote, is_bare, character_text, atom_text}
use Rattle.desk_text.specs.Laws.{AreInner, AreAtoms, AtomsAreUnique}
use Rattle.desk_text.proofs.Atoms.{characters-bare}
use Rattle.desk_text.proofs.AtomLaws.{atoms_write_text}
use Rattle.desk_text.proofs.Quoted.{quote_is_no_backslash}

-- characters as they may be written: a bare one is no backslash, and a lone backslash stands last
abbrev AreCharacters : List Character → Type 0
AreCharacters [] = Unit {0}
AreCharacters (Bare c ∷ cs) = (eqb c 92 ≡ false) × AreCharacters cs
AreCharacters (Escaped c ∷ cs) = AreCharacters cs
AreCharacters (Lone ∷ cs) = cs ≡ []

are_characters : (text : List ℕ) → AreCharacters (characters text)
are_characters [] = tt
are_characters (c ∷ []) = cond_both (eqb c 92) (Lone ∷ []) (Bare c ∷ []) (λ cs. AreCharacters cs) (λ _. refl) (λ e. (e, tt))
are_characters (c ∷ d ∷ text) =
    let short = are_characters text in
    let long = are_characters (d ∷ text) in
    cond_both (eqb c 92) (Escaped d ∷ characters text) (Bare c ∷ characters (d ∷ text)) (λ cs. AreCharacters cs) (λ _. short) (λ e. (e, long))

only_characters : (cs : List Character) → AreCharacters cs → characters (flat_map character_text cs) ≡ cs
only_characters [] h = refl
only_characters (Bare c ∷ cs) h = characters-bare c (flat_map character_text cs) h.0 ∙ ap (λ r. Bare c ∷ r) (only_characters cs h.1)
only_characters (Escaped c ∷ cs) h = ap (λ r. Escaped c ∷ r) (only_characters cs h)
only_characters (Lone ∷ cs) h = ap (λ r. characters (92 ∷ flat_map character_text r)) h ∙ ap (λ r. Lone ∷ r) (sym h)

-- the characters of atoms
abbrev characters_in : Atom → List Character
characters_in (Single c) = c ∷ []
characters_in (Quoted q inner) = Bare q ∷ (inner ++ Bare q ∷ [])
characters_in (Unclosed q inner) = Bare q ∷ inner

atom_writes : (a : Atom) → atom_text a ≡ flat_map character_text (characters_in a)
atom_writes (Single c) = sym (append-nil (character_text c))
atom_writes (Quoted q inner) = ap (λ t. q ∷ t) (sym (flat_map-append character_text inner (Bare q ∷ [])))
atom_writes (Unclosed q inner) = refl

atoms_write : (read : List Atom) → flat_map atom_text read ≡ flat_map character_text (flat_map characters_in read)
atoms_write [] = refl
atoms_write (a ∷ read) =
    ap (λ t. t ++ flat_map atom_text read) (atom_writes a) ∙ ap (λ t. flat_map character_text (characters_in a) ++ t) (atoms_write read)
    ∙ sym (flat_map-append character_text (characters_in a) (flat_map characters_in read))

-- the characters of a run that closes, and of what is behind it
closed_characters : (q : ℕ) (inner rest : List Character) → AreInner q true inner → AreCharacters rest → AreCharacters (inner ++ rest)
closed_characters q [] rest h k = k
closed_characters q (Bare c ∷ inner) rest h k = (h.1, closed_characters q inner rest h.2 k)
closed_characters q (Escaped c ∷ inner) rest h k = closed_characters q inner rest h k
closed_characters q (Lone ∷ inner) rest h k = absurd (let e : true ≡ false = h.0 in cc)

open_characters : (q : ℕ) (inner : List Character) → AreInner q false inner → AreCharacters (inner ++ [])
open_characters q [] h = tt
open_characters q (Bare c ∷ inner) h = (h.1, open_characters q inner h.2)
open_characters q (Escaped c ∷ inner) h = open_characters q inner h
open_characters q (Lone ∷ inner) h = ap (λ cs. cs ++ []) h.1

proper_characters : (read : List Atom) → AreAtoms read → AreCharacters (flat_map characters_in read)
proper_characters [] h = tt
proper_characters (Single (Bare c) ∷ read) h = (h.0, proper_characters read h.2)
proper_characters (Single (Escaped c) ∷ read) h = proper_characters read h
proper_characters (Single Lone ∷ read) h = ap (flat_map characters_in) h
proper_characters (Quoted q inner ∷ read) h =
    let rest : AreCharacters (Bare q ∷ flat_map characters_in read) = (quote_is_no_backslash q h.0, proper_characters read h.2) in (
      quote_is_no_backslash q h.0,
      subst (λ cs. AreCharacters cs) (sym (append_assoc inner (Bare q ∷ []) (flat_map characters_in read))) (closed_characters q inner (Bare q ∷ flat_map characters_in read) h.1 rest),
    )
proper_characters (Unclosed q inner ∷ read) h =
    (quote_is_no_backslash q h.0, subst (λ cs. AreCharacters (inner ++ cs)) (sym (ap (flat_map characters_in) h.2)) (open_characters q inner h.1))

not_bare : (q : ℕ) (closes : Bool) (c : Character) (inner : List Character) → AreInner q closes (c ∷ inner) → is_bare q c ≡ false
not_bare q closes (Bare c) inner h = h.0
not_bare q closes (Escaped c) inner h = refl
not_bare q closes Lone inner h = refl

inner_of : (q : ℕ) (closes : Bool) (c : Character) (inner : List Character) → AreInner q closes (c ∷ inner) → AreInner q closes inner
inner_of q closes (Bare c) inner h = h.2
inner_of q closes (Escaped c) inner h = h
inner_of q closes Lone inner h = subst (λ cs. AreInner q closes cs) (sym h.1) tt

closed_run : (q : ℕ) (before inner rest : List Character) → AreInner q true inner → quoted q before (inner ++ Bare q ∷ rest) ≡ Quoted q (before ++ inner) ∷ atoms_of rest
closed_run q before [] rest h = cond-true _ _ _ (eq-eqb q q refl) ∙ ap (λ cs. Quoted q cs ∷ atoms_of rest) (sym (append-nil before))
closed_run q before (c ∷ inner) rest h =
    cond-false _ _ _ (not_bare q true c inner h) ∙ closed_run q (before ++ c ∷ []) inner rest (inner_of q true c inner h)
    ∙ ap (λ cs. Quoted q cs ∷ atoms_of rest) (append_assoc before (c ∷ []) inner)

open_run : (q : ℕ) (before inner : List Character) → AreInner q false inner → quoted q before inner ≡ Unclosed q (before ++ inner) ∷ []
open_run q before [] h = ap (λ cs. Unclosed q cs ∷ []) (sym (append-nil before))
open_run q before (c ∷ inner) h =
    cond-false _ _ _ (not_bare q false c inner h) ∙ open_run q (before ++ c ∷ []) inner (inner_of q false c inner h) ∙ ap (λ cs. Unclosed q cs ∷ []) (append_assoc before (c ∷ []) inner)

only_atoms : (read : List Atom) → AreAtoms read → atoms_of (flat_map characters_in read) ≡ read
only_atoms [] h = refl
only_atoms (Single (Bare c) ∷ read) h = cond-false _ _ _ h.1 ∙ ap (λ r. Single (Bare c) ∷ r) (only_atoms read h.2)
only_atoms (Single (Escaped c) ∷ read) h = ap (λ r. Single (Escaped c) ∷ r) (only_atoms read h)
only_atoms (Single Lone ∷ read) h = ap (λ r. Single Lone ∷ r) (ap (λ r. atoms_of (flat_map characters_in r)) h ∙ sym h)
only_atoms (Quoted q inner ∷ read) h =
    cond-true _ _ _ h.0 ∙ ap (quoted q []) (append_assoc inner (Bare q ∷ []) (flat_map characters_in read))
    ∙ closed_run q [] inner (flat_map characters_in read) h.1 ∙ ap (λ r. Quoted q inner ∷ r) (only_atoms read h.2)
only_atoms (Unclosed q inner ∷ read) h =
    cond-true _ _ _ h.0 ∙ ap (quoted q []) (ap (λ r. inner ++ flat_map characters_in r) h.2 ∙ append-nil inner) ∙ open_run q [] inner h.1 ∙ ap (λ r. Unclosed q inner ∷ r) (sym h.2)

-- the characters of a run so far, one more, and at its end
inner-push : (q : ℕ) (inner : List Character) (c : ℕ) → AreInner q true inner → eqb c q ≡ false → eqb c 92 ≡ false → AreInner q true (inner ++ Bare c ∷ [])
inner-push q [] c h e b = (e, b, tt)
inner-push q (Bare d ∷ inner) c h e b = (h.0, h.1, inner-push q inner c h.2 e b)
inner-push q (Escaped d ∷ inner) c h e b = inner-push q inner c h e b
inner-push q (Lone ∷ inner) c h e b = absurd (let wrong : true ≡ false = h.0 in cc)

inner-escape : (q : ℕ) (inner : List Character) (c : ℕ) → AreInner q true inner → AreInner q true (inner ++ Escaped c ∷ [])
inner-escape q [] c h = tt
inner-escape q (Bare d ∷ inner) c h = (h.0, h.1, inner-escape q inner c h.2)
inner-escape q (Escaped d ∷ inner) c h = inner-escape q inner c h
inner-escape q (Lone ∷ inner) c h = absurd (let wrong : true ≡ false = h.0 in cc)

inner-open : (q : ℕ) (inner : List Character) → AreInner q true inner → AreInner q false inner
inner-open q [] h = tt
inner-open q (Bare d ∷ inner) h = (h.0, h.1, inner-open q inner h.2)
inner-open q (Escaped d ∷ inner) h = inner-open q inner h
inner-open q (Lone ∷ inner) h = absurd (let wrong : true ≡ false = h.0 in cc)

inner-lone : (q : ℕ) (inner : List Character) → AreInner q true inner → AreInner q false (inner ++ Lone ∷ [])
inner-lone q [] h = (refl, refl)
inner-lone q (Bare d ∷ inner) h = (h.0, h.1, inner-lone q inner h.2)
inner-lone q (Escaped d ∷ inner) h = inner-lone q inner h
inner-lone q (Lone ∷ inner) h = absurd (let wrong : true ≡ false = h.0 in cc)

-- outside a run, and within one
abbrev AreReads : List Character → Type 0
AreReads cs = AreAtoms (atoms_of cs) × ((q : ℕ) (inner : List Character) → is_quote q ≡ true → AreInner q true inner → AreAtoms (quoted q inner cs))

are_reads : (cs : List Character) → AreCharacters cs → AreReads cs
are_reads [] h = (tt, λ q inner e k. (e, inner-open q inner k, refl))
are_reads (Bare c ∷ cs) h =
    let rest = are_reads cs h.1 in (
      cond_both (is_quote c) (quoted c [] cs) (Single (Bare c) ∷ atoms_of cs) (λ r. AreAtoms r) (λ e. rest.1 c [] e tt) (λ e. (h.0, e, rest.0)),
      λ q inner e k.
          cond_both (eqb c q) (Quoted q inner ∷ atoms_of cs) (quoted q (inner ++ Bare c ∷ []) cs) (λ r. AreAtoms r)
          (λ _. (e, k, rest.0)) (λ other. rest.1 q (inner ++ Bare c ∷ []) e (inner-push q inner c k other h.0)),
    )
are_reads (Escaped c ∷ cs) h = let rest = are_reads cs h in (rest.0, λ q inner e k. rest.1 q (inner ++ Escaped c ∷ []) e (inner-escape q inner c k))
are_reads (Lone ∷ cs) h = (
  ap atoms_of h,
  λ q inner e k. subst (λ r. AreAtoms (quoted q (inner ++ Lone ∷ []) r)) (sym h) (e, inner-lone q inner k, refl),
)

pub atoms_are_unique : AtomsAreUnique
atoms_are_unique text read = (
  λ h. sym (ap atoms (sym h.1 ∙ atoms_write read) ∙ ap atoms_of (only_characters (flat_map characters_in read) (proper_characters read h.0)) ∙ only_atoms read h.0),
  λ e. (subst (λ r. AreAtoms r) (sym e) (are_reads (characters text) (are_characters text)).0, ap (flat_map atom_text) e ∙ atoms_write_text text),
)
