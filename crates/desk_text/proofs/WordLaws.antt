-- Laws of words: they are slices of the text, and the maximal runs of atoms without a blank.
use Rattle.std.proofs.Common.{◌≡◌, ◌⊎◌, inl, inr, ℕ, ◌+◌, ◌<◌, ◌≤◌, Bool, true, false, List, [], ◌∷◌, ◌++◌, length, take, drop, map, refl, sym, ap, subst, ◌∙◌, append_assoc, length-append, arith}
use Rattle.std.specs.List.{AllByRecursion, flat_map, slice_split}
use Rattle.std.proofs.lemmas.Bool.{cases_Bool}
use Rattle.std.proofs.lemmas.List.{append-nil, take-append-drop, length-take-le, map-append}
use Rattle.std.proofs.Math.Seq.{drop-append_seam, take-append_seam}
use Rattle.std.proofs.lemmas.List.Concat.{flat_map-append}
use Rattle.std.proofs.lemmas.List.Elements.{All-from_recursion}
use Rattle.std.proofs.lemmas.List.Splits.{slice_split_at, slice_split_none, slice_split-cons_yes}
use Rattle.desk_text.specs.Lines.{PhysicalLine, LogicalLine, logical_lines}
use Rattle.desk_text.specs.Word.{Bare, Escaped, Lone, Atom, Single, Quoted, Unclosed, atoms, atom_text, is_separator, raw_word, words_from, words_at, line_words}
use Rattle.desk_text.specs.Laws.{Slice, AreSlices, text_slice, raw_slice, parts_of, WordsAreSlices, Run, AreAtoms, AreMaximal, atoms_in, written, words_in, WordsAreMaximalRuns}
use Rattle.desk_text.proofs.AtomLaws.{atoms_write_text}
use Rattle.desk_text.proofs.AtomsAreUnique.{atoms_are_unique}
use Rattle.desk_text.proofs.LineLaws.{AreSlices-weaken, parts_are_slices}

abbrev AreJoined : List Atom → Type 0
AreJoined run = AllByRecursion (λ (a : Atom). is_separator a ≡ false) run

abbrev AreBlank : List Atom → Type 0
AreBlank blanks = AllByRecursion (λ (a : Atom). is_separator a ≡ true) blanks

joined-push : (run : List Atom) (a : Atom) → AreJoined run → is_separator a ≡ false → AreJoined (run ++ a ∷ [])
joined-push [] a h e = (e, tt)
joined-push (r ∷ run) a h e = (h.0, joined-push run a h.1 e)

blank-push : (run : List Atom) (a : Atom) → AreBlank run → is_separator a ≡ true → AreBlank (run ++ a ∷ [])
blank-push [] a h e = (e, tt)
blank-push (r ∷ run) a h e = (h.0, blank-push run a h.1 e)

-- a blank is written as one byte
blank_size : (a : Atom) → is_separator a ≡ true → length (atom_text a) ≡ 1
blank_size (Single (Bare c)) e = refl
blank_size (Single (Escaped c)) e = absurd (cc)
blank_size (Single Lone) e = absurd (cc)
blank_size (Quoted q inner) e = absurd (cc)
blank_size (Unclosed q inner) e = absurd (cc)

blank_written : (a : Atom) → is_separator a ≡ true → length (written (a ∷ [])) ≡ 1
blank_written a e = ap length (append-nil (atom_text a)) ∙ blank_size a e

split_run : (run : List Atom) → AreJoined run → slice_split is_separator (run ++ []) ≡ run ∷ []
split_run run h = ap (slice_split is_separator) (append-nil run) ∙ slice_split_none is_separator run (All-from_recursion (λ a. is_separator a ≡ false) run h)

split_at : (run : List Atom) (a : Atom) (more : List Atom) → AreJoined run → is_separator a ≡ true → slice_split is_separator (run ++ a ∷ more) ≡ run ∷ slice_split is_separator more
split_at run a more h e = slice_split_at is_separator run a more (All-from_recursion (λ a. is_separator a ≡ false) run h) e

module _ (text : List ℕ) where
  slices_end : (low high : ℕ) (ss : List Slice) → AreSlices text low high ss → low ≤ high
  slices_end low high [] h = h
  slices_end low high (s ∷ ss) h = let end = slices_end (s.start + length s.bytes) high ss h.2 in omega (arith, h.0)

  slices-append : (low middle high : ℕ) (xs ys : List Slice) → AreSlices text low middle xs → AreSlices text middle high ys → AreSlices text low high (xs ++ ys)
  slices-append low middle high [] ys h k = AreSlices-weaken text low middle high ys h k
  slices-append low middle high (x ∷ xs) ys h k = (h.0, h.1, slices-append (x.start + length x.bytes) middle high xs ys h.2 k)

  -- the first run, and the words behind it
  first_slice : (run : List Atom) (rest : List (List Atom)) (front after : List ℕ) (high : ℕ) → text ≡ front ++ (written run ++ after)
      → AreSlices text (length front + length (written run) + 1) high (map raw_slice (words_from (length front + length (written run) + 1) rest))
      → AreSlices text (length front) high (map raw_slice (words_from (length front) (run ∷ rest)))
  first_slice [] rest front after high e h =
      let none : length front + 0 + 1 ≡ length front + 1 = omega arith in
      AreSlices-weaken text (length front) (length front + 1) high _ (omega arith) (subst (λ k. AreSlices text k high (map raw_slice (words_from k rest))) none h)
  first_slice (a ∷ more) rest front after high e h =
      let run : List Atom = a ∷ more in (
        omega arith,
        ap (λ t. take (length (written run)) (drop (length front) t)) e ∙ ap (take (length (written run))) (drop-append_seam front (written run ++ after))
            ∙ take-append_seam (written run) after,
        AreSlices-weaken text (length front + length (written run)) (length front + length (written run) + 1) high _ (omega arith) h,
      )

  -- the run at the end
  last_slice : (run : List Atom) (front after : List ℕ) → text ≡ front ++ (written run ++ after)
      → AreSlices text (length front) (length front + length (written run)) (map raw_slice (words_from (length front) (run ∷ [])))
  last_slice [] front after e = omega arith
  last_slice (a ∷ more) front after e =
      let run : List Atom = a ∷ more in (
        omega arith,
        ap (λ t. take (length (written run)) (drop (length front) t)) e ∙ ap (take (length (written run))) (drop-append_seam front (written run ++ after))
            ∙ take-append_seam (written run) after,
        omega arith,
      )

  abbrev WordsIn : List ℕ → List Atom → Type 0
  WordsIn front atms =
      AreSlices text (length front) (length front + length (written atms)) (map raw_slice (words_from (length front) (slice_split is_separator atms)))

  -- the words of a run, which may go on, and of what is behind it
  runs_slices : (atms run : List Atom) (front after : List ℕ) → AreJoined run → text ≡ front ++ (written (run ++ atms) ++ after) → WordsIn front (run ++ atms)
  runs_slices [] run front after h e =
      subst (λ all. AreSlices text (length front) (length front + length (written all)) (map raw_slice (words_from (length front) (slice_split is_separator all)))) (sym (append-nil run))
      (subst (λ rs. AreSlices text (length front) (length front + length (written run)) (map raw_slice (words_from (length front) rs)))
      (sym (slice_split_none is_separator run (All-from_recursion (λ a. is_separator a ≡ false) run h)))
      (last_slice run front after (e ∙ ap (λ all. front ++ (written all ++ after)) (append-nil run))))
  runs_slices (a ∷ atms) run front after h e =
      let cases : (is_separator a ≡ true) ⊎ (is_separator a ≡ false) = cases_Bool (is_separator a) in
      elim cases [
        | inl blank ↦
            let whole : written (run ++ a ∷ atms) ≡ written run ++ (atom_text a ++ written atms) = flat_map-append atom_text run (a ∷ atms) in
            let behind : text ≡ front ++ (written run ++ ((atom_text a ++ written atms) ++ after)) =
            e ∙ ap (λ t. front ++ (t ++ after)) whole ∙ ap (λ t. front ++ t) (append_assoc (written run) (atom_text a ++ written atms) after) in
            let front' : List ℕ = front ++ (written run ++ atom_text a) in
            let size : length front' ≡ length front + length (written run) + 1 =
            omega (arith, length-append front (written run ++ atom_text a), length-append (written run) (atom_text a), blank_size a blank) in
            let behind' : text ≡ front' ++ (written atms ++ after) =
            behind ∙ ap (λ t. front ++ (written run ++ t)) (append_assoc (atom_text a) (written atms) after)
            ∙ ap (λ t. front ++ t) (sym (append_assoc (written run) (atom_text a) (written atms ++ after)))
            ∙ sym (append_assoc front (written run ++ atom_text a) (written atms ++ after)) in
            let rest : AreSlices text (length front') (length front' + length (written atms)) (map raw_slice (words_from (length front') (slice_split is_separator atms))) =
            runs_slices atms [] front' after tt behind' in
            let end : length front' + length (written atms) ≡ length front + length (written (run ++ a ∷ atms)) =
            omega (arith, size, ap length whole, length-append (written run) (atom_text a ++ written atms), length-append (atom_text a) (written atms), blank_size a blank) in
            subst (λ rs. AreSlices text (length front) (length front + length (written (run ++ a ∷ atms))) (map raw_slice (words_from (length front) rs))) (sym (split_at run a atms h blank))
            (first_slice run (slice_split is_separator atms) front ((atom_text a ++ written atms) ++ after) (length front + length (written (run ++ a ∷ atms))) behind
            (subst (λ high. AreSlices text (length front + length (written run) + 1) high (map raw_slice (words_from (length front + length (written run) + 1) (slice_split is_separator atms)))) end
            (subst (λ low. AreSlices text low (length front' + length (written atms)) (map raw_slice (words_from low (slice_split is_separator atms)))) size rest)))
        | inr joined ↦
            let same : (run ++ a ∷ []) ++ atms ≡ run ++ a ∷ atms = append_assoc run (a ∷ []) atms in
            subst (λ all. WordsIn front all) same (runs_slices atms (run ++ a ∷ []) front after (joined-push run a h joined) (e ∙ ap (λ all. front ++ (written all ++ after)) (sym same)))
      ]

  -- the words of a slice of the text
  slice_words : (start : ℕ) (part : List ℕ) → take (length part) (drop start text) ≡ part → start + length part ≤ length text
      → AreSlices text start (start + length part) (map raw_slice (words_at start part))
  slice_words start part e within =
      let front : List ℕ = take start text in
      let after : List ℕ = drop (length part) (drop start text) in
      let size : length front ≡ start = length-take-le start text (omega arith) in
      let back : written (atoms part) ≡ part = atoms_write_text part in
      let whole : text ≡ front ++ (written (atoms part) ++ after) =
      sym (take-append-drop start text) ∙ ap (λ t. front ++ t) (sym (take-append-drop (length part) (drop start text)) ∙ ap (λ t. t ++ after) (e ∙ sym back)) in
      let slices : WordsIn front (atoms part) = runs_slices (atoms part) [] front after tt whole in
      subst (λ k. AreSlices text k (k + length part) (map raw_slice (words_from k (slice_split is_separator (atoms part))))) size
      (subst (λ t. AreSlices text (length front) (length front + length t) (map raw_slice (words_from (length front) (slice_split is_separator (atoms part))))) back slices)

  -- the words of slices of the text
  parts_words : (parts : List PhysicalLine) (low : ℕ) → AreSlices text low (length text) (map text_slice parts)
      → AreSlices text low (length text) (map raw_slice (flat_map (λ (p : PhysicalLine). words_at p.start p.text) parts))
  parts_words [] low h = h
  parts_words (p ∷ parts) low h =
      let within = slices_end (p.start + length p.text) (length text) (map text_slice parts) h.2 in
      subst (λ ss. AreSlices text low (length text) ss) (sym (map-append raw_slice (words_at p.start p.text) (flat_map (λ (q : PhysicalLine). words_at q.start q.text) parts)))
      (slices-append low (p.start + length p.text) (length text) (map raw_slice (words_at p.start p.text)) _
      (AreSlices-weaken text low p.start (p.start + length p.text) _ h.0 (slice_words p.start p.text h.1 within)) (parts_words parts (p.start + length p.text) h.2))

words_of_parts : (lines : List LogicalLine) → flat_map line_words lines ≡ flat_map (λ (p : PhysicalLine). words_at p.start p.text) (parts_of lines)
words_of_parts [] = refl
words_of_parts (line ∷ lines) =
    ap (λ ws. line_words line ++ ws) (words_of_parts lines) ∙ sym (flat_map-append (λ (p : PhysicalLine). words_at p.start p.text) line.parts (parts_of lines))

pub words_are_slices : WordsAreSlices
words_are_slices text =
    subst (λ ws. AreSlices text 0 (length text) (map raw_slice ws)) (sym (words_of_parts (logical_lines text)))
    (parts_words text (parts_of (logical_lines text)) 0 (parts_are_slices text).1)

-- how blanks, and the atoms behind them, fall into maximal runs
record Division (behind : Bool) (start : ℕ) (blanks atms : List Atom) : Type 0 where
  runs : List Run
  maximal : AreMaximal behind runs
  rest : List Atom
  blank : AreBlank rest
  whole : blanks ++ atms ≡ atoms_in runs rest
  words : words_from (start + length (written blanks)) (slice_split is_separator atms) ≡ words_in start runs

one_run : (behind : Bool) (start : ℕ) (blanks : List Atom) (a : Atom) (more : List Atom) → AreBlank blanks → AreJoined (a ∷ more) → (behind ≡ true → 0 < length blanks)
    → Division behind start blanks ((a ∷ more) ++ [])
one_run behind start blanks a more h k apart = record {
  runs = record { blanks = blanks; atoms = a ∷ more } ∷ [];
  maximal = (apart, h, omega arith, k, tt);
  rest = [];
  blank = tt;
  whole = ap (λ t. blanks ++ t) (append-nil (a ∷ more)) ∙ sym (append-nil (blanks ++ a ∷ more)) ∙ sym (append-nil ((blanks ++ a ∷ more) ++ []));
  words = ap (words_from (start + length (written blanks))) (split_run (a ∷ more) k);
}

blank_before : (behind : Bool) (start : ℕ) (blanks : List Atom) (a : Atom) (atms : List Atom) → is_separator a ≡ true → Division behind start (blanks ++ a ∷ []) atms → Division behind start blanks (a ∷ atms)
blank_before behind start blanks a atms e d =
    let size : length (written (blanks ++ a ∷ [])) ≡ length (written blanks) + 1 =
    omega (arith, ap length (flat_map-append atom_text blanks (a ∷ [])), length-append (written blanks) (written (a ∷ [])), blank_written a e) in
    let place : start + length (written blanks) + 1 ≡ start + length (written (blanks ++ a ∷ [])) = omega (arith, size) in
    record {
      runs = d.runs;
      maximal = d.maximal;
      rest = d.rest;
      blank = d.blank;
      whole = sym (append_assoc blanks (a ∷ []) atms) ∙ d.whole;
      words = ap (words_from (start + length (written blanks))) (slice_split-cons_yes is_separator a atms e) ∙ ap (λ k. words_from k (slice_split is_separator atms)) place ∙ d.words;
    }

run_before : (behind : Bool) (start : ℕ) (blanks : List Atom) (b : Atom) (more : List Atom) (a : Atom) (atms : List Atom)
    → AreBlank blanks → AreJoined (b ∷ more) → (behind ≡ true → 0 < length blanks) → is_separator a ≡ true
    → Division true (start + length (written blanks) + length (written (b ∷ more))) (a ∷ []) atms → Division behind start blanks ((b ∷ more) ++ a ∷ atms)
run_before behind start blanks b more a atms h k apart e d =
    let run : List Atom = b ∷ more in
    let at : ℕ = start + length (written blanks) in
    let place : at + length (written run) + 1 ≡ at + length (written run) + length (written (a ∷ [])) = omega (arith, blank_written a e) in
    record {
      runs = record { blanks = blanks; atoms = run } ∷ d.runs;
      maximal = (apart, h, omega arith, k, d.maximal);
      rest = d.rest;
      blank = d.blank;
      whole =
          ap (λ t. blanks ++ (run ++ t)) d.whole ∙ sym (append_assoc blanks run (atoms_in d.runs d.rest))
          ∙ sym (append_assoc (blanks ++ run) (flat_map (λ (r : Run). r.blanks ++ r.atoms) d.runs) d.rest);
      words =
          ap (words_from at) (split_at run a atms k e)
          ∙ ap (λ ws. raw_word at (written run) ∷ ws) (ap (λ n. words_from n (slice_split is_separator atms)) place ∙ d.words);
    }

divide : (atms run blanks : List Atom) (behind : Bool) (start : ℕ) → AreBlank blanks → AreJoined run → (behind ≡ true → 0 < length blanks) → Division behind start blanks (run ++ atms)
divide [] [] blanks behind start h k apart = record { runs = []; maximal = tt; rest = blanks; blank = h; whole = append-nil blanks; words = refl }
divide [] (b ∷ run) blanks behind start h k apart = one_run behind start blanks b run h k apart
divide (a ∷ atms) [] blanks behind start h k apart =
    let cases : (is_separator a ≡ true) ⊎ (is_separator a ≡ false) = cases_Bool (is_separator a) in
    elim cases [
      | inl blank ↦
          blank_before behind start blanks a atms blank
          (divide atms [] (blanks ++ a ∷ []) behind start (blank-push blanks a h blank) tt (λ _. omega (arith, length-append blanks (a ∷ []))))
      | inr joined ↦ divide atms (a ∷ []) blanks behind start h (joined, tt) apart
    ]
divide (a ∷ atms) (b ∷ run) blanks behind start h k apart =
    let cases : (is_separator a ≡ true) ⊎ (is_separator a ≡ false) = cases_Bool (is_separator a) in
    elim cases [
      | inl blank ↦
          run_before behind start blanks b run a atms h k apart blank
          (divide atms [] (a ∷ []) true (start + length (written blanks) + length (written (b ∷ run))) (blank, tt) tt (λ _. omega arith))
      | inr joined ↦
          subst (λ all. Division behind start blanks all) (append_assoc (b ∷ run) (a ∷ []) atms)
          (divide atms ((b ∷ run) ++ a ∷ []) blanks behind start h (joined-push (b ∷ run) a k joined) apart)
    ]

-- atoms among others that may be written may be written
atoms-tail : (a : Atom) (more : List Atom) → AreAtoms (a ∷ more) → AreAtoms more
atoms-tail (Single (Bare c)) more h = h.2
atoms-tail (Single (Escaped c)) more h = h
atoms-tail (Single Lone) more h = subst AreAtoms (sym h) tt
atoms-tail (Quoted q inner) more h = h.2
atoms-tail (Unclosed q inner) more h = subst AreAtoms (sym h.2) tt

atoms-behind : (front more : List Atom) → AreAtoms (front ++ more) → AreAtoms more
atoms-behind [] more h = h
atoms-behind (a ∷ front) more h = atoms-behind front more (atoms-tail a (front ++ more) h)

nothing-front : (front more : List Atom) → front ++ more ≡ [] → front ≡ []
nothing-front [] more e = refl
nothing-front (a ∷ front) more e = absurd (cc)

atoms-front : (front more : List Atom) → AreAtoms (front ++ more) → AreAtoms front
atoms-front [] more h = tt
atoms-front (Single (Bare c) ∷ front) more h = (h.0, h.1, atoms-front front more h.2)
atoms-front (Single (Escaped c) ∷ front) more h = atoms-front front more h
atoms-front (Single Lone ∷ front) more h = nothing-front front more h
atoms-front (Quoted q inner ∷ front) more h = (h.0, h.1, atoms-front front more h.2)
atoms-front (Unclosed q inner ∷ front) more h = (h.0, h.1, nothing-front front more h.2)

-- each run is what its text reads as
runs_read_back : (runs : List Run) (blanks : List Atom) → AreAtoms (atoms_in runs blanks) → AllByRecursion (λ run. atoms (written run.atoms) ≡ run.atoms) runs
runs_read_back [] blanks h = tt
runs_read_back (run ∷ runs) blanks h =
    let own : List Atom = run.blanks ++ run.atoms in
    let rest : List Atom = flat_map (λ (r : Run). r.blanks ++ r.atoms) runs in
    let all : AreAtoms (own ++ (rest ++ blanks)) = subst AreAtoms (append_assoc own rest blanks) h in
    let of_run : AreAtoms run.atoms = atoms-behind run.blanks run.atoms (atoms-front own (rest ++ blanks) all) in
    (sym ((atoms_are_unique (written run.atoms) run.atoms).0 (of_run, refl)), runs_read_back runs blanks (atoms-behind own (rest ++ blanks) all))

pub words_are_maximal_runs : WordsAreMaximalRuns
words_are_maximal_runs start text =
    let d : Division false start [] (atoms text) = divide (atoms text) [] [] false start tt tt (λ e. absurd (cc)) in
    let none : start ≡ start + 0 = omega arith in
    let proper : AreAtoms (atoms text) = ((atoms_are_unique text (atoms text)).1 refl).0 in (
      d.runs,
      record { maximal = d.maximal; blanks = d.rest; blank = d.blank; whole = d.whole },
      ap (λ k. words_from k (slice_split is_separator (atoms text))) none ∙ d.words,
      runs_read_back d.runs d.rest (subst AreAtoms d.whole proper),
    )
