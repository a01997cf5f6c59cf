-- The first atom of a text, and the atoms of one word.
use Rattle.std.proofs.Common.{◌≡◌, ℕ, ◌+◌, ◌<◌, false, ◌||◌, eqb, min, List, [], ◌∷◌, ◌++◌, length, get_or, take, drop, refl, sym, ap, subst, ◌∙◌, append_assoc, arith}
use Rattle.std.specs.List.{list_any, AllByRecursion}
use Rattle.std.proofs.lemmas.List.{append-nil, drop-drop, get_or-drop, take-take, drop-take, take-append-drop, length-drop}
use Rattle.std.proofs.lemmas.List.Concat.{flat_map-append}
use Rattle.desk_text.specs.Bytes.{is_blank}
use Rattle.desk_text.specs.Word.{Bare, Escaped, Lone, Atom, Single, atoms, is_quote, atom_text, is_unclosed, has_open_quote}
use Rattle.desk_text.specs.PrivateWord.{IsAtomLen, IsOfWord, IsRun}
use Rattle.desk_text.proofs.Atoms.{atoms-plain}

IsAtomLen-plain : (text : List ℕ) → 0 < length text → eqb (get_or text 0 0) 92 ≡ false → is_quote (get_or text 0 0) ≡ false → IsAtomLen text 1
IsAtomLen-plain [] h e q = absurd (omega arith)
IsAtomLen-plain (c ∷ cs) h e q = record {
  atom = Single (Bare c);
  reads = atoms-plain c cs e q;
  written = refl;
  closed = refl;
  joined = λ b. b;
  some = omega arith;
  within = omega arith;
}

-- the same at a place
pub plain_at : (text : List ℕ) (n : ℕ) → n < length text → eqb (get_or text n 0) 92 ≡ false → is_quote (get_or text n 0) ≡ false → IsAtomLen (drop n text) 1
plain_at text n lt e q =
    let add : n + 0 ≡ n = omega arith in
    let first : get_or (drop n text) 0 0 ≡ get_or text n 0 = get_or-drop n text 0 0 ∙ ap (λ k. get_or text k 0) add in
    IsAtomLen-plain (drop n text) (omega (arith, length-drop n text)) (ap (λ b. eqb b 92) first ∙ e) (ap is_quote first ∙ q)

pub IsAtomLen-escaped : (text : List ℕ) (n : ℕ) → 0 < length text → get_or text 0 0 ≡ 92 → n ≡ min (length text) 2 → IsAtomLen text n
IsAtomLen-escaped [] n h e m = absurd (omega arith)
IsAtomLen-escaped (c ∷ []) n h e m =
    let one : 1 ≡ n = omega arith in
    let lone : IsAtomLen (92 ∷ []) 1 = record { atom = Single Lone; reads = refl; written = refl; closed = refl; joined = λ _. refl; some = omega arith; within = omega arith } in
    subst (λ k. IsAtomLen (c ∷ []) k) one (subst (λ x. IsAtomLen (x ∷ []) 1) (sym e) lone)
IsAtomLen-escaped (c ∷ d ∷ cs) n h e m =
    let two : 2 ≡ n = omega arith in
    let pair : IsAtomLen (92 ∷ d ∷ cs) 2 = record { atom = Single (Escaped d); reads = refl; written = refl; closed = refl; joined = λ _. refl; some = omega arith; within = omega arith } in
    subst (λ k. IsAtomLen (c ∷ d ∷ cs) k) two (subst (λ x. IsAtomLen (x ∷ d ∷ cs) 2) (sym e) pair)

of_word-push : (run : List Atom) (a : Atom) → AllByRecursion IsOfWord run → IsOfWord a → AllByRecursion IsOfWord (run ++ a ∷ [])
of_word-push [] a h w = (w, tt)
of_word-push (r ∷ run) a h w = (h.0, of_word-push run a h.1 w)

take-add : (xs : List ℕ) (n m : ℕ) → take n xs ++ take m (drop n xs) ≡ take (n + m) xs
take-add xs n m =
    ap (λ t. t ++ take m (drop n xs)) (sym (take-take n (n + m) xs (omega arith))) ∙ ap (λ t. take n (take (n + m) xs) ++ t) (sym (drop-take n m xs))
    ∙ take-append-drop n (take (n + m) xs)

-- one more atom of the word
pub IsRun-more : (text : List ℕ) (n m : ℕ) → IsRun text n → n < length text → is_blank (get_or text n 0) ≡ false → IsAtomLen (drop n text) m → IsRun text (n + m)
IsRun-more text n m r lt blank a =
    let add : n + 0 ≡ n = omega arith in
    let first : is_blank (get_or (drop n text) 0 0) ≡ false = ap is_blank (get_or-drop n text 0 0 ∙ ap (λ k. get_or text k 0) add) ∙ blank in
    record {
      run = r.run ++ a.atom ∷ [];
      reads = r.reads ∙ ap (λ atms. r.run ++ atms) (a.reads ∙ ap (λ t. a.atom ∷ atoms t) (drop-drop m n text)) ∙ sym (append_assoc r.run (a.atom ∷ []) (atoms (drop (n + m) text)));
      written =
          flat_map-append atom_text r.run (a.atom ∷ []) ∙ ap (λ t. t ++ (atom_text a.atom ++ [])) r.written
          ∙ ap (λ t. take n text ++ t) (append-nil (atom_text a.atom) ∙ a.written) ∙ take-add text n m;
      each = of_word-push r.run a.atom r.each (record { closed = a.closed; joined = a.joined first });
      within = omega (arith, a.within, length-drop n text);
    }

-- a quote that does not close behind some atoms of a word does not close
any-of_word : (run : List Atom) (atms : List Atom) → AllByRecursion IsOfWord run → list_any is_unclosed (run ++ atms) ≡ list_any is_unclosed atms
any-of_word [] atms h = refl
any-of_word (r ∷ run) atms h = ap (λ b. b || list_any is_unclosed (run ++ atms)) h.0.closed ∙ any-of_word run atms h.1

pub open_behind : (text : List ℕ) (n : ℕ) → IsRun text n → has_open_quote (drop n text) ≡ has_open_quote text
open_behind text n r = sym (ap (list_any is_unclosed) r.reads ∙ any-of_word r.run (atoms (drop n text)) r.each)
