-- The words of a line by its physical lines alone, wherever they stand.
use Rattle.std.proofs.Common.{◌≡◌, ℕ, ◌+◌, ◌-◌, Bool, true, false, ◌||◌, List, [], ◌∷◌, ◌++◌, append-nil, arith, length, map, refl, ap, ◌∙◌}
use Rattle.std.specs.List.{AllByRecursion, flat_map, list_any, slice_split}
use Rattle.std.proofs.lemmas.List.{map-append}
use Rattle.std.proofs.lemmas.List.Concat.{flat_map-append}
use Rattle.std.proofs.lemmas.List.Folds.{list_any-append}
use Rattle.desk_text.specs.Lines.{PhysicalLine, without_continuation}
use Rattle.desk_text.specs.Word.{Atom, RawWord, atom_text, atoms, has_open_quote, is_separator, raw_word, words_at, words_from}
use Rattle.desk_split.proofs.WholeLines.{IsSpelled, wholes}

abbrev Bytes : Type 0
Bytes = List ℕ

abbrev runs_of : Bytes → List (List Atom)
runs_of text = slice_split is_separator (atoms text)

-- 1. What is seen of words, whatever their places are.

module _ {Y : Type 0} (view : RawWord → Y) (anywhere : (s t : ℕ) (raw : Bytes) → view (raw_word s raw) ≡ view (raw_word t raw)) where
  same_from : (s t : ℕ) (runs : List (List Atom)) → map view (words_from s runs) ≡ map view (words_from t runs)
  same_from s t [] = refl
  same_from s t ([] ∷ runs) = same_from (s + 1) (t + 1) runs
  same_from s t ((a ∷ more) ∷ runs) =
      let raw : Bytes = flat_map atom_text (a ∷ more) in
      ap (λ (w : Y). w ∷ map view (words_from (s + length raw + 1) runs)) (anywhere s t raw)
      ∙ ap (λ (ws : List Y). view (raw_word t raw) ∷ ws) (same_from (s + length raw + 1) (t + length raw + 1) runs)

  abbrev pub seen : Bytes → List Y
  seen line = map view (words_at 0 (without_continuation line))

  pub seen_by_whole : (parts : List PhysicalLine) → AllByRecursion IsSpelled parts
      → map view (flat_map (λ (part : PhysicalLine). words_at part.start part.text) parts) ≡ flat_map seen (wholes parts)
  seen_by_whole [] h = refl
  seen_by_whole (part ∷ parts) h =
      map-append view (words_at part.start part.text) (flat_map (λ (p : PhysicalLine). words_at p.start p.text) parts)
      ∙ ap (λ (rest : List Y). map view (words_at part.start part.text) ++ rest) (seen_by_whole parts h.1)
      ∙ ap (λ (t : Bytes). map view (words_at part.start t) ++ flat_map seen (wholes parts)) h.0
      ∙ ap (λ (ws : List Y). ws ++ flat_map seen (wholes parts)) (same_from part.start 0 (runs_of (without_continuation part.whole)))

  pub none_seen : (group : List Bytes) → flat_map seen (group ++ [] ∷ []) ≡ flat_map seen group
  none_seen group = flat_map-append seen group ([] ∷ []) ∙ append-nil (flat_map seen group)

-- 2. Whether a quote is open.

abbrev pub is_open : Bytes → Bool
is_open line = has_open_quote (without_continuation line)

pub open_by_whole : (parts : List PhysicalLine) → AllByRecursion IsSpelled parts → list_any (λ (part : PhysicalLine). has_open_quote part.text) parts ≡ list_any is_open (wholes parts)
open_by_whole [] h = refl
open_by_whole (part ∷ parts) h =
    ap (λ (t : Bytes). has_open_quote t || list_any (λ (p : PhysicalLine). has_open_quote p.text) parts) h.0
    ∙ ap (λ (b : Bool). is_open part.whole || b) (open_by_whole parts h.1)

or_false : (a : Bool) → (a || false) ≡ a
or_false true = refl
or_false false = refl

pub none_open : (group : List Bytes) → list_any is_open (group ++ [] ∷ []) ≡ list_any is_open group
none_open group = list_any-append is_open group ([] ∷ []) ∙ or_false (list_any is_open group)

-- 3. Words behind so many bytes of their line.

abbrev Columns : Type 0
Columns = List (ℕ × Bytes)

abbrev columns : ℕ → List RawWord → Columns
columns start words = map (λ (word : RawWord). (word.start - start, word.raw)) words

abbrev pub own_columns : Bytes → Columns
own_columns line = columns 0 (words_at 0 (without_continuation line))

columns_from : (s c : ℕ) (runs : List (List Atom)) → columns s (words_from (s + c) runs) ≡ columns 0 (words_from c runs)
columns_from s c [] = refl
columns_from s c ([] ∷ runs) = ap (λ (k : ℕ). columns s (words_from k runs)) (omega arith) ∙ columns_from s (c + 1) runs
columns_from s c ((a ∷ more) ∷ runs) =
    let raw : Bytes = flat_map atom_text (a ∷ more) in
    ap {B = Columns} (λ (k : ℕ). (k, raw) ∷ columns s (words_from (s + c + length raw + 1) runs)) (omega arith)
    ∙ ap {B = Columns} (λ (rest : Columns). (c - 0, raw) ∷ rest)
    (ap (λ (k : ℕ). columns s (words_from k runs)) (omega arith) ∙ columns_from s (c + length raw + 1) runs)

pub columns_by_whole : (part : PhysicalLine) → IsSpelled part → columns part.start (words_at part.start part.text) ≡ own_columns part.whole
columns_by_whole part h =
    ap (λ (t : Bytes). columns part.start (words_at part.start t)) h
    ∙ ap (λ (k : ℕ). columns part.start (words_from k (runs_of (without_continuation part.whole)))) (omega arith)
    ∙ columns_from part.start 0 (runs_of (without_continuation part.whole))
