-- What a logical line tells by its lines alone: its words, and where it goes.
use Rattle.std.proofs.Common.{◌≡◌, ℕ, ◌+◌, Bool, true, false, ◌||◌, cond, List, [], ◌∷◌, ◌++◌, Option, Result, Ok, Err, length, map, refl, ap, ◌∙◌}
use Rattle.std.specs.List.{AllByRecursion, flat_map, list_any, slice_split}
use Rattle.std.specs.Result.{result_map_both}
use Rattle.std.proofs.lemmas.List.{append-nil, map-append}
use Rattle.std.proofs.lemmas.List.Concat.{flat_map-append}
use Rattle.std.proofs.lemmas.List.Folds.{list_any-append}
use Rattle.desk_text.specs.Lines.{LogicalLine, PhysicalLine, without_continuation}
use Rattle.desk_text.specs.Word.{Atom, RawWord, atom_text, atoms, has_open_quote, is_separator, line_has_open_quote, line_words, raw_word, words_at, words_from}
use Rattle.desk_text.specs.declared.word.OpenQuote.{OpenQuote}
use Rattle.desk_tables.specs.declared.filesystems.FsId.{FsId}
use Rattle.desk_tables.specs.declared.filesystems.Mount.{Mount}
use Rattle.desk_exports.specs.Grammar.{grammar_line, grammar_word}
use Rattle.desk_exports.specs.Lines.{read_grammar_line}
use Rattle.desk_split.specs.Splitting.{destination_if_read, destination_of, raw_words}
use Rattle.desk_exports.specs.declared.grammar.GrammarWord.{GrammarWord}
use Rattle.desk_exports.specs.declared.grammar.GrammarLine.{GrammarLine}
use Rattle.desk_exports.specs.declared.rules.Rule.{Rule}
use Rattle.desk_split.proofs.LineTexts.{Bytes}
use Rattle.desk_split.proofs.WholeLines.{AreSpelled, IsSpelled, line_wholes, wholes}

-- what is seen of words, whatever their places are
module _ {Y : Type 0} (view : RawWord → Y) (anywhere : (s t : ℕ) (raw : Bytes) → view (raw_word s raw) ≡ view (raw_word t raw)) where
  same_from : (s t : ℕ) (runs : List (List Atom)) → map view (words_from s runs) ≡ map view (words_from t runs)
  same_from s t [] = refl
  same_from s t ([] ∷ runs) = same_from (s + 1) (t + 1) runs
  same_from s t ((a ∷ more) ∷ runs) =
      let raw : Bytes = flat_map atom_text (a ∷ more) in
      ap (λ w. w ∷ map view (words_from (s + length raw + 1) runs)) (anywhere s t raw)
      ∙ ap (λ ws. view (raw_word t raw) ∷ ws) (same_from (s + length raw + 1) (t + length raw + 1) runs)

  abbrev pub whole_view : Bytes → List Y
  whole_view line = map view (words_at 0 (without_continuation line))

  seen_by_whole : (parts : List PhysicalLine) → AllByRecursion IsSpelled parts → map view (flat_map (λ part. words_at part.start part.text) parts) ≡ flat_map whole_view (wholes parts)
  seen_by_whole [] h = refl
  seen_by_whole (part ∷ parts) h =
      map-append view (words_at part.start part.text) (flat_map (λ p. words_at p.start p.text) parts)
      ∙ ap (λ rest. map view (words_at part.start part.text) ++ rest) (seen_by_whole parts h.1)
      ∙ ap (λ t. map view (words_at part.start t) ++ flat_map whole_view (wholes parts)) h.0
      ∙ ap (λ ws. ws ++ flat_map whole_view (wholes parts)) (same_from part.start 0 (slice_split is_separator (atoms (without_continuation part.whole))))

  none_in_empty : (group : List Bytes) → flat_map whole_view (group ++ [] ∷ []) ≡ flat_map whole_view group
  none_in_empty group = flat_map-append whole_view group ([] ∷ []) ∙ append-nil (flat_map whole_view group)

-- the words of a line
unfoldable pub whole_words : List Bytes → List Bytes
whole_words group = flat_map (whole_view (λ word. word.raw) (λ s t raw. refl)) group

pub words_by_whole : (line : LogicalLine) → AreSpelled line → raw_words line ≡ whole_words (line_wholes line)
unfolding whole_words
words_by_whole line h = seen_by_whole (λ word. word.raw) (λ s t raw. refl) line.parts h

pub no_more_words : (group : List Bytes) → whole_words (group ++ [] ∷ []) ≡ whole_words group
unfolding whole_words
no_more_words group = none_in_empty (λ word. word.raw) (λ s t raw. refl) group

-- the grammar of a line
abbrev line_grammar : List Bytes → List GrammarWord
line_grammar group = flat_map (whole_view grammar_word (λ s t raw. refl)) group

abbrev is_open : Bytes → Bool
is_open line = has_open_quote (without_continuation line)

open_by_whole : (parts : List PhysicalLine) → AllByRecursion IsSpelled parts → list_any (λ part. has_open_quote part.text) parts ≡ list_any is_open (wholes parts)
open_by_whole [] h = refl
open_by_whole (part ∷ parts) h =
    ap (λ t. has_open_quote t || list_any (λ p. has_open_quote p.text) parts) h.0 ∙ ap (λ b. is_open part.whole || b) (open_by_whole parts h.1)

or_false : (a : Bool) → (a || false) ≡ a
or_false true = refl
or_false false = refl

open_in_empty : (group : List Bytes) → list_any is_open (group ++ [] ∷ []) ≡ list_any is_open group
open_in_empty group = list_any-append is_open group ([] ∷ []) ∙ or_false (list_any is_open group)

abbrev read_by : Bool → List GrammarWord → Result GrammarLine OpenQuote
read_by is_open words = cond is_open (Err (record {})) (Ok (grammar_line words))

grammar_by : (line : LogicalLine) → read_grammar_line line ≡ read_by (line_has_open_quote line) (map grammar_word (line_words line))
grammar_by line = by (line_has_open_quote line)
  where
    by : (b : Bool) → result_map_both {E = OpenQuote} (λ words. grammar_line (map grammar_word words)) (λ quote. quote) (cond b (Err (record {})) (Ok (line_words line))) ≡ read_by b (map grammar_word (line_words line))
    by true = refl
    by false = refl

module _ (table : List Mount) where
  -- where a line goes, and its words
  abbrev pub Told : Type 0
  Told = Result (Option FsId) Rule × List Bytes

  abbrev pub told : LogicalLine → Told
  told line = (destination_of table line, raw_words line)

  unfoldable pub whole_told : List Bytes → Told
  whole_told group = (destination_if_read table (read_by (list_any is_open group) (line_grammar group)), whole_words group)

  pub told_by_whole : (line : LogicalLine) → AreSpelled line → told line ≡ whole_told (line_wholes line)
  unfolding whole_told
  told_by_whole line h =
      ap (λ read. (destination_if_read table read, raw_words line))
      (grammar_by line
      ∙ ap (λ b. read_by b (map grammar_word (line_words line))) (open_by_whole line.parts h)
      ∙ ap (read_by (list_any is_open (line_wholes line))) (seen_by_whole grammar_word (λ s t raw. refl) line.parts h))
      ∙ ap (λ words. (destination_if_read table (read_by (list_any is_open (line_wholes line)) (line_grammar (line_wholes line))), words)) (words_by_whole line h)

  pub no_more_told : (group : List Bytes) → whole_told (group ++ [] ∷ []) ≡ whole_told group
  unfolding whole_told
  no_more_told group =
      ap (λ b. (destination_if_read table (read_by b (line_grammar (group ++ [] ∷ []))), whole_words (group ++ [] ∷ []))) (open_in_empty group)
      ∙ ap (λ ws. (destination_if_read table (read_by (list_any is_open group) ws), whole_words (group ++ [] ∷ []))) (none_in_empty grammar_word (λ s t raw. refl) group)
      ∙ ap (λ words. (destination_if_read table (read_by (list_any is_open group) (line_grammar group)), words)) (no_more_words group)
