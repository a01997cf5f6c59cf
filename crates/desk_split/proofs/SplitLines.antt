-- Where the lines of a text that is split go.
use Rattle.std.proofs.Common.{◌≡◌, ℕ, Bool, true, false, cond, eqb, List, [], ◌∷◌, Option, None, Some, Result, Ok, Err, length, map, refl, sym, ap, subst, ◌∙◌, arith}
use Rattle.std.specs.Prelude.{filter}
use Rattle.std.specs.List.{All, AllByRecursion, cons_option, slice_get}
use Rattle.std.proofs.lemmas.List.Elements.{All-cons, All-nil}
use Rattle.std.proofs.lemmas.List.FromFn.{length-map-range_with_len}
use Rattle.std.proofs.lemmas.List.Quantifiers.{position-Some}
use Rattle.desk_text.specs.Lines.{LogicalLine, logical_lines}
use Rattle.desk_text.specs.Reading.{fault_at, unless_fault}
use Rattle.desk_text.specs.declared.path.PathFault.{PathFault}
use Rattle.desk_text.specs.declared.reading.LineFault.{LineFault}
use Rattle.desk_text.specs.declared.word.OpenQuote.{OpenQuote}
use Rattle.desk_tables.specs.FileSystems.{fs_of, is_file_system}
use Rattle.desk_tables.specs.declared.filesystems.FsId.{FsId}
use Rattle.desk_tables.specs.declared.filesystems.Mount.{Mount}
use Rattle.desk_exports.specs.Laws.{faults}
use Rattle.desk_exports.specs.Lines.{read_grammar_line}
use Rattle.desk_split.specs.Splitting.{BelongsTo, IsOfItsFirst, SentLine, SplitSendsEachLineOnce, destination_if_read, destination_of, fs_of_first, if_found, is_to, raw_words, text_to, texts_to}
use Rattle.desk_exports.specs.declared.grammar.GrammarLine.{GrammarLine}
use Rattle.desk_exports.specs.declared.rules.Rule.{Rule}
use Rattle.desk_exports.specs.declared.rules.Rule.TheVariants as rule
use Rattle.desk_split.proofs.SplitWords.{split_keeps_words}

-- where a line goes that is not faulty
pub record Goes (table : List Mount) (line : LogicalLine) : Type 0 where
  pub fs : FsId
  pub is : destination_of table line ≡ Ok (Some fs)
  pub own : BelongsTo table fs.0 line

module _ (mount : Mount) (rest : List Mount) (line : LogicalLine) (parts : GrammarLine) (read : read_grammar_line line ≡ Ok parts) where
  by_path : (path : List (List ℕ)) (found : Option ℕ) → fs_of (mount ∷ rest) path ≡ found → parts.is_v4 ≡ false → slice_get parts.directories 0 ≡ Some (Ok path)
      → destination_of (mount ∷ rest) line ≡ if_found found → fault_at {X = FsId} line.number (if_found found) ≡ None → Goes (mount ∷ rest) line
  by_path path None at v4 first is none = absurd (cc)
  by_path path (Some fs) at v4 first is none = record {
    fs = record { 0 = fs };
    is = is;
    own = record {
      parts = parts;
      read = read;
      listed = (position-Some (is_file_system (mount ∷ rest) path) (mount ∷ rest) fs mount at).0;
      first = subst (λ b. IsOfItsFirst (mount ∷ rest) fs b (slice_get parts.directories 0)) (sym v4) (subst (λ o. IsOfItsFirst (mount ∷ rest) fs false o) (sym first) at);
    };
  }

  by_parts : (stray v4 : Bool) (first : Option (Result (List (List ℕ)) PathFault)) → parts.is_v4 ≡ v4 → slice_get parts.directories 0 ≡ first
      → destination_of (mount ∷ rest) line ≡ cond stray (Err rule.StrayComment) (cond v4 (Ok (Some (record { 0 = 0 }))) (fs_of_first (mount ∷ rest) first))
      → fault_at {X = FsId} line.number (cond stray (Err rule.StrayComment) (cond v4 (Ok (Some (record { 0 = 0 }))) (fs_of_first (mount ∷ rest) first))) ≡ None
      → Goes (mount ∷ rest) line
  by_parts true v4 first e f is none = absurd (cc)
  by_parts false true first e f is none = record {
    fs = record { 0 = 0 };
    is = is;
    own = record { parts = parts; read = read; listed = omega arith; first = subst (λ b. IsOfItsFirst (mount ∷ rest) 0 b (slice_get parts.directories 0)) (sym e) refl };
  }
  by_parts false false None e f is none = absurd (cc)
  by_parts false false (Some (Err fault)) e f is none = absurd (cc)
  by_parts false false (Some (Ok path)) e f is none = by_path path (fs_of (mount ∷ rest) path) refl e f is none

module _ (mount : Mount) (rest : List Mount) where
  goes : (line : LogicalLine) (read : Result GrammarLine OpenQuote) → read_grammar_line line ≡ read → fault_at {X = FsId} line.number (destination_if_read (mount ∷ rest) read) ≡ None → Goes (mount ∷ rest) line
  goes line (Err quote) is none = absurd (cc)
  goes line (Ok parts) is none =
      by_parts mount rest line parts is parts.has_stray_comment parts.is_v4 (slice_get parts.directories 0) refl refl (ap (destination_if_read (mount ∷ rest)) is) none

  all_go : (lines : List LogicalLine) → faults (destination_of (mount ∷ rest)) lines ≡ [] → AllByRecursion (Goes (mount ∷ rest)) lines
  all_go [] h = tt
  all_go (line ∷ lines) h =
      let parts = none_of (fault_at line.number (destination_of (mount ∷ rest) line)) (faults (destination_of (mount ∷ rest)) lines) h in
      (goes line (read_grammar_line line) refl parts.0, all_go lines parts.1)
    where
      none_of : (o : Option (LineFault Rule)) (xs : List (LineFault Rule)) → cons_option o xs ≡ [] → (o ≡ None) × (xs ≡ [])
      none_of None xs e = (refl, e)
      none_of (Some x) xs e = absurd (cc)

-- the file system that a destination names
abbrev fs_in : Result (Option FsId) Rule → ℕ
fs_in (Ok None) = 0
fs_in (Ok (Some fs)) = fs.0
fs_in (Err broken) = 0

module _ (table : List Mount) where
  abbrev tagged : LogicalLine → SentLine
  tagged line = record { fs = fs_in (destination_of table line); line = line }

  all_lines : (lines : List LogicalLine) → map (λ (s : SentLine). s.line) (map tagged lines) ≡ lines
  all_lines [] = refl
  all_lines (line ∷ lines) = ap (λ ls. line ∷ ls) (all_lines lines)

  all_own : (lines : List LogicalLine) → AllByRecursion (Goes table) lines → All (λ (s : SentLine). BelongsTo table s.fs s.line) (map tagged lines)
  all_own [] h = All-nil (λ (s : SentLine). BelongsTo table s.fs s.line)
  all_own (line ∷ lines) h =
      All-cons (λ (s : SentLine). BelongsTo table s.fs s.line) (tagged line) (map tagged lines) (subst (λ fs. BelongsTo table fs line) (sym (ap fs_in h.0.is)) h.0.own) (all_own lines h.1)

  module _ (fs : ℕ) where
    one_more : (line : LogicalLine) (b : Bool) (ls : List LogicalLine) (ss : List SentLine) → map raw_words ls ≡ map (λ (s : SentLine). raw_words s.line) ss
        → map raw_words (cond b (line ∷ ls) ls) ≡ map (λ (s : SentLine). raw_words s.line) (cond b (tagged line ∷ ss) ss)
    one_more line true ls ss e = ap (λ ws. raw_words line ∷ ws) e
    one_more line false ls ss e = e

    those_sent : (lines : List LogicalLine) → AllByRecursion (Goes table) lines
        → map raw_words (filter (λ line. is_to fs (destination_of table line)) lines) ≡ map (λ (s : SentLine). raw_words s.line) (filter (λ (s : SentLine). eqb s.fs fs) (map tagged lines))
    those_sent [] h = refl
    those_sent (line ∷ lines) h =
        let same : is_to fs (destination_of table line) ≡ eqb (fs_in (destination_of table line)) fs = ap (is_to fs) h.0.is ∙ sym (ap (λ d. eqb (fs_in d) fs) h.0.is) in
        one_more line (is_to fs (destination_of table line)) (filter (λ l. is_to fs (destination_of table l)) lines) (filter (λ (s : SentLine). eqb s.fs fs) (map tagged lines)) (those_sent lines h.1)
        ∙ ap (λ b. map (λ (s : SentLine). raw_words s.line) (cond b (tagged line ∷ filter (λ (s : SentLine). eqb s.fs fs) (map tagged lines)) (filter (λ (s : SentLine). eqb s.fs fs) (map tagged lines)))) same

no_faults : (fs : List (LineFault Rule)) (xs ys : List (List ℕ)) → unless_fault fs xs ≡ Ok ys → (fs ≡ []) × (xs ≡ ys)
no_faults [] xs ys e = (refl, cc)
no_faults (f ∷ fs) xs ys e = absurd (cc)

pub split_sends_each_line_once : SplitSendsEachLineOnce
split_sends_each_line_once [] text texts some e = absurd (omega arith)
split_sends_each_line_once (mount ∷ rest) text texts some e =
    let table : List Mount = mount ∷ rest in
    let lines : List LogicalLine = logical_lines text in
    let sound = no_faults (faults (destination_of table) lines) (texts_to table lines) texts e in
    let go = all_go mount rest lines sound.0 in
    record {
      count = ap length (sym sound.1) ∙ length-map-range_with_len (text_to table lines) 0 (length table);
      sent = map (tagged table) lines;
      all = all_lines table lines;
      own = all_own table lines go;
      each = λ fs below. split_keeps_words table text texts fs e below ∙ those_sent table fs lines go;
    }
