-- One more line of a text that is split, for the loop of `splitting::split`.
use Rattle.std.proofs.Common.{◌≡◌, ◌≢◌, ℕ, zero, suc, ◌+◌, ◌<◌, ◌≤◌, ◌⊎◌, inl, inr, true, false, cond, ltb, List, [], ◌∷◌, ◌++◌, Option, Some, None, Result, Ok, Err, get_or, drop, length, map, set, take, replicate, refl, sym, subst, ap, ◌∙◌, zero-add, arith}
use Rattle.std.proofs.Math.Seq.{drop-cons}
use Rattle.std.specs.Prelude.{filter}
use Rattle.std.specs.List.{cons_option, filter_map, flat_map, range_with_len}
use Rattle.std.proofs.lemmas.Bool.{cases_lt, cond-true, cond-false, lt-ltb, le-ltb, eq-eqb, ne_eqb}
use Rattle.std.proofs.lemmas.List.{append-nil, map-append, map_more, take-append-drop}
use Rattle.std.proofs.lemmas.List.Concat.{flat_map-append}
use Rattle.std.proofs.lemmas.List.Elements.{filter-append, filter_map-append}
use Rattle.std.proofs.lemmas.List.FromFn.{length-map-range_with_len, get_or-map-range_with_len}
use Rattle.desk_text.specs.Lines.{LogicalLine}
use Rattle.desk_text.specs.Reading.{ReadsAs, fault_of, unless_fault}
use Rattle.desk_text.specs.declared.reading.LineFault.{LineFault}
use Rattle.desk_text.specs.declared.reading.ReadError.{ReadError}
use Rattle.desk_text.specs.declared.reading.ReadError.TheVariants.{Fault, Memory}
use Rattle.desk_tables.specs.declared.filesystems.FsId.{FsId}
use Rattle.desk_tables.specs.declared.filesystems.Mount.{Mount}
use Rattle.desk_exports.specs.Files.{answered_line}
use Rattle.desk_exports.specs.Laws.{faults}
use Rattle.desk_split.specs.PrivateSplitting.{Sends, with_line, with_more}
use Rattle.desk_split.specs.Splitting.{destination_of, is_to, lines_to, text_to, texts_to, written_line}
use Rattle.desk_exports.specs.declared.rules.Rule.{Rule}

module _ {X : Type 0} (f g : ℕ → X) where
  same_everywhere : ((k : ℕ) → f k ≡ g k) → (ks : List ℕ) → map f ks ≡ map g ks
  same_everywhere h [] = refl
  same_everywhere h (k ∷ ks) = ap (λ x. x ∷ map f ks) (h k) ∙ ap (λ xs. g k ∷ xs) (same_everywhere h ks)

  module _ (j : ℕ) (other : (k : ℕ) → k ≢ j → f k ≡ g k) where
    -- functions that differ at one number alone give the same beyond it
    same_beyond : (a n : ℕ) → (j < a) ⊎ (a + n ≤ j) → map f (range_with_len a n) ≡ map g (range_with_len a n)
    same_beyond a zero out = refl
    same_beyond a (suc n) out =
        let apart : a ≢ j = (λ is. elim out [ inl below ↦ omega arith | inr over ↦ omega arith ]) in
        let out' : (j < a + 1) ⊎ (a + 1 + n ≤ j) = elim out [ inl below ↦ inl (omega arith) | inr over ↦ inr (omega arith) ] in
        ap (λ x. x ∷ map f (range_with_len (a + 1) n)) (other a apart) ∙ ap (λ xs. g a ∷ xs) (same_beyond (a + 1) n out')

    -- and where it stands, the one is the other with another value there
    set_there : (a n i : ℕ) → i < n → a + i ≡ j → set (map f (range_with_len a n)) i (g j) ≡ map g (range_with_len a n)
    set_there a zero i lt is = absurd (omega arith)
    set_there a (suc n) zero lt is =
        let same : j ≡ a = omega arith in
        ap (λ k. g k ∷ map f (range_with_len (a + 1) n)) same ∙ ap (λ xs. g a ∷ xs) (same_beyond (a + 1) n (inl (omega arith)))
    set_there a (suc n) (suc i) lt is =
        let apart : a ≢ j = (λ same. omega arith) in
        ap (λ x. x ∷ set (map f (range_with_len (a + 1) n)) i (g j)) (other a apart) ∙ ap (λ xs. g a ∷ xs) (set_there (a + 1) n i (omega arith) (omega arith))

module _ (table : List Mount) where
  -- no line, no text
  none_from : (a n : ℕ) → replicate {A = List ℕ} n [] ≡ map (text_to table []) (range_with_len a n)
  none_from a zero = refl
  none_from a (suc n) = ap (λ texts. [] ∷ texts) (none_from (a + 1) n)

  pub none_sent : replicate {A = List ℕ} (length table) [] ≡ texts_to table []
  none_sent = none_from 0 (length table)

  module _ (done : List LogicalLine) (line : LogicalLine) where
    text_more : (fs : ℕ) → text_to table (done ++ line ∷ []) fs ≡ text_to table done fs ++ flat_map written_line (cond (is_to fs (destination_of table line)) (line ∷ []) [])
    text_more fs =
        ap (flat_map written_line) (filter-append (λ l. is_to fs (destination_of table l)) done (line ∷ []))
        ∙ flat_map-append written_line (lines_to table done fs) (filter (λ l. is_to fs (destination_of table l)) (line ∷ []))

    text_here : (fs : ℕ) → is_to fs (destination_of table line) ≡ true → text_to table (done ++ line ∷ []) fs ≡ text_to table done fs ++ written_line line
    text_here fs e =
        text_more fs ∙ ap (λ ls. text_to table done fs ++ flat_map written_line ls) (cond-true _ (line ∷ []) [] e)
        ∙ ap (λ t. text_to table done fs ++ t) (append-nil (written_line line))

    text_elsewhere : (fs : ℕ) → is_to fs (destination_of table line) ≡ false → text_to table (done ++ line ∷ []) fs ≡ text_to table done fs
    text_elsewhere fs e =
        text_more fs ∙ ap (λ ls. text_to table done fs ++ flat_map written_line ls) (cond-false _ (line ∷ []) [] e) ∙ append-nil (text_to table done fs)

    module _ (texts : List (List ℕ)) (so_far : texts ≡ texts_to table done) where
      -- a line with no destination changes no text
      stays : ((fs : ℕ) → is_to fs (destination_of table line) ≡ false) → texts ≡ texts_to table (done ++ line ∷ [])
      stays h = so_far ∙ same_everywhere (text_to table done) (text_to table (done ++ line ∷ [])) (λ k. sym (text_elsewhere k (h k))) (range_with_len 0 (length table))

      many : length texts ≡ length table
      many = ap length so_far ∙ length-map-range_with_len (text_to table done) 0 (length table)

      module _ (fs : FsId) (is : destination_of table line ≡ Ok (Some fs)) where
        elsewhere : (k : ℕ) → k ≢ fs.0 → text_to table done k ≡ text_to table (done ++ line ∷ []) k
        elsewhere k apart = sym (text_elsewhere k (ap (is_to k) is ∙ ne_eqb fs.0 k (λ e. apart (sym e))))

        here : text_to table (done ++ line ∷ []) fs.0 ≡ text_to table done fs.0 ++ written_line line
        here = text_here fs.0 (ap (is_to fs.0) is ∙ eq-eqb fs.0 fs.0 refl)

        gains : with_more texts fs.0 (written_line line) ≡ texts_to table (done ++ line ∷ [])
        gains = elim (cases_lt fs.0 (length texts)) [
          | inl lt ↦
              let below : fs.0 < length table = omega (arith, many) in
              cond-true (ltb fs.0 (length texts)) _ _ (lt-ltb _ _ lt)
              ∙ ap (λ ts. set ts fs.0 (get_or ts fs.0 [] ++ written_line line)) so_far
              ∙ ap (λ t. set (texts_to table done) fs.0 (t ++ written_line line)) (get_or-map-range_with_len (text_to table done) 0 (length table) fs.0 fs.0 [] below (zero-add fs.0))
              ∙ ap (set (texts_to table done) fs.0) (sym here)
              ∙ set_there (text_to table done) (text_to table (done ++ line ∷ [])) fs.0 elsewhere 0 (length table) fs.0 below (zero-add fs.0)
          | inr over ↦
              cond-false (ltb fs.0 (length texts)) _ _ (le-ltb _ _ over) ∙ so_far
              ∙ same_beyond (text_to table done) (text_to table (done ++ line ∷ [])) fs.0 elsewhere 0 (length table) (inr (omega (arith, many)))
        ]

      sent_by : (d : Result (Option FsId) Rule) → destination_of table line ≡ d → with_line texts d line ≡ texts_to table (done ++ line ∷ [])
      sent_by (Ok None) is = stays (λ fs. ap (is_to fs) is)
      sent_by (Ok (Some fs)) is = gains fs is
      sent_by (Err r) is = stays (λ fs. ap (is_to fs) is)

      pub sent : with_line texts (destination_of table line) line ≡ texts_to table (done ++ line ∷ [])
      sent = sent_by (destination_of table line) refl

module _ (table : List Mount) (ls : List LogicalLine) (i : ℕ) (x : LogicalLine) (below : i < length ls) (is : x ≡ get_or ls i x) where
  -- one more line
  pub faults_more : faults (destination_of table) (take (i + 1) ls) ≡ faults (destination_of table) (take i ls) ++ cons_option (fault_of (answered_line (destination_of table) x)) []
  faults_more =
      ap (filter_map fault_of) (map_more (answered_line (destination_of table)) ls i x below)
      ∙ filter_map-append fault_of (map (answered_line (destination_of table)) (take i ls)) (answered_line (destination_of table) (get_or ls i x) ∷ [])
      ∙ ap (λ l. faults (destination_of table) (take i ls) ++ cons_option (fault_of (answered_line (destination_of table) l)) []) (sym is)

  -- what the exit at a line returns: the fault of the first line that has one
  pub exit_split : {T : Type 0} (view : T → List (List ℕ)) (e : ReadError (LineFault Rule)) (old new : List (List ℕ)) → faults (destination_of table) (take i ls) ≡ [] → Sends table (Err e) old new x
      → ReadsAs view (Err e) (unless_fault (faults (destination_of table) ls) (texts_to table ls))
  exit_split view Memory old new none sends = tt
  exit_split view (Fault f) old new none sends =
      let later : List (LineFault Rule) = faults (destination_of table) (drop (suc i) ls) in
      let all : faults (destination_of table) ls ≡ faults (destination_of table) (take i ls) ++ faults (destination_of table) (drop i ls) =
      ap (faults (destination_of table)) (sym (take-append-drop i ls)) ∙ ap (filter_map fault_of) (map-append (answered_line (destination_of table)) (take i ls) (drop i ls))
      ∙ filter_map-append fault_of (map (answered_line (destination_of table)) (take i ls)) (map (answered_line (destination_of table)) (drop i ls)) in
      let here : fault_of (answered_line (destination_of table) (get_or ls i x)) ≡ Some f = subst (λ l. fault_of (answered_line (destination_of table) l) ≡ Some f) is sends in
      let rest : faults (destination_of table) (drop i ls) ≡ f ∷ later = ap (faults (destination_of table)) (drop-cons ls i x below) ∙ ap (λ o. cons_option o later) here in
      ap (λ fs. unless_fault fs (texts_to table ls)) (all ∙ ap (λ fs. fs ++ faults (destination_of table) (drop i ls)) none ∙ rest)
