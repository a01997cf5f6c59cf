-- Lemmas on a table that is read line by line.
use Rattle.std.proofs.Common.{◌≡◌, ◌<◌, ◌+◌, ℕ, List, [], ◌∷◌, ◌++◌, Option, Some, Result, Ok, Err, suc, take, drop, get_or, length, ap, subst, sym, ◌∙◌, arith}
use Rattle.std.proofs.Math.Seq.{drop-cons}
use Rattle.std.proofs.lemmas.List.{get_or-map, length-map, take_more, take-append-drop}
use Rattle.std.proofs.lemmas.List.Elements.{filter_map-append}
use Rattle.std.proofs.lemmas.List.FromFn.{get_or-enumerate_from, length-enumerate_from}
use Rattle.std.specs.List.{cons_option, enumerate_from, filter_map}
use Rattle.std.specs.Str.Lines.{lines}
use Rattle.desk_text.specs.Reading.{Reads}
use Rattle.desk_text.specs.declared.reading.ReadError.{ReadError}
use Rattle.desk_text.specs.declared.reading.ReadError.TheVariants.{Fault, Memory}
use Rattle.desk_tables.specs.PrivateRows.{PushesRow}
use Rattle.desk_text.specs.Reading.{AnsweredLine, fault_of, read_lines, unless_fault, value_of}
use Rattle.desk_tables.specs.Rows.{answered_line, answered_lines}
use Rattle.desk_tables.specs.Rules.{TableFault}
use Rattle.desk_tables.specs.declared.rules.TableRule.{TableRule}

module _ {Row : Type 0} (answer : List ℕ → Result (Option Row) TableRule) (text : List ℕ) where
  -- the line with its number is the one at its place
  pub line_is : (k number : ℕ) (line : List ℕ) → number ≡ k → (k < length (lines text)) × (line ≡ get_or (lines text) k line)
      → (k < length (answered_lines answer text)) × (answered_line answer (number + 1, line) ≡ get_or (answered_lines answer text) k (answered_line answer (number + 1, line)))
  line_is k number line counted turn =
      let numbered = enumerate_from 1 (lines text) in
      let within : k < length numbered = subst (λ n. k < n) (sym (length-enumerate_from 1 (lines text))) turn.0 in
      let next : 1 + k ≡ number + 1 = omega arith in (
        subst (λ n. k < n) (sym (length-map numbered (answered_line answer))) within,
        sym (get_or-map (answered_line answer) numbered k (number + 1, line) (answered_line answer (number + 1, line)) within
            ∙ ap (answered_line answer) (get_or-enumerate_from 1 (lines text) k (number + 1, line) turn.0)
            ∙ ap (λ n. answered_line answer (n, get_or (lines text) k line)) next
            ∙ ap (λ l. answered_line answer (number + 1, l)) (sym turn.1)),
      )

  pub all_lines : length (answered_lines answer text) ≡ length (lines text)
  all_lines = length-map (enumerate_from 1 (lines text)) (answered_line answer) ∙ length-enumerate_from 1 (lines text)

module _ {Row : Type 0} (ls : List (AnsweredLine Row TableRule)) (i : ℕ) (x : AnsweredLine Row TableRule) (at : (i < length ls) × (x ≡ get_or ls i x)) where
  taken : take (i + 1) ls ≡ take i ls ++ x ∷ []
  taken = take_more ls i x at.0 ∙ ap (λ l. take i ls ++ l ∷ []) (sym at.1)

  -- one more line
  pub faults_more : filter_map fault_of (take (i + 1) ls) ≡ filter_map fault_of (take i ls) ++ cons_option (fault_of x) []
  faults_more = ap (filter_map fault_of) taken ∙ filter_map-append fault_of (take i ls) (x ∷ [])

  pub rows_more : filter_map value_of (take (i + 1) ls) ≡ filter_map value_of (take i ls) ++ cons_option (value_of x) []
  rows_more = ap (filter_map value_of) taken ∙ filter_map-append value_of (take i ls) (x ∷ [])

  -- the first line with a fault is the answer
  first_fault : (f : TableFault) → filter_map fault_of (take i ls) ≡ [] → fault_of x ≡ Some f → read_lines ls ≡ Err f
  first_fault f none found =
      let here : List TableFault = filter_map fault_of (drop (suc i) ls) in
      let all : filter_map fault_of ls ≡ filter_map fault_of (take i ls) ++ filter_map fault_of (drop i ls) =
      ap (filter_map fault_of) (sym (take-append-drop i ls)) ∙ filter_map-append fault_of (take i ls) (drop i ls) in
      let rest : filter_map fault_of (drop i ls) ≡ f ∷ here =
      ap (filter_map fault_of) (drop-cons ls i x at.0) ∙ ap (λ (l : AnsweredLine Row TableRule). cons_option (fault_of l) here) (sym at.1) ∙ ap (λ o. cons_option o here) found in
      ap (λ fs. unless_fault fs (filter_map value_of ls)) (all ∙ ap (λ fs. fs ++ filter_map fault_of (drop i ls)) none ∙ rest)

  -- what the exit at a line returns
  pub exit : (e : ReadError TableFault) (old new : List Row) → filter_map fault_of (take i ls) ≡ [] → PushesRow (Err e) old new x → Reads (Err e) (read_lines ls)
  exit Memory old new none pushed = tt
  exit (Fault f) old new none pushed = first_fault f none pushed

  -- what a line without a fault adds
  pub sound_more : (done : Unit {0}) (old new : List Row) → filter_map fault_of (take i ls) ≡ [] → PushesRow (Ok done) old new x → filter_map fault_of (take (i + 1) ls) ≡ []
  sound_more done old new none pushed =
      faults_more ∙ ap (λ o. filter_map fault_of (take i ls) ++ cons_option o []) pushed.0 ∙ ap (λ fs. fs ++ []) none

  pub read_more : (done : Unit {0}) (old new : List Row) → old ≡ filter_map value_of (take i ls) → PushesRow (Ok done) old new x → new ≡ filter_map value_of (take (i + 1) ls)
  read_more done old new read pushed =
      pushed.1 ∙ ap (λ rows. rows ++ cons_option (value_of x) []) read ∙ sym rows_more

-- a table without a fault is its rows
pub all_read : {Row : Type 0} (ls : List (AnsweredLine Row TableRule)) (rows : List Row) → filter_map fault_of ls ≡ [] → rows ≡ filter_map value_of ls → read_lines ls ≡ Ok rows
all_read ls rows sound read = ap (λ fs. unless_fault fs (filter_map value_of ls)) sound ∙ ap Ok (sym read)
