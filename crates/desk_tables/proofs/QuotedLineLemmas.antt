-- A table that is read line by line: its rows so far, and its first fault.
use Rattle.std.proofs.Common.{◌≡◌, ◌<◌, ◌+◌, ℕ, List, [], ◌∷◌, ◌++◌, Option, Some, None, Result, Ok, Err, suc, take, drop, get_or, length, ap, sym, ◌∙◌, append_assoc}
use Rattle.std.proofs.Math.Seq.{drop-cons}
use Rattle.std.proofs.lemmas.List.{append-nil, take_more, take-append-drop}
use Rattle.std.proofs.lemmas.List.Elements.{filter_map-append}
use Rattle.std.specs.List.{cons_option, filter_map}
use Rattle.desk_text.specs.Lines.{LogicalLine}
use Rattle.desk_text.specs.Reading.{Reads, ReadsAs}
use Rattle.desk_text.specs.declared.reading.ReadError.{ReadError}
use Rattle.desk_text.specs.declared.reading.ReadError.TheVariants.{Fault, Memory}
use Rattle.desk_text.specs.Reading.{AnsweredLine, answered_value, fault_of, unless_fault, value_of}
use Rattle.desk_tables.specs.Rules.{unless_rule}
use Rattle.desk_tables.specs.QuotedLines.{answers, lines_table}
use Rattle.desk_tables.specs.PrivateQuotedLines.{at_line}
use Rattle.desk_tables.specs.Rules.{TableFault}
use Rattle.desk_tables.specs.declared.rules.TableRule.{TableRule}

-- the row of a line that breaks no rule
pub unless_ok : {Row : Type 0} (broken : Option TableRule) (spelled : Option Row) (row : Row) → unless_rule broken spelled ≡ Ok (Some row) → spelled ≡ Some row
unless_ok None spelled row h = cc
unless_ok (Some rule) spelled row h = absurd (cc)

-- what a line answers, at its number
pub row_at : {Row : Type 0} (number : ℕ) (a : Result (Option Row) TableRule) (row : Row) → at_line number a ≡ Ok (Some row) → a ≡ Ok (Some row)
row_at number (Ok some) row h = let e : some ≡ Some row = cc in ap Ok e
row_at number (Err rule) row h = absurd (cc)

fault_at : {Row : Type 0} (number : ℕ) (a : Result (Option Row) TableRule) (f : TableFault) → at_line number a ≡ Err f → fault_of (record { number = number; answer = a }) ≡ Some f
fault_at number (Ok some) f h = absurd (cc)
fault_at number (Err rule) f h = cc

module _ {Row : Type 0} (answer : List LogicalLine → LogicalLine → Result (Option Row) TableRule) where
  -- the faults of lines, and their rows
  abbrev pub faults_on : List LogicalLine → List TableFault
  faults_on lines = filter_map fault_of (answers answer [] lines)

  abbrev pub rows_on : List LogicalLine → List Row
  rows_on lines = filter_map value_of (answers answer [] lines)

  answers-append : (before xs ys : List LogicalLine) → answers answer before (xs ++ ys) ≡ answers answer before xs ++ answers answer (before ++ xs) ys
  answers-append before [] ys = ap (λ b. answers answer b ys) (sym (append-nil before))
  answers-append before (x ∷ xs) ys =
      ap (λ (more : List (AnsweredLine Row TableRule)). record { number = x.number; answer = answer before x } ∷ more)
      (answers-append (before ++ x ∷ []) xs ys ∙ ap (λ b. answers answer (before ++ x ∷ []) xs ++ answers answer b ys) (append_assoc before (x ∷ []) xs))

  pub whole : (lines : List LogicalLine) → faults_on lines ≡ [] → lines_table answer lines ≡ Ok (rows_on lines)
  whole lines none = ap (λ faults. unless_fault faults (rows_on lines)) none

  module _ (ls : List LogicalLine) (i : ℕ) where
    -- one more line
    next : (x : LogicalLine) → i < length ls → x ≡ get_or ls i x → answers answer [] (take (i + 1) ls) ≡ answers answer [] (take i ls) ++ record { number = x.number; answer = answer (take i ls) x } ∷ []
    next x below is =
        ap (answers answer []) (take_more ls i x below)
        ∙ answers-append [] (take i ls) (get_or ls i x ∷ [])
        ∙ ap (λ (l : LogicalLine). answers answer [] (take i ls) ++ record { number = l.number; answer = answer (take i ls) l } ∷ []) (sym is)

    pub next_faults : (x : LogicalLine) (row : Row) → i < length ls → x ≡ get_or ls i x → answer (take i ls) x ≡ Ok (Some row) → faults_on (take i ls) ≡ [] → faults_on (take (i + 1) ls) ≡ []
    next_faults x row below is good none =
        ap (filter_map fault_of) (next x below is)
        ∙ filter_map-append fault_of (answers answer [] (take i ls)) (record { number = x.number; answer = answer (take i ls) x } ∷ [])
        ∙ ap (λ a. faults_on (take i ls) ++ cons_option (fault_of (record { number = x.number; answer = a })) []) good
        ∙ ap (λ fs. fs ++ []) none

    pub next_rows : (x : LogicalLine) (row : Row) → i < length ls → x ≡ get_or ls i x → answer (take i ls) x ≡ Ok (Some row) → rows_on (take (i + 1) ls) ≡ rows_on (take i ls) ++ row ∷ []
    next_rows x row below is good =
        ap (filter_map value_of) (next x below is)
        ∙ filter_map-append value_of (answers answer [] (take i ls)) (record { number = x.number; answer = answer (take i ls) x } ∷ [])
        ∙ ap (λ a. rows_on (take i ls) ++ cons_option (answered_value a) []) good

    -- the first line with a fault is the answer
    first_fault : (x : LogicalLine) (f : TableFault) → i < length ls → x ≡ get_or ls i x → faults_on (take i ls) ≡ [] → fault_of (record { number = x.number; answer = answer (take i ls) x }) ≡ Some f → lines_table answer ls ≡ Err f
    first_fault x f below is none found =
        let rest : List (AnsweredLine Row TableRule) = answers answer (take i ls ++ x ∷ []) (drop (suc i) ls) in
        let split : answers answer [] ls ≡ answers answer [] (take i ls) ++ (record { number = x.number; answer = answer (take i ls) x } ∷ rest) =
        ap (answers answer []) (sym (take-append-drop i ls))
        ∙ answers-append [] (take i ls) (drop i ls)
        ∙ ap (λ more. answers answer [] (take i ls) ++ answers answer (take i ls) more) (drop-cons ls i x below ∙ ap (λ (l : LogicalLine). l ∷ drop (suc i) ls) (sym is)) in
        let here : List TableFault = filter_map fault_of rest in
        let all : faults_on ls ≡ f ∷ here =
        ap (filter_map fault_of) split
        ∙ filter_map-append fault_of (answers answer [] (take i ls)) (record { number = x.number; answer = answer (take i ls) x } ∷ rest)
        ∙ ap (λ fs. fs ++ cons_option (fault_of (record { number = x.number; answer = answer (take i ls) x })) here) none
        ∙ ap (λ o. cons_option o here) found in
        ap (λ fs. unless_fault fs (rows_on ls)) all

    -- what the exit at a line returns
    pub exit : (e : ReadError TableFault) (x : LogicalLine) → i < length ls → x ≡ get_or ls i x → faults_on (take i ls) ≡ [] → ReadsAs {T = Row} (λ row. Some row) (Err e) (at_line x.number (answer (take i ls) x)) → Reads {X = List Row} (Err e) (lines_table answer ls)
    exit Memory x below is none read = tt
    exit (Fault f) x below is none read = first_fault x f below is none (fault_at x.number (answer (take i ls) x) f read)
