-- The faults of a table whose lines depend on the earlier ones, line by line.
use Rattle.std.proofs.Common.{◌≡◌, ℕ, ◌+◌, ◌<◌, List, [], ◌∷◌, ◌++◌, length, map, get_or, take, Option, Some, None, Result, Ok, Err, refl, sym, ap, ◌∙◌}
use Rattle.std.specs.List.{cons_option}
use Rattle.std.proofs.lemmas.List.{append-nil, map-append, take_more}
use Rattle.desk_text.specs.Lines.{LogicalLine}
use Rattle.desk_text.specs.Reading.{ReadsAs, answered_value, fault_at, split_answer}
use Rattle.desk_text.specs.declared.reading.ReadError.{ReadError}
use Rattle.desk_text.specs.declared.reading.ReadError.TheVariants.{Fault, Memory}
use Rattle.desk_tables.specs.QuotedLines.{faults_after, with_line, with_lines}
use Rattle.desk_tables.specs.Rules.{TableFault}
use Rattle.desk_tables.specs.declared.faults.PlacedFault.{PlacedFault}
use Rattle.desk_tables.specs.declared.rules.TableRule.{TableRule}

cons_append : (o : Option TableFault) (xs ys : List TableFault) → cons_option o (xs ++ ys) ≡ cons_option o xs ++ ys
cons_append None xs ys = refl
cons_append (Some fault) xs ys = refl

module _ {Row : Type 0} (answer : List Row → LogicalLine → Result (Option Row) TableRule) where
  -- lines, and further ones behind them
  with_append : (rows : List Row) (xs ys : List LogicalLine) → with_lines answer rows (xs ++ ys) ≡ with_lines answer (with_lines answer rows xs) ys
  with_append rows [] ys = refl
  with_append rows (x ∷ xs) ys = with_append (with_line answer rows x) xs ys

  pub faults_append : (rows : List Row) (xs ys : List LogicalLine) → faults_after answer rows (xs ++ ys) ≡ faults_after answer rows xs ++ faults_after answer (with_lines answer rows xs) ys
  faults_append rows [] ys = refl
  faults_append rows (x ∷ xs) ys =
      ap (cons_option (fault_at x.number (answer rows x))) (faults_append (with_line answer rows x) xs ys)
      ∙ cons_append (fault_at x.number (answer rows x)) (faults_after answer (with_line answer rows x) xs) (faults_after answer (with_lines answer (with_line answer rows x) xs) ys)

  module _ (ls : List LogicalLine) (i : ℕ) (x : LogicalLine) (within : i < length ls) (is : x ≡ get_or ls i x) (rows : List Row) (listed : rows ≡ with_lines answer [] (take i ls)) where
    one_more : take (i + 1) ls ≡ take i ls ++ x ∷ []
    one_more = take_more ls i x within ∙ ap (λ l. take i ls ++ l ∷ []) (sym is)

    more_rows : with_lines answer [] (take (i + 1) ls) ≡ rows ++ cons_option (answered_value (answer rows x)) []
    more_rows = ap (with_lines answer []) one_more ∙ with_append [] (take i ls) (x ∷ []) ∙ ap (λ r. with_line answer r x) (sym listed)

    more_faults : faults_after answer [] (take (i + 1) ls) ≡ faults_after answer [] (take i ls) ++ cons_option (fault_at x.number (answer rows x)) []
    more_faults =
        ap (faults_after answer []) one_more ∙ faults_append [] (take i ls) (x ∷ [])
        ∙ ap (λ r. faults_after answer [] (take i ls) ++ cons_option (fault_at x.number (answer r x)) []) (sym listed)

    -- a good line adds its row
    module _ (row : Row) (good : answer rows x ≡ Ok (Some row)) where
      pub good_rows : (new : List Row) → new ≡ rows ++ row ∷ [] → new ≡ with_lines answer [] (take (i + 1) ls)
      good_rows new added = added ∙ sym (more_rows ∙ ap (λ a. rows ++ cons_option (answered_value a) []) good)

      pub good_faults : (found : List TableFault) → found ≡ faults_after answer [] (take i ls) → found ≡ faults_after answer [] (take (i + 1) ls)
      good_faults found so_far =
          so_far ∙ sym (more_faults ∙ ap (λ a. faults_after answer [] (take i ls) ++ cons_option (fault_at x.number a) []) good ∙ append-nil (faults_after answer [] (take i ls)))

    -- a faulty line adds its fault
    module _ (rule : TableRule) (told : answer rows x ≡ Err rule) where
      pub faulty_rows : rows ≡ with_lines answer [] (take (i + 1) ls)
      faulty_rows = sym (more_rows ∙ ap (λ a. rows ++ cons_option (answered_value a) []) told ∙ append-nil rows)

      pub faulty_faults : (found new : List PlacedFault) (one : PlacedFault) → one.fault ≡ record { line = x.number; rule = rule } → new ≡ found ++ one ∷ [] → map (λ (f : PlacedFault). f.fault) found ≡ faults_after answer [] (take i ls)
          → map (λ (f : PlacedFault). f.fault) new ≡ faults_after answer [] (take (i + 1) ls)
      faulty_faults found new one same added so_far =
          ap (map (λ (f : PlacedFault). f.fault)) added ∙ map-append (λ (f : PlacedFault). f.fault) found (one ∷ [])
          ∙ ap (λ fs. fs ++ one.fault ∷ []) so_far
          ∙ ap (λ f. faults_after answer [] (take i ls) ++ f ∷ []) same
          ∙ sym (more_faults ∙ ap (λ a. faults_after answer [] (take i ls) ++ cons_option (fault_at x.number a) []) told)

-- what a line's answer tells, with its fault as a value
module _ {Row : Type 0} where
  pub told_row : (read : Result Row (ReadError TableRule)) (spelled : Result (Option Row) TableRule) (row : Row) → split_answer read ≡ Ok (Ok row) → ReadsAs (λ r. Some r) read spelled → spelled ≡ Ok (Some row)
  told_row (Ok r) spelled row split reads = let same : r ≡ row = cc in reads ∙ ap (λ s. Ok (Some s)) same
  told_row (Err (Fault f)) spelled row split reads = absurd (cc)
  told_row (Err Memory) spelled row split reads = absurd (cc)

  pub told_rule : (read : Result Row (ReadError TableRule)) (spelled : Result (Option Row) TableRule) (rule : TableRule) → split_answer read ≡ Ok (Err rule) → ReadsAs (λ r. Some r) read spelled → spelled ≡ Err rule
  told_rule (Ok r) spelled rule split reads = absurd (cc)
  told_rule (Err (Fault f)) spelled rule split reads = let same : f ≡ rule = cc in reads ∙ ap Err same
  told_rule (Err Memory) spelled rule split reads = absurd (cc)
