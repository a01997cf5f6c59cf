use Rattle.std.proofs.Common.{◌≡◌, ◌∙◌, ap, sym, subst, take, List, ℕ, [], Err, None, Ok, Some, Result, cond, ◌++◌, ◌∷◌}
use Rattle.std.proofs.lemmas.List.{take_all}
use Rattle.std.proofs.lemmas.Result.{err_from_is_err_and}
use Rattle.std.specs.Option.{option_or}
use Rattle.std.specs.Str.{bytes_eq}
use Rattle.desk_text.specs.Lines.{LogicalLine, logical_lines}
use Rattle.desk_text.specs.Reading.{Reads, ReadsAs}
use Rattle.desk_text.specs.declared.reading.ReadError.{ReadError}
use Rattle.desk_tables.specs.Custodians as spec
use Rattle.desk_tables.specs.QuotedLines.{line_values, lines_table}
use Rattle.desk_tables.specs.PrivateQuotedLines.{at_line}
use Rattle.desk_tables.specs.declared.custodians.Custodian.{Custodian}
use Rattle.desk_tables.specs.Rules.{TableFault}
use Rattle.desk_tables.proofs.CustodianLemmas.{digest_push, names, next_names}
use Rattle.desk_tables.proofs.QuotedLineLemmas.{exit, faults_on, next_faults, next_rows, row_at, rows_on, whole}
use Rattle.desk_tables.proofs.custodians.read_rows.Goals as goal

pub returns-in_err-row : goal.returns-in_err-row
returns-in_err-row c =
    let ls : List LogicalLine = c.deref-line-items.result.now in
    let i : ℕ = c.loop-line.line-index in
    let x : LogicalLine = c.line-item.result in
    let text : ls ≡ logical_lines c.args.text.now = c.deref-line-items.ensures.value ∙ c.in_ok-lines.ensures.lines in
    let listed : names c.loop-line.rows ≡ spec.names_on (take i ls) = c.loop-line.invariant.listed in
    let N : List (List ℕ) → Type 0 = λ ns. ReadsAs {T = Custodian} (λ row. Some row) c.read_line.result (spec.values_answer ns (line_values x)) in
    let M : ℕ → Type 0 = λ n. ReadsAs {T = Custodian} (λ row. Some row) c.at_line.result (at_line n (spec.line_answer (take i ls) x)) in
    let R : Result Custodian (ReadError TableFault) → Type 0 = λ r. ReadsAs (λ row. Some row) r (at_line x.number (spec.line_answer (take i ls) x)) in
    let P : List LogicalLine → Type 0 = λ lines. Reads (Err c.in_err-row.field-0.0) (lines_table spec.line_answer lines) in
    let told : M x.number = subst M c.number.ensures (c.at_line.ensures (spec.line_answer (take i ls) x) (subst N listed (c.read_line.ensures c.loop-line.rows c.loop-line.invariant.indexed))) in
    let p = err_from_is_err_and c.from_residual-in_err-row.result c.from_residual-in_err-row.ensures.1 in
    rw (p.1, p.2) (subst P text (exit spec.line_answer ls i c.in_err-row.field-0.0 x c.loop-line-test.true c.line-item.is c.loop-line.invariant.sound (subst R c.in_err-row.was told)))

pub loop-line-preserved : goal.loop-line-preserved
loop-line-preserved c =
    let ls : List LogicalLine = c.deref-line-items.result.now in
    let i : ℕ = c.loop-line.line-index in
    let x : LogicalLine = c.line-item.result in
    let listed : names c.loop-line.rows ≡ spec.names_on (take i ls) = c.loop-line.invariant.listed in
    let N : List (List ℕ) → Type 0 = λ ns. ReadsAs {T = Custodian} (λ row. Some row) c.read_line.result (spec.values_answer ns (line_values x)) in
    let M : ℕ → Type 0 = λ n. ReadsAs {T = Custodian} (λ row. Some row) c.at_line.result (at_line n (spec.line_answer (take i ls) x)) in
    let R : Result Custodian (ReadError TableFault) → Type 0 = λ r. ReadsAs (λ row. Some row) r (at_line x.number (spec.line_answer (take i ls) x)) in
    let told : M x.number = subst M c.number.ensures (c.at_line.ensures (spec.line_answer (take i ls) x) (subst N listed (c.read_line.ensures c.loop-line.rows c.loop-line.invariant.indexed))) in
    let good : spec.line_answer (take i ls) x ≡ Ok (Some c.in_ok-row.row) = row_at x.number (spec.line_answer (take i ls) x) c.in_ok-row.row (subst R c.in_ok-row.was told) in
    record {
      sound = next_faults spec.line_answer ls i x c.in_ok-row.row c.loop-line-test.true c.line-item.is good c.loop-line.invariant.sound;
      read = c.in_ok-push.ensures.added ∙ ap (λ rows. rows ++ c.in_ok-row.row ∷ []) c.loop-line.invariant.read ∙ sym (next_rows spec.line_answer ls i x c.in_ok-row.row c.loop-line-test.true c.line-item.is good);
      listed = ap names c.in_ok-push.ensures.added
          ∙ next_names ls i x (spec.names_on (take i ls)) c.loop-line.rows c.in_ok-row.row c.loop-line-test.true c.line-item.is good c.loop-line.invariant.listed;
      indexed = λ q.
          c.in_ok-add_first.ensures q
          ∙ ap (λ o. option_or o (cond (bytes_eq q c.as_str.result.now) (Some c.in_ok-row.row.digest) None)) (c.loop-line.invariant.indexed q)
          ∙ ap (λ n. option_or (spec.digest_of c.loop-line.rows q) (cond (bytes_eq q n) (Some c.in_ok-row.row.digest) None)) c.as_str.ensures
          ∙ digest_push c.loop-line.rows c.in_ok-row.row q
          ∙ ap (λ (rows : List Custodian). spec.digest_of rows q) (sym c.in_ok-push.ensures.added);
    }

pub returns : goal.returns
returns c =
    let ls : List LogicalLine = c.deref-line-items.result.now in
    let text : ls ≡ logical_lines c.args.text.now = c.deref-line-items.ensures.value ∙ c.in_ok-lines.ensures.lines in
    let all : take c.loop-line.line-index ls ≡ ls = take_all c.loop-line.line-index ls c.loop-line-test.false in
    ap (lines_table spec.line_answer) (sym text)
    ∙ whole spec.line_answer ls (ap (faults_on spec.line_answer) (sym all) ∙ c.loop-line.invariant.sound)
    ∙ ap Ok (ap (rows_on spec.line_answer) (sym all) ∙ sym c.loop-line.invariant.read)
