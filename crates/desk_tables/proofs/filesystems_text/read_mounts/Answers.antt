use Rattle.std.proofs.Common.{◌≡◌, ◌∙◌, ap, sym, subst, take, length, List, ℕ, [], Err, Ok, Option, Some, Result, ◌++◌, ◌∷◌}
use Rattle.std.proofs.lemmas.List.{take_all, take_more}
use Rattle.std.proofs.lemmas.Result.{err_from_is_err_and}
use Rattle.std.specs.List.{insert, prefix_len}
use Rattle.desk_text.specs.Lines.{LogicalLine, logical_lines}
use Rattle.desk_text.specs.Reading.{Reads, ReadsAs}
use Rattle.desk_text.specs.declared.reading.ReadError.{ReadError}
use Rattle.desk_tables.specs.FileSystemsText as spec
use Rattle.desk_tables.specs.FileSystems.{is_before, mount_points}
use Rattle.desk_tables.specs.QuotedLines.{line_values, lines_table}
use Rattle.desk_tables.specs.PrivateQuotedLines.{at_line}
use Rattle.desk_tables.specs.declared.filesystems.Mount.{Mount}
use Rattle.desk_tables.specs.Rules.{TableFault}
use Rattle.desk_tables.specs.declared.rules.TableRule.{TableRule}
use Rattle.desk_tables.proofs.FileSystemsTextLemmas.{IsTableBehind, fault_in_order, insert-put, next_behind, next_table, same_answer}
use Rattle.desk_tables.proofs.QuotedLineLemmas.{exit, faults_on, next_faults, next_rows, row_at, rows_on, whole}
use Rattle.desk_tables.proofs.filesystems_text.read_mounts.Goals as goal

pub returns-in_err-mount-clause-read : goal.returns-in_err-mount-clause-read
returns-in_err-mount-clause-read c =
    let ls : List LogicalLine = c.deref-line-items.result.now in
    let i : ℕ = c.loop-line.line-index in
    let x : LogicalLine = c.line-item.result in
    let table : List Mount = c.loop-line.table.items in
    let same : spec.values_answer x.number (length c.as_slice.result.now) (mount_points c.as_slice.result.now) (line_values x) ≡ spec.line_answer (take i ls) x =
    ap (λ t. spec.values_answer x.number (length t) (mount_points t) (line_values x)) c.as_slice.ensures.value
    ∙ ap (λ n. spec.values_answer x.number n (mount_points table) (line_values x)) c.loop-line.invariant.behind.counted
    ∙ same_answer x.number (length (take i ls)) (mount_points table) (spec.paths_on (take i ls)) (line_values x) c.loop-line.invariant.behind.listed in
    let N : Result (Option Mount) TableRule → Type 0 = λ a. ReadsAs {T = Mount} (λ row. Some row) c.read_line.result a in
    let M : ℕ → Type 0 = λ n. ReadsAs {T = Mount} (λ row. Some row) c.at_line.result (at_line n (spec.line_answer (take i ls) x)) in
    let R : Result Mount (ReadError TableFault) → Type 0 = λ r. ReadsAs (λ row. Some row) r (at_line x.number (spec.line_answer (take i ls) x)) in
    let told : M x.number = subst M c.number.ensures (c.at_line.ensures (spec.line_answer (take i ls) x) (subst N same c.read_line.ensures)) in
    let text : ls ≡ logical_lines c.args.text.now = c.deref-line-items.ensures.value ∙ c.in_ok-lines.ensures.lines in
    let P : List LogicalLine → Type 0 = λ lines. Reads {X = List Mount} (Err c.in_err-mount.field-0.0) (spec.in_order (lines_table spec.line_answer lines)) in
    let p = err_from_is_err_and c.from_residual-in_err-mount.result c.from_residual-in_err-mount.ensures.1 in
    let fault = exit spec.line_answer ls i c.in_err-mount.field-0.0 x c.loop-line-test.true c.line-item.is c.loop-line.invariant.sound (subst R c.in_err-mount.was told) in
    rw (p.1, p.2) (subst P text (fault_in_order c.in_err-mount.field-0.0 (lines_table spec.line_answer ls) fault))

pub loop-line-preserved : goal.loop-line-preserved
loop-line-preserved c =
    let ls : List LogicalLine = c.deref-line-items.result.now in
    let i : ℕ = c.loop-line.line-index in
    let x : LogicalLine = c.line-item.result in
    let table : List Mount = c.loop-line.table.items in
    let same : spec.values_answer x.number (length c.as_slice.result.now) (mount_points c.as_slice.result.now) (line_values x) ≡ spec.line_answer (take i ls) x =
    ap (λ t. spec.values_answer x.number (length t) (mount_points t) (line_values x)) c.as_slice.ensures.value
    ∙ ap (λ n. spec.values_answer x.number n (mount_points table) (line_values x)) c.loop-line.invariant.behind.counted
    ∙ same_answer x.number (length (take i ls)) (mount_points table) (spec.paths_on (take i ls)) (line_values x) c.loop-line.invariant.behind.listed in
    let N : Result (Option Mount) TableRule → Type 0 = λ a. ReadsAs {T = Mount} (λ row. Some row) c.read_line.result a in
    let M : ℕ → Type 0 = λ n. ReadsAs {T = Mount} (λ row. Some row) c.at_line.result (at_line n (spec.line_answer (take i ls) x)) in
    let R : Result Mount (ReadError TableFault) → Type 0 = λ r. ReadsAs (λ row. Some row) r (at_line x.number (spec.line_answer (take i ls) x)) in
    let told : M x.number = subst M c.number.ensures (c.at_line.ensures (spec.line_answer (take i ls) x) (subst N same c.read_line.ensures)) in
    let mount : Mount = c.in_ok-mount.mount in
    let good : spec.line_answer (take i ls) x ≡ Ok (Some mount) = row_at x.number (spec.line_answer (take i ls) x) mount (subst R c.in_ok-mount.was told) in
    let place : c.place_of-place.result ≡ prefix_len (λ next. is_before next.path mount.path) table = c.place_of-place.ensures.count ∙ ap (prefix_len (λ next. is_before next.path mount.path)) c.as_slice-in-loop-line.ensures.value in
    let new : c.insert.new.self.items ≡ spec.put mount table = c.in_ok-insert.ensures.items ∙ ap (λ n. insert table n mount) place ∙ insert-put mount table in
    record {
      sound = next_faults spec.line_answer ls i x mount c.loop-line-test.true c.line-item.is good c.loop-line.invariant.sound;
      read = new ∙ next_table table (rows_on spec.line_answer (take i ls)) mount c.loop-line.invariant.read ∙ ap (spec.put_all []) (sym (next_rows spec.line_answer ls i x mount c.loop-line-test.true c.line-item.is good));
      behind =
          subst (λ so_far. IsTableBehind so_far c.insert.new.self.items) (ap (λ l. take i ls ++ l ∷ []) c.line-item.is ∙ sym (take_more ls i x c.loop-line-test.true))
          (subst (IsTableBehind (take i ls ++ x ∷ [])) (sym new) (next_behind (take i ls) x table mount c.loop-line.invariant.behind good));
    }

pub returns-clause-read : goal.returns-clause-read
returns-clause-read c =
    let ls : List LogicalLine = c.deref-line-items.result.now in
    let text : ls ≡ logical_lines c.args.text.now = c.deref-line-items.ensures.value ∙ c.in_ok-lines.ensures.lines in
    let all : take c.loop-line.line-index ls ≡ ls = take_all c.loop-line.line-index ls c.loop-line-test.false in
    ap (λ lines. spec.in_order (lines_table spec.line_answer lines)) (sym text)
    ∙ ap spec.in_order (whole spec.line_answer ls (ap (faults_on spec.line_answer) (sym all) ∙ c.loop-line.invariant.sound))
    ∙ ap Ok (ap (λ lines. spec.put_all [] (rows_on spec.line_answer lines)) (sym all) ∙ sym c.loop-line.invariant.read)

pub returns-clause-ascending : goal.returns-clause-ascending
returns-clause-ascending c = c.loop-line.invariant.behind.ascending

pub returns-clause-few : goal.returns-clause-few
returns-clause-few c = c.loop-line.invariant.behind.few
