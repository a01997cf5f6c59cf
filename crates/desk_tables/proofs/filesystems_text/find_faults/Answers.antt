use Rattle.std.proofs.Common.{◌≡◌, ◌∙◌, ◌++◌, ◌∷◌, [], ℕ, List, Some, Ok, Err, ap, length, map, subst, sym}
use Rattle.std.proofs.lemmas.List.{take_all}
use Rattle.std.proofs.lemmas.List.Elements.{All-push}
use Rattle.std.specs.List.{All, IsAmong}
use Rattle.desk_text.specs.Lines.{LogicalLine, logical_lines}
use Rattle.desk_tables.specs.Faults.{IsOnLine}
use Rattle.desk_tables.specs.FileSystems.{mount_points}
use Rattle.desk_tables.specs.FileSystemsText as spec
use Rattle.desk_tables.specs.QuotedLines.{faults_after, line_values}
use Rattle.desk_tables.specs.declared.faults.PlacedFault.{PlacedFault}
use Rattle.desk_tables.specs.declared.filesystems.Mount.{Mount}
use Rattle.desk_tables.proofs.QuotedFaultLemmas.{faulty_faults, faulty_rows, good_faults, good_rows, told_row, told_rule}
use Rattle.desk_tables.proofs.filesystems_text.find_faults.Goals as goal
use Rattle.desk_tables.proofs.filesystems_text.find_faults.Goals.{in-Ok+in_ok-push-in-Ok, in-Err+in_ok-make_fault-in-Err+in_ok-push-in-Err}

pub loop-line-preserved : goal.loop-line-preserved
loop-line-preserved c =
    let ls : List LogicalLine = c.deref-line-items.result.now in
    let i : ℕ = c.loop-line.line-index in
    let x : LogicalLine = c.line-item.result in
    let rows : List Mount = c.loop-line.listed.items in
    let text : ls ≡ logical_lines c.args.text.now = c.deref-line-items.ensures.value ∙ c.in_ok-lines.ensures.lines in
    let same : spec.values_answer x.number (length c.as_slice.result.now) (mount_points c.as_slice.result.now) (line_values x) ≡ spec.row_answer rows x =
    ap (λ (t : List Mount). spec.values_answer x.number (length t) (mount_points t) (line_values x)) c.as_slice.ensures.value in
    elim c.match-branch-3.branch [
      | in-Ok+in_ok-push-in-Ok w ↦
          let good : spec.row_answer rows x ≡ Ok (Some w.in-Ok.mount) =
          sym same ∙ told_row c.read_line.result _ w.in-Ok.mount (sym c.split.ensures ∙ c.in_ok-mount.was ∙ ap Ok w.in-Ok.is) c.read_line.ensures in
          record {
            faults = ap (map (λ (one : PlacedFault). one.fault)) w.found-is ∙ good_faults spec.row_answer ls i x c.loop-line-test.true c.line-item.is rows c.loop-line.invariant.rows w.in-Ok.mount good _ c.loop-line.invariant.faults;
            rows = good_rows spec.row_answer ls i x c.loop-line-test.true c.line-item.is rows c.loop-line.invariant.rows w.in-Ok.mount good _ (ap (λ v. v.items) w.listed-is ∙ w.in_ok-push-in-Ok.ensures.items);
            placed = subst (All (IsOnLine c.args.text.now)) (sym w.found-is) c.loop-line.invariant.placed;
          }
      | in-Err+in_ok-make_fault-in-Err+in_ok-push-in-Err w ↦
          let one : PlacedFault = w.in_ok-make_fault-in-Err.field-0 in
          let told : spec.row_answer rows x ≡ Err w.in-Err.rule =
          sym same ∙ told_rule c.read_line.result _ w.in-Err.rule (sym c.split.ensures ∙ c.in_ok-mount.was ∙ ap Ok w.in-Err.is) c.read_line.ensures in
          let new : c.match-branch-3.found ≡ c.loop-line.found ++ one ∷ [] = w.found-is ∙ w.in_ok-push-in-Err.ensures.added in
          let among : IsAmong (logical_lines c.args.text.now) x = subst (λ lines. IsAmong lines x) text (i, (c.loop-line-test.true, c.line-item.is)) in
          record {
            faults = faulty_faults spec.row_answer ls i x c.loop-line-test.true c.line-item.is rows c.loop-line.invariant.rows w.in-Err.rule told c.loop-line.found _ one w.in_ok-make_fault-in-Err.ensures.fault new c.loop-line.invariant.faults;
            rows = ap (λ v. v.items) w.listed-is ∙ faulty_rows spec.row_answer ls i x c.loop-line-test.true c.line-item.is rows c.loop-line.invariant.rows w.in-Err.rule told;
            placed = subst (All (IsOnLine c.args.text.now)) (sym new) (All-push (IsOnLine c.args.text.now) c.loop-line.found one c.loop-line.invariant.placed (w.in_ok-make_fault-in-Err.ensures.placed c.args.text.now among));
          }
    ]

pub returns-clause-faults : goal.returns-clause-faults
returns-clause-faults c =
    let ls : List LogicalLine = c.deref-line-items.result.now in
    let text : ls ≡ logical_lines c.args.text.now = c.deref-line-items.ensures.value ∙ c.in_ok-lines.ensures.lines in
    c.loop-line.invariant.faults ∙ ap (faults_after spec.row_answer []) (take_all c.loop-line.line-index ls c.loop-line-test.false ∙ text)
