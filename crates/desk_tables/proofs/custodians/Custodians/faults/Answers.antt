use Rattle.std.proofs.Common.{◌≡◌, ◌∙◌, ◌++◌, ◌∷◌, [], ℕ, List, Some, Ok, Err, ap, inl, map, refl, subst, sym, take}
use Rattle.std.proofs.lemmas.List.Elements.{All-push}
use Rattle.std.specs.BTreeMap.{get_by_text}
use Rattle.std.specs.List.{All, IsAmong}
use Rattle.desk_text.specs.Lines.{LogicalLine, logical_lines}
use Rattle.desk_tables.specs.Custodians as spec
use Rattle.desk_tables.specs.Faults.{IsOnLineOrWhole}
use Rattle.desk_tables.specs.QuotedLines.{with_lines}
use Rattle.desk_tables.specs.declared.custodians.Custodian.{Custodian}
use Rattle.desk_tables.specs.declared.faults.PlacedFault.{PlacedFault}
use Rattle.desk_tables.proofs.QuotedFaultLemmas.{faulty_faults, faulty_rows, good_faults, good_rows, told_row, told_rule}
use Rattle.desk_tables.proofs.custodians.Custodians.faults.Goals as goal
use Rattle.desk_tables.proofs.custodians.Custodians.faults.Goals.{in-Ok+in_ok-add_digest-in-Ok, in-Err+in_ok-make_fault-in-Err+in_ok-push-in-Err}

pub loop-line-preserved : goal.loop-line-preserved
loop-line-preserved c =
    let ls : List LogicalLine = c.deref-line-items.result.now in
    let i : ℕ = c.loop-line.line-index in
    let x : LogicalLine = c.line-item.result in
    let rows : List Custodian = with_lines spec.row_answer [] (take i ls) in
    let text : ls ≡ logical_lines c.args.text.now = c.deref-line-items.ensures.value ∙ c.in_ok-lines.ensures.lines in
    elim c.match-branch-3.branch [
      | in-Ok+in_ok-add_digest-in-Ok w ↦
          let good : spec.row_answer rows x ≡ Ok (Some w.in-Ok.row) =
          told_row c.read_line.result _ w.in-Ok.row (sym c.split.ensures ∙ c.in_ok-row.was ∙ ap Ok w.in-Ok.is) (c.read_line.ensures rows c.loop-line.invariant.indexed) in
          record {
            faults = ap (map (λ (one : PlacedFault). one.fault)) w.found-is ∙ good_faults spec.row_answer ls i x c.loop-line-test.true c.line-item.is rows refl w.in-Ok.row good _ c.loop-line.invariant.faults;
            indexed = λ q.
                ap (λ index. get_by_text index q) w.digests-is
                ∙ w.in_ok-add_digest-in-Ok.ensures rows c.loop-line.invariant.indexed q
                ∙ ap (λ rs. spec.digest_of rs q) (good_rows spec.row_answer ls i x c.loop-line-test.true c.line-item.is rows refl w.in-Ok.row good _ refl);
            placed = subst (All (IsOnLineOrWhole c.args.text.now)) (sym w.found-is) c.loop-line.invariant.placed;
          }
      | in-Err+in_ok-make_fault-in-Err+in_ok-push-in-Err w ↦
          let one : PlacedFault = w.in_ok-make_fault-in-Err.field-0 in
          let told : spec.row_answer rows x ≡ Err w.in-Err.rule =
          told_rule c.read_line.result _ w.in-Err.rule (sym c.split.ensures ∙ c.in_ok-row.was ∙ ap Ok w.in-Err.is) (c.read_line.ensures rows c.loop-line.invariant.indexed) in
          let new : c.match-branch-3.found ≡ c.loop-line.found ++ one ∷ [] = w.found-is ∙ w.in_ok-push-in-Err.ensures.added in
          let among : IsAmong (logical_lines c.args.text.now) x = subst (λ lines. IsAmong lines x) text (i, (c.loop-line-test.true, c.line-item.is)) in
          record {
            faults = faulty_faults spec.row_answer ls i x c.loop-line-test.true c.line-item.is rows refl w.in-Err.rule told c.loop-line.found _ one w.in_ok-make_fault-in-Err.ensures.fault new c.loop-line.invariant.faults;
            indexed = λ q.
                ap (λ index. get_by_text index q) w.digests-is
                ∙ c.loop-line.invariant.indexed q
                ∙ ap (λ rs. spec.digest_of rs q) (faulty_rows spec.row_answer ls i x c.loop-line-test.true c.line-item.is rows refl w.in-Err.rule told);
            placed = subst (All (IsOnLineOrWhole c.args.text.now)) (sym new) (All-push (IsOnLineOrWhole c.args.text.now) c.loop-line.found one c.loop-line.invariant.placed (inl (w.in_ok-make_fault-in-Err.ensures.placed c.args.text.now among)));
          }
    ]
