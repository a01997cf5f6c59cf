use Rattle.std.proofs.Common.{◌≡◌, ◌+◌, ◌++◌, ◌∙◌, List, [], ◌∷◌, ap, subst, sym, take}
use Rattle.std.proofs.lemmas.List.{take_all, take_more}
use Rattle.page_data.proofs.Grouped.{grouped_more}
use Rattle.page_summary.specs.SharedRows.{AreSharedRows, are_told_alike}
use Rattle.page_summary.specs.declared.findings.FindingRow.{FindingRow}
use Rattle.page_summary.proofs.Sharing.{along, back, itself, same_added}
use Rattle.page_summary.proofs.shared_rows.rows_of_findings.Goals as goal

pub loop-line-preserved : goal.loop-line-preserved
loop-line-preserved c =
    let lines = c.args.lines.now in
    let i = c.loop-line.line-index in
    let line = c.line-item.result in
    let rows = c.loop-line.rows.items in
    let after = c.add_line.new.rows.items in
    let next : take (i + 1) lines ≡ take i lines ++ line ∷ [] = take_more lines i line c.loop-line-test.true ∙ ap (λ (one : FindingRow). take i lines ++ one ∷ []) (sym c.line-item.is) in
    record {
      placed = c.in_ok-add_line.ensures.placed;
      shared = subst (λ (some : List FindingRow). AreSharedRows some after) (sym next)
          (subst (AreSharedRows (take i lines ++ line ∷ [])) (sym (c.in_ok-add_line.ensures.added ∙ same_added line rows))
          (grouped_more are_told_alike itself back along (take i lines) rows line c.loop-line.invariant.shared));
    }

pub returns : goal.returns
returns c =
    subst (λ (some : List FindingRow). AreSharedRows some c.loop-line.rows.items) (take_all c.loop-line.line-index c.args.lines.now c.loop-line-test.false) c.loop-line.invariant.shared
