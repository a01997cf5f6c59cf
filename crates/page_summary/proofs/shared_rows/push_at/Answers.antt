use Rattle.std.proofs.Common.{◌≡◌, ◌++◌, ◌<◌, ◌∙◌, ltb, ℕ, List, [], ◌∷◌, length, get_or, set, sym, ap, arith}
use Rattle.std.proofs.lemmas.Bool.{cond-true, lt-ltb}
use Rattle.std.proofs.lemmas.List.{get_or_default}
use Rattle.page_summary.specs.PrivateSharedRows.{with_line_at}
use Rattle.page_summary.specs.declared.findings.FindingRow.{FindingRow}
use Rattle.page_summary.proofs.shared_rows.push_at.Goals as goal

-- the row in this place goes on
goes_on : (rows : List (List FindingRow)) (i : ℕ) (old new : List FindingRow) (line : FindingRow) → i < length rows → old ≡ get_or rows i old
    → new ≡ old ++ line ∷ [] → set rows i new ≡ with_line_at i rows line
goes_on rows i old new line below is added =
    ap (set rows i) (added ∙ ap (λ (row : List FindingRow). row ++ line ∷ []) (is ∙ get_or_default rows i old [] below)) ∙ sym (cond-true (ltb i (length rows)) _ _ (lt-ltb _ _ below))

pub returns-in_ok-push : goal.returns-in_ok-push
returns-in_ok-push c =
    let below : c.args.place < length c.args.rows.now.items = grind (arith, c.in-Some.ensures.variant) in
    goes_on c.args.rows.now.items c.args.place c.in-Some.row.now _ c.args.line.now below c.in-Some.ensures.value c.in_ok-push.ensures.added
