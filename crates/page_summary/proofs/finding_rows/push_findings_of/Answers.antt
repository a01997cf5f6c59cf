use Rattle.std.proofs.Common.{◌≡◌, ◌++◌, ◌∙◌, List, ap, map, subst}
use Rattle.std.specs.String.{string_bytes}
use Rattle.std.proofs.lemmas.Result.{on_ok_weaker}
use Rattle.page_findings.specs.Deciding.{deciding_value}
use Rattle.page_findings.specs.Lines.{line_value}
use Rattle.page_summary.specs.declared.findings.FindingRow.{FindingRow}
use Rattle.page_summary.specs.SiteFinding.{site_finding_value, findings_among}
use Rattle.page_summary.specs.Files.{line_values, text_in_force}
use Rattle.page_html.proofs.Gaining.{two_pieces}
use Rattle.page_summary.specs.Findings.{counted_findings, findings, row_value}
use Rattle.page_summary.specs.FindingRows.{row_of}
use Rattle.page_summary.specs.SharedRows.{AreSharedRows}
use Rattle.page_summary.proofs.finding_rows.push_findings_of.Goals as goal

pub returns : goal.returns
returns c =
    let table = c.args.policy.now.table in
    let heads = c.args.heads.now in
    let decided = map deciding_value c.args.deciding.now in
    let found = c.in_ok-found.found.items in
    let told = c.in_ok-told.told.items in
    let texts = c.in_ok-texts.texts.items in
    let standing = c.in_ok-standing.standing.items in
    let rows = c.in_ok-rows.rows.items in
    let in_force : map line_values texts ≡ map (text_in_force heads) table =
    c.in_ok-texts.ensures ∙ ap (map (text_in_force heads)) (c.as_slice-2.ensures ∙ c.filesystems-table.ensures) in
    let are_told : map site_finding_value told ≡ findings_among decided (map line_value found) =
    c.in_ok-told.ensures ∙ ap (λ lines. findings_among decided (map line_value lines)) c.as_slice.ensures.value in
    let are_rows : map row_value standing ≡ map (row_of table (map (text_in_force heads) table)) (findings_among decided (map line_value found)) =
    c.in_ok-standing.ensures ∙ ap (λ t. map (row_of t (map line_values c.as_slice-3.result.now)) (map site_finding_value c.as_slice-4.result.now)) c.filesystems-table.ensures
    ∙ ap (λ lent. map (row_of table (map line_values lent)) (map site_finding_value c.as_slice-4.result.now)) c.as_slice-3.ensures.value
    ∙ ap (λ lines. map (row_of table lines) (map site_finding_value c.as_slice-4.result.now)) in_force
    ∙ ap (λ lent. map (row_of table (map (text_in_force heads) table)) (map site_finding_value lent)) c.as_slice-4.ensures.value
    ∙ ap (map (row_of table (map (text_in_force heads) table))) are_told in
    let old = string_bytes c.args.page.now in
    let counted = string_bytes c.push_counted_findings.new.page in
    on_ok_weaker c.push_findings.result
    (λ ended. record {
      made = record { lines = standing; rows = rows };
      are = record {
        found = map line_value found;
        are = c.in_ok-found.ensures;
        told = are_rows;
        shared = subst (λ (lines : List FindingRow). AreSharedRows lines rows) c.as_slice-5.ensures.value c.in_ok-rows.ensures;
      };
      added = two_pieces old counted (string_bytes c.push_findings.new.page) (counted_findings standing) (findings rows)
          (c.in_ok-push_counted_findings.ensures ∙ ap (λ (lines : List FindingRow). old ++ counted_findings lines) c.as_slice-6.ensures.value)
          (ended ∙ ap (λ (rs : List (List FindingRow)). counted ++ findings rs) c.as_slice-7.ensures.value);
    })
    c.push_findings.ensures
