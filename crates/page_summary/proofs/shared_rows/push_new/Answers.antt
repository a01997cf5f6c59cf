use Rattle.std.proofs.Common.{◌≡◌, ◌++◌, ◌∙◌, List, [], ◌∷◌, Some, ap, cond, length, subst, sym}
use Rattle.std.specs.BTreeMap.{get_by_text}
use Rattle.std.specs.Str.{bytes_eq}
use Rattle.std.specs.String.{string_bytes}
use Rattle.page_summary.specs.PrivateSharedRows.{ArePlaced}
use Rattle.page_summary.specs.declared.findings.FindingRow.{FindingRow}
use Rattle.page_summary.proofs.Sharing.{placed_more}
use Rattle.page_summary.proofs.shared_rows.push_new.Goals as goal

pub returns-clause-placed : goal.returns-clause-placed
returns-clause-placed c =
    let rows = c.args.rows.now.items in
    let line = c.args.line.now in
    let text = string_bytes c.args.text in
    let counted : c.len.result ≡ length rows = c.len.ensures ∙ c.args.rows.now.ok.0 in
    let one : c.push.new.self ≡ line ∷ [] = c.in_ok-push.ensures.added ∙ ap (λ (some : List FindingRow). some ++ line ∷ []) c.new-row.ensures in
    let grown : c.push-2.new.self.items ≡ rows ++ (line ∷ []) ∷ [] = c.in_ok-push-2.ensures.items ∙ ap (λ (row : List FindingRow). rows ++ row ∷ []) one in
    subst (ArePlaced c.keep_place.new.places) (sym grown)
    (placed_more (get_by_text c.args.places.now) (get_by_text c.keep_place.new.places) rows line text c.requires.text c.requires.placed c.requires.none
    (λ other. c.in_ok-keep_place.ensures other ∙ ap (λ n. cond (bytes_eq text other) (Some n) (get_by_text c.args.places.now other)) counted))
