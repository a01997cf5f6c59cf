use Rattle.std.proofs.Common.{◌++◌, ◌∷◌, ◌∙◌, [], List, ap, append_assoc, map, ℕ}
use Rattle.page_html.specs.Items.{Break, Code, Item, Number, Own, Terms}
use Rattle.page_html.specs.Parts.{item_of}
use Rattle.page_findings.specs.FindingWords.{finding_items, finding_value}
use Rattle.page_findings.proofs.Gathering.{all_more}
use Rattle.page_summary.proofs.shared_rows.told_of_names.Goals as goal

pub returns : goal.returns
returns c =
    let line = c.args.line.now in
    let why = c.in_ok-parts.parts.items in
    let names = c.args.names.now in
    let grants : List (Item (List ℕ)) = Own Break ∷ Own (Terms line.told.finding.terms.now) ∷ Own Break ∷ Own (Number line.told.count) ∷ Own Break ∷ [] in
    c.in_ok-push_names.ensures
    ∙ ap (λ (items : List (Item (List ℕ))). items ++ map Code names)
    (all_more item_of why c.extend_from_slice.new.self.items _ c.in_ok-extend_from_slice.ensures.items ∙ ap (λ (items : List (Item (List ℕ))). items ++ grants) c.in_ok-parts.ensures)
    ∙ append_assoc (finding_items (finding_value line.told.finding)) grants (map Code names)
