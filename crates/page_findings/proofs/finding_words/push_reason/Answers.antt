use Rattle.std.proofs.Common.{◌≡◌, ◌++◌, OnOk, map, subst, sym}
use Rattle.page_html.specs.Parts.{item_of}
use Rattle.page_findings.specs.FindingWords.{finding_value, reason_items}
use Rattle.page_findings.proofs.finding_words.push_reason.Goals as goal

pub returns-in-ForEverybodyReadOnly : goal.returns-in-ForEverybodyReadOnly
returns-in-ForEverybodyReadOnly c =
    subst
    (λ reason. OnOk c.push_for_everybody.result (map item_of c.push_for_everybody.new.parts.items ≡ map item_of c.args.parts.now.items ++ reason_items (finding_value c.args.finding.now) reason))
    (sym c.in-ForEverybodyReadOnly.is) c.push_for_everybody.ensures

pub returns-in-Wide : goal.returns-in-Wide
returns-in-Wide c =
    subst
    (λ reason. OnOk c.push_all-in-Wide.result (map item_of c.push_all-in-Wide.new.parts.items ≡ map item_of c.args.parts.now.items ++ reason_items (finding_value c.args.finding.now) reason))
    (sym c.in-Wide.is) c.push_all-in-Wide.ensures
