use Rattle.std.proofs.Common.{◌≡◌, ◌==◌, ◌∙◌, List, ap, codes, false, if◌then◌else◌, length, map, rules, sym}
use Rattle.std.proofs.lemmas.List.{length-map}
use Rattle.page_html.specs.Items.{Own, Ranges, Strong}
use Rattle.page_html.specs.Ranges.{ends_of}
use Rattle.page_html.specs.declared.ranges.Span.{Span}
use Rattle.page_lists.specs.NameCells.{span_of, stands_for}
use Rattle.page_lists.proofs.Lent.{spans_again}
use Rattle.page_lists.proofs.uses.stands_for.Goals as goal

told : (ranges : List Span) → (length ranges == 0) ≡ false → Own (Ranges ranges) ≡ stands_for (map ends_of ranges)
told ranges some =
    ap (λ spans. Own (Ranges spans)) (spans_again ranges)
    ∙ sym (ap (λ none. if none then Own (Strong (codes "nobody")) else Own (Ranges (map span_of (map ends_of ranges)))) (ap (λ count. count == 0) (length-map ranges ends_of) ∙ some))

pub returns-else-is_empty : goal.returns-else-is_empty
returns-else-is_empty c = told c.args.ranges.now (search rules)
