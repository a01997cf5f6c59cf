use Rattle.std.proofs.Common.{◌++◌, ◌∷◌, ◌∙◌, ap, map, refl}
use Rattle.std.specs.List.{flat_map}
use Rattle.std.proofs.lemmas.List.{take_all}
use Rattle.page_html.specs.Items.{Break, Own}
use Rattle.page_html.specs.Parts.{item_of}
use Rattle.page_lists.proofs.Gathering.{gathers_values, one_more}
use Rattle.page_summary.specs.Findings.{place, row_value}
use Rattle.page_summary.proofs.finding_cells.push_later_places.Goals as goal

pub loop-line-preserved : goal.loop-line-preserved
loop-line-preserved c =
    let now = map item_of c.loop-line.parts.items in
    let marked = map item_of c.push.new.self.items in
    gathers_values row_value c.args.lines.now c.loop-line.line-index c.line-item.result (Own Break) place (map item_of c.args.parts.now.items) now marked
    (map item_of c.push_place.new.parts.items) c.loop-line-test.true c.loop-line.invariant
    (one_more item_of c.loop-line.parts.items c.push.new.self.items _ (Own Break) c.in_ok-push.ensures.items refl)
    (c.in_ok-push_place.ensures ∙ ap (λ line. marked ++ place (row_value line)) c.line-item.is)

pub returns : goal.returns
returns c =
    c.loop-line.invariant
    ∙ ap (λ some. map item_of c.args.parts.now.items ++ flat_map (λ line. Own Break ∷ place line) (map row_value some))
    (take_all c.loop-line.line-index c.args.lines.now c.loop-line-test.false)
