use Rattle.std.proofs.Common.{◌++◌, ◌∷◌, ◌∙◌, [], ap, map, refl}
use Rattle.page_findings.specs.Joining.{comma}
use Rattle.page_html.specs.Parts.{item_of}
use Rattle.page_findings.proofs.Gathering.{two_parts}
use Rattle.page_places.specs.Openings.{opening_items}
use Rattle.page_places.specs.declared.openings.PlaceOpening.{PlaceOpening}
use Rattle.page_places.proofs.Gathering.{gathers, one_more}
use Rattle.page_places.proofs.openings.push_later.Goals as goal

pub loop-one-preserved : goal.loop-one-preserved
loop-one-preserved c =
    let now = map item_of c.loop-one.parts.items in
    gathers c.args.openings.now c.loop-one.one-index c.one-item.result (λ one. comma ∷ opening_items c.args.fs.0 one) (map item_of c.args.parts.now.items) now
    (map item_of c.push_opening.new.parts.items) c.loop-one-test.true c.loop-one.invariant
    (two_parts now (map item_of c.push.new.self.items) (map item_of c.push_opening.new.parts.items) (comma ∷ []) _
    (one_more item_of c.loop-one.parts.items c.push.new.self.items _ comma c.in_ok-push.ensures.items refl) c.in_ok-push_opening.ensures
    ∙ ap (λ (one : PlaceOpening). now ++ comma ∷ opening_items c.args.fs.0 one) c.one-item.is)
