use Rattle.std.proofs.Common.{◌≡◌, ◌∙◌, ap, map, sym, take_all}
use Rattle.page_findings.proofs.Mapped.{map_twice}
use Rattle.page_findings.specs.Flavours.{use_value}
use Rattle.page_findings.specs.declared.flavours.FlavourUse.{FlavourUse}
use Rattle.page_summary.specs.FlavoursRows.{all_mentioned, row_of, row_value, row_with, systems_of}
use Rattle.page_summary.proofs.Valued.{same_at, told_more}
use Rattle.page_summary.proofs.flavours_rows.flavours_rows.Goals as goal

pub loop-place-preserved : goal.loop-place-preserved
loop-place-preserved c = λ table same.
    let uses = c.args.uses.now in
    let place = c.loop-place.place in
    let one = c.index-uses-place.result in
    let systems : all_mentioned c.as_slice.result.now ≡ systems_of table (use_value one) =
    ap all_mentioned c.as_slice.ensures
    ∙ same_at all_mentioned (λ (other : FlavourUse). systems_of table (use_value other)) c.args.mentions.now uses place c.index-mentions-place.result one
    (same ∙ map_twice use_value (systems_of table) uses) c.loop-place-test.true c.index-mentions-place.is c.index-uses-place.is in
    told_more row_value (λ (other : FlavourUse). row_of table (use_value other)) uses place one c.loop-place.rows.items c.push.new.self.items c.flavours_row.result
    c.loop-place-test.true c.index-uses-place.is (c.loop-place.invariant table same) c.in_ok-push.ensures.items (c.flavours_row.ensures ∙ ap (row_with (use_value one)) systems)

pub returns : goal.returns
returns c = λ table same.
    c.loop-place.invariant table same
    ∙ ap (map (λ (one : FlavourUse). row_of table (use_value one))) (take_all c.loop-place.place c.args.uses.now c.loop-place-test.false)
    ∙ sym (map_twice use_value (row_of table) c.args.uses.now)
