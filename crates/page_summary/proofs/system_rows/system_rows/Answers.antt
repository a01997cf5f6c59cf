use Rattle.std.proofs.Common.{◌≡◌, ◌∙◌, arith, length, subst, sym}
use Rattle.std.proofs.lemmas.List.{length-map}
use Rattle.page_data.specs.Systems.{system_value}
use Rattle.page_summary.specs.SiteData.{site_parts}
use Rattle.page_summary.proofs.Rowed.{AreFirstRows, rows_all, rows_more, rows_none}
use Rattle.page_summary.proofs.system_rows.system_rows.Goals as goal

pub loop-place-init : goal.loop-place-init
loop-place-init c = subst (AreFirstRows (site_parts c.args.site.now) 0) (sym c.new-rows.ensures.items) (rows_none (site_parts c.args.site.now))

pub loop-place-preserved : goal.loop-place-preserved
loop-place-preserved c =
    rows_more (site_parts c.args.site.now) c.loop-place.place c.loop-place.rows.items c.push.new.self.items c.in_ok-system_row.field-0 c.loop-place.invariant
    c.in_ok-push.ensures.items c.in_ok-system_row.ensures

pub returns : goal.returns
returns c =
    let site = c.args.site.now in
    let many : length site.systems.now ≡ length site.policy.now.table = sym (length-map site.systems.now system_value) ∙ c.requires.systems.count in
    rows_all (site_parts site) c.loop-place.place c.loop-place.rows.items c.loop-place.invariant (omega (arith, c.loop-place.auto.place-end, c.loop-place-test.false))
