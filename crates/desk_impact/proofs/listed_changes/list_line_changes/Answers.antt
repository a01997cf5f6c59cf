use Rattle.std.proofs.Common.{◌<◌, ◌∙◌, ap, arith, length, map, subst}
use Rattle.std.specs.Prelude.{IfOk, Some}
use Rattle.std.proofs.lemmas.Result.{IfOk-weaker}
use Rattle.desk_policy.specs.Policy.{Content, rows_of, with_lines_of}
use Rattle.desk_impact.specs.ListedChanges.{AreListed, listed_place}
use Rattle.desk_impact.specs.Places.{place_of}
use Rattle.desk_impact.specs.PrivateListedChanges.{AreListedAmong}
use Rattle.desk_impact.specs.PrivatePlaces.{ArePlacesWith}
use Rattle.desk_impact.proofs.Listing.{lines_listed}
use Rattle.desk_impact.proofs.listed_changes.list_line_changes.Goals as goal

pub returns : goal.returns
returns g c =
    let old = g.V.PolicyView.in_force c.args.before.now in
    let new = g.V.PolicyView.in_force c.args.lines.now in
    let fs = c.args.fs in
    let places = map place_of c.in_ok-places.places.items in
    let within : fs.0 < length old.rows = subst (λ (content : Content). fs.0 < length content.rows) c.policy-policy.ensures
    (omega (arith, c.requires.fs, ap (λ (content : Content). length content.table) c.policy-policy.ensures, c.rows_by_filesystem-rows.ensures.each, ap length c.rows_by_filesystem-rows.ensures.rows)) in
    let with_lines : ArePlacesWith old (rows_of new fs.0) places =
    subst (λ rows. ArePlacesWith old rows places) (c.rows.ensures ∙ ap (λ content. rows_of content fs.0) c.policy.ensures)
    (subst (λ content. ArePlacesWith content c.rows.result.now places) c.policy-policy.ensures c.in_ok-places.ensures) in
    IfOk-weaker c.list_among.result (λ found. AreListedAmong old new (Some fs) places (map listed_place found.items)) (λ found. AreListed old (with_lines_of old fs.0 new) (map listed_place found.items))
    (λ found is. lines_listed c.same_sayings_are_no_change.ensures old new fs c.requires.table within places (map listed_place found.items) with_lines is)
    (subst (λ items. IfOk c.list_among.result (λ found. AreListedAmong old new (Some fs) (map place_of items) (map listed_place found.items))) c.as_slice.ensures.value c.list_among.ensures)
