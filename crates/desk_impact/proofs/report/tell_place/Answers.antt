use Rattle.std.proofs.Common.{◌≡◌, ◌++◌, ◌∙◌, List, ap, arith, cond, map, refl}
use Rattle.std.specs.String.{string_bytes}
use Rattle.std.proofs.lemmas.List.{length-map}
use Rattle.desk_impact.specs.Impact.{ThoseThatMatter, change_value}
use Rattle.desk_impact.specs.declared.changes.TwoVerdicts.{TwoVerdicts}
use Rattle.desk_who.specs.declared.runs.Run.{Run}
use Rattle.desk_impact.specs.Places.{place_of}
use Rattle.desk_impact.proofs.Reporting.{fewer, section_is}
use Rattle.desk_impact.proofs.report.tell_place.Goals as goal

pub overflow_sub-result : goal.overflow_sub-result
overflow_sub-result g c =
    let changes = c.args.changes.now in
    let mattering = c.in_ok-mattering.mattering.items in
    let those : ThoseThatMatter (map change_value changes) (map change_value mattering) = c.in_ok-mattering.ensures in
    let few = fewer changes mattering those in
    omega arith

pub returns : goal.returns
returns g c =
    let changes = c.args.changes.now in
    let mattering = c.in_ok-mattering.mattering.items in
    let old = g.V.PolicyView.in_force c.args.before.now in
    let new = g.V.PolicyView.in_force c.args.after.now in
    let those : ThoseThatMatter (map change_value changes) (map change_value mattering) = c.in_ok-mattering.ensures in
    let shown : c.listed.result.now ≡ cond c.args.all changes mattering =
    c.listed.ensures ∙ ap (λ (some : List (Run TwoVerdicts)). cond c.args.all changes some) c.as_slice.ensures.value in
    let count = length-map changes change_value in
    let count' = length-map mattering change_value in
    record {
      found = record { place = place_of c.args.place; changes = map change_value changes; mattering = map change_value mattering };
      place_is = refl;
      changes = record { impact = c.requires; those = those };
      text = c.in_ok-push_section.ensures
          ∙ ap (λ t. string_bytes c.args.text.now ++ t) (section_is c.policy.result.now c.policy-2.result.now old new (place_of c.args.place) c.args.all c.listed.result.now changes mattering c.policy.ensures c.policy-2.ensures shown);
      mattering = omega arith;
      others = omega arith;
    }
