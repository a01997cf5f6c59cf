use Rattle.std.proofs.Common.{◌<◌, ◌++◌, ◌∙◌, List, [], ap, arith, get_or, length, map, subst, sym}
use Rattle.std.specs.String.{string_bytes}
use Rattle.std.proofs.lemmas.List.{get_or-map}
use Rattle.std.proofs.lemmas.Result.{on_ok_weaker}
use Rattle.page_summary.specs.Overview.{overview}
use Rattle.page_summary.specs.declared.overview.SystemRow.{SystemRow}
use Rattle.page_data.specs.Classes.{AreClassesOfSite, class_run}
use Rattle.page_data.specs.Values.{AreRunsOfSome}
use Rattle.page_maps.specs.Figures.{images_of}
use Rattle.page_summary.specs.Reaching.{IsReachOf}
use Rattle.page_summary.proofs.system_rows.push_overview_of.Goals as goal

pub reach_of-together-requires : goal.reach_of-together-requires
reach_of-together-requires c =
    let site = c.args.site.now in
    let runs = map class_run c.in_ok-classes.classes.items in
    let classes : AreClassesOfSite site.policy.now runs = c.in_ok-classes.ensures site.policy.now c.requires.systems in
    let some : AreRunsOfSome runs = record { value_at = classes.class_at; are = classes.are } in
    subst (λ items. AreRunsOfSome (map class_run items)) (sym c.as_slice.ensures.value) some

pub returns : goal.returns
returns c =
    let site = c.args.site.now in
    let items = c.in_ok-classes.classes.items in
    let together = c.reach_of-together.result in
    let rows = c.in_ok-rows.rows.items in
    let maps_within : 0 < length site.maps.now = omega (arith, c.requires.maps) in
    let maps = sym (get_or-map images_of site.maps.now 0 c.index-site-0.result [] maps_within) in
    on_ok_weaker c.push_overview.result
    (λ ended. record {
      made = record { together = together; rows = rows };
      are = record {
        classes = map class_run items;
        are_classes = c.in_ok-classes.ensures site.policy.now c.requires.systems;
        together = subst (λ given. IsReachOf (map class_run given) (get_or (map images_of site.maps.now) 0 []) together) c.as_slice.ensures.value
            (subst (λ images. IsReachOf (map class_run c.as_slice.result.now) images together) maps c.reach_of-together.ensures);
        rows = c.in_ok-rows.ensures;
      };
      added = ended ∙ ap (λ (given : List SystemRow). string_bytes c.args.page.now ++ overview together given) c.as_slice-2.ensures.value;
    })
    c.push_overview.ensures
