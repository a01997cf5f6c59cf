use Rattle.std.proofs.Common.{◌+◌, ◌∙◌, [], ap, arith, map, sym, subst}
use Rattle.std.specs.Prelude.{true}
use Rattle.std.proofs.lemmas.List.{map-append}
use Rattle.page_maps.specs.Figures.{AreOverviewMaps, images_of}
use Rattle.page_data.specs.Classes.{class_run}
use Rattle.page_data.specs.Systems.{system_value}
use Rattle.page_data.specs.Values.{AreRunsOfSome}
use Rattle.page_site.proofs.OfSite.{AreMapsAt, all_maps, as_many, classes_at, first_more, maps_later, some_runs}
use Rattle.page_site.proofs.found_in_site.small_maps.Goals as goal

pub overview_maps-requires : goal.overview_maps-requires
overview_maps-requires c =
    subst (λ items. AreRunsOfSome (map class_run items)) (sym c.as_slice.ensures.value)
    (some_runs c.args.policy.now (λ path. true) (map class_run c.in_ok-classes.classes.items) (c.in_ok-classes.ensures c.args.policy.now c.requires))

pub overview_maps-requires-in-loop-system : goal.overview_maps-requires-in-loop-system
overview_maps-requires-in-loop-system c =
    subst (λ items. AreRunsOfSome (map class_run items)) (sym c.as_slice-in-loop-system.ensures)
    (classes_at c.args.policy.now c.args.systems.now c.requires c.loop-system.system-index c.system-item.result c.loop-system-test.true c.system-item.is)

pub loop-system-preserved : goal.loop-system-preserved
loop-system-preserved c =
    let systems = c.args.systems.now in
    let fs = c.loop-system.system-index in
    let system = c.system-item.result in
    let maps = c.loop-system.maps.items in
    let own = c.in_ok-own.own in
    first_more (AreMapsAt (map class_run c.in_ok-classes.classes.items) (map system_value systems)) [] (fs + 1) (map images_of maps) (map images_of c.push-in-loop-system.new.self.items) (images_of own)
    c.loop-system.invariant (ap (map images_of) c.in_ok-push-2.ensures.items ∙ map-append images_of maps _)
    (maps_later (map class_run c.in_ok-classes.classes.items) systems fs system (images_of own) c.loop-system-test.true c.system-item.is
    (subst (λ items. AreOverviewMaps (map class_run items) (images_of own)) c.as_slice-in-loop-system.ensures c.in_ok-own.ensures))

pub returns : goal.returns
returns c =
    let content = c.args.policy.now in
    let systems = c.args.systems.now in
    let many = as_many content systems c.requires in
    all_maps content (map class_run c.in_ok-classes.classes.items) (map system_value systems) c.loop-system.system-index (map images_of c.loop-system.maps.items)
    (c.in_ok-classes.ensures content c.requires) c.loop-system.invariant (omega (arith, c.loop-system.auto.system-index-end, c.loop-system-test.false))
