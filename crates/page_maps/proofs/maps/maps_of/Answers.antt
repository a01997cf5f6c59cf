use Rattle.std.proofs.Common.{◌∙◌, List, ap, map, subst}
use Rattle.std.specs.Prelude.{All}
use Rattle.std.proofs.lemmas.List.{take_all}
use Rattle.std.proofs.lemmas.Result.{IfOk-weaker}
use Rattle.desk_text.specs.Address.{number_of}
use Rattle.desk_text.specs.Network.{Block}
use Rattle.page_data.specs.Classes.{class_run}
use Rattle.page_maps.specs.Maps.{AreMapsFrom, IsWide, map_at}
use Rattle.page_maps.specs.Order.{AreOrdered}
use Rattle.page_maps.proofs.Ordered.{all_ordered}
use Rattle.page_maps.proofs.Seams.{are_maps}
use Rattle.page_maps.proofs.Telling.{Kept}
use Rattle.page_maps.proofs.maps.maps_of.Goals as goal

pub returns-clause-maps : goal.returns-clause-maps
returns-clause-maps c =
    let runs = c.args.runs.now in
    IfOk-weaker c.ordered.result _ (λ maps. AreMapsFrom (map class_run runs) maps.items)
    (λ maps found class_at are. are_maps class_at runs are maps.items
    (subst (λ (given : List Block). AreOrdered given maps.items)
    (c.loop-run.invariant.are ∙ ap (map (λ (run : Kept). map_at (number_of run.first))) (take_all c.loop-run.run-index runs c.loop-run-test.false)) found))
    c.ordered.ensures

pub returns-clause-wide : goal.returns-clause-wide
returns-clause-wide c =
    IfOk-weaker c.ordered.result _ (λ maps. All IsWide maps.items) (λ maps found. all_ordered IsWide c.loop-run.maps.items maps.items found c.loop-run.invariant.wide) c.ordered.ensures
