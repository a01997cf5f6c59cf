use Rattle.std.proofs.Common.{List, [], ◌∷◌, ap, get_or, map}
use Rattle.desk_text.specs.Network.{Block}
use Rattle.page_data.specs.Classes.{class_run}
use Rattle.page_maps.proofs.Pictured.{four_maps}
use Rattle.page_maps.proofs.figures.overview_maps.Goals as goal

pub returns : goal.returns
returns c =
    let first = c.index-fixed_networks-0.result in
    let second = c.index-fixed_networks-1.result in
    let third = c.index-fixed_networks-2.result in
    let last = c.index-fixed_networks-3.result in
    let four = λ (some : List Block). get_or some 0 first ∷ get_or some 1 second ∷ get_or some 2 third ∷ get_or some 3 last ∷ [] in
    four_maps (map class_run c.args.runs.now) c.in_ok-small_map.ensures c.in_ok-small_map-2.ensures c.in_ok-small_map-3.ensures c.in_ok-small_map-4.ensures
    (ap four c.fixed_networks.ensures)
