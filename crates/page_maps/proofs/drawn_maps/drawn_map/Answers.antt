use Rattle.std.proofs.Common.{◌+◌, ◌-◌, ◌∙◌, List, ap, length, map, subst, sym}
use Rattle.desk_text.specs.Address.{number_of}
use Rattle.desk_text.specs.Network.{last_of}
use Rattle.page_data.specs.Classes.{class_run}
use Rattle.page_data.specs.Counts.{AreCountsFrom}
use Rattle.page_maps.specs.Cells.{AreCellsFrom}
use Rattle.page_maps.specs.declared.cells.Cell.{Cell}
use Rattle.page_maps.proofs.Sized.{part_of_network}
use Rattle.page_maps.proofs.drawn_maps.drawn_map.Goals as goal

pub returns-clause-drawn : goal.returns-clause-drawn
returns-clause-drawn c =
    let runs = map class_run c.args.runs.now in
    let counts = c.counts_within-counts.result in
    record {
      cells = subst (λ (some : List Cell). AreCellsFrom runs c.args.network some) (sym c.from_vec.ensures) c.in_ok-cells.ensures;
      counts = subst (λ last. AreCountsFrom runs c.args.network.first last counts) c.last.ensures
          (subst (λ first. AreCountsFrom runs first (number_of c.last.result) counts) c.first.ensures.value c.counts_within-counts.ensures);
    }

pub returns-clause-drawable : goal.returns-clause-drawable
returns-clause-drawable c =
    let network = c.args.network in
    let some = c.requires.runs in
    let counts = c.counts_within-counts.result in
    let sum = c.counts_add_up.ensures some.value_at (number_of c.first.result) (number_of c.last.result) counts (c.counts_within-counts.ensures some.value_at some.are) in
    record {
      wide = c.requires.wide;
      cells = ap length c.from_vec.ensures ∙ (c.in_ok-cells.ensures some.value_at some.are).count;
      granted = part_of_network network counts (sum ∙ ap (λ last. last + 1 - number_of c.first.result) c.last.ensures ∙ ap (λ first. last_of network + 1 - first) c.first.ensures.value);
    }
