use Rattle.std.proofs.Common.{List, map, subst}
use Rattle.std.specs.String.{string_bytes}
use Rattle.desk_text.specs.Network.{Block}
use Rattle.page_data.specs.Classes.{class_run}
use Rattle.page_maps.specs.Figures.{GainsMaps, most_of_group}
use Rattle.page_maps.proofs.figures.push_group_maps.Goals as goal

pub returns : goal.returns
returns c = record {
  needed = c.in_ok-needed.needed.items;
  are = c.in_ok-needed.ensures.maps;
  maps = subst (λ (some : List Block). GainsMaps (map class_run c.args.runs.now) most_of_group some (string_bytes c.args.page.now) (string_bytes c.push_maps.new.page)) c.as_slice.ensures.value c.in_ok-push_maps.ensures;
}
