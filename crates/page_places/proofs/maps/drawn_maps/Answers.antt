use Rattle.std.proofs.Common.{[], map, subst, sym}
use Rattle.std.specs.String.{string_bytes}
use Rattle.page_data.specs.Class.{class_of}
use Rattle.page_data.specs.Classes.{class_run}
use Rattle.page_data.specs.Values.{AreRunsOfSome}
use Rattle.page_maps.specs.Figures.{GainsGroupMaps}
use Rattle.page_places.proofs.maps.drawn_maps.Goals as goal

pub push_group_maps-requires : goal.push_group_maps-requires
push_group_maps-requires c =
    subst (λ items. AreRunsOfSome (map class_run items)) (sym c.as_slice.ensures.value)
    (record { value_at = λ address. class_of (c.requires.value_at address); are = c.in_ok-runs.ensures c.requires.value_at c.requires.are })

pub returns : goal.returns
returns c =
    record {
      runs = map class_run c.in_ok-runs.runs.items;
      are = c.in_ok-runs.ensures;
      drawn = subst (λ items. GainsGroupMaps (map class_run items) [] (string_bytes c.push_group_maps.new.page)) c.as_slice.ensures.value
          (subst (λ text. GainsGroupMaps (map class_run c.as_slice.result.now) text (string_bytes c.push_group_maps.new.page)) c.new-maps.ensures.bytes c.in_ok-push_group_maps.ensures);
    }
