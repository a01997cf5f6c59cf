-- The maps so far.
use Rattle.std.proofs.Common.{◌+◌, [], map}
use Rattle.page_data.specs.Classes.{class_run}
use Rattle.page_data.specs.Systems.{system_value}
use Rattle.page_maps.specs.Figures.{images_of}
use Rattle.page_site.proofs.OfSite.{AreMapsAt, AreFirst}
use Rattle.page_site.proofs.found_in_site.small_maps.Given as goal

abbrev pub invariant-loop-system : goal.invariant-loop-system
invariant-loop-system l = AreFirst (AreMapsAt (map class_run l.classes.items) (map system_value l.systems)) [] (l.system-index + 1) (map images_of l.maps.items)
