-- The networks so far have their figures.
use Rattle.std.proofs.Common.{map, take}
use Rattle.std.specs.String.{string_bytes}
use Rattle.page_data.specs.Classes.{class_run}
use Rattle.page_maps.specs.PrivateFigures.{GainsFigures}
use Rattle.page_maps.proofs.figures.push_figures.Given as goal

abbrev pub invariant-loop-network : goal.invariant-loop-network
invariant-loop-network l = GainsFigures (map class_run l.runs) (take l.network-index l.networks) (string_bytes l.initial.page) (string_bytes l.page)
