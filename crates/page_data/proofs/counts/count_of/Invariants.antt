-- The runs so far.
use Rattle.std.proofs.Common.{◌≡◌, map, take}
use Rattle.desk_text.specs.Address.{number_of}
use Rattle.page_data.specs.Classes.{class_run}
use Rattle.page_data.specs.PrivateCounts.{shared_by_class}
use Rattle.page_data.proofs.counts.count_of.Given as goal

abbrev pub invariant-loop-run : goal.invariant-loop-run
invariant-loop-run l = l.count ≡ shared_by_class l.class (number_of l.first) (number_of l.last) (map class_run (take l.run-index l.runs))
