-- The bounds of the ranges so far.
use Rattle.std.proofs.Common.{◌≡◌, map, take}
use Rattle.std.specs.List.{flat_map}
use Rattle.desk_text.specs.Address.{number_of}
use Rattle.desk_who.specs.PrivateMostlySame.{bounds_of}
use Rattle.desk_who.specs.Runs.{run_value}
use Rattle.desk_who.proofs.mostly_same.starts_beside.Given as goal

abbrev pub invariant-loop-run : goal.invariant-loop-run
invariant-loop-run g l = map number_of l.starts.items ≡ flat_map (λ run. bounds_of (run_value g.T.Alike.meaning run)) (take l.run-index l.others)
