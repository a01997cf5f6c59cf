-- Those of the runs so far that have a value.
use Rattle.std.proofs.Common.{◌≡◌, map, take}
use Rattle.std.specs.Option.{option_map}
use Rattle.desk_who.specs.Runs.{run_value, those_with_value}
use Rattle.desk_who.proofs.runs.those_with_value.Given as goal

abbrev pub invariant-loop-run : goal.invariant-loop-run
invariant-loop-run g l = map (run_value g.T.Alike.meaning) l.found.items ≡ those_with_value (map (run_value (option_map g.T.Alike.meaning)) (take l.run-index l.runs))
