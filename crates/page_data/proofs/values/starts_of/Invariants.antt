-- The first addresses of the runs so far.
use Rattle.std.proofs.Common.{◌≡◌, map, take}
use Rattle.std.specs.List.{flat_map}
use Rattle.desk_text.specs.Address.{number_of}
use Rattle.page_data.specs.PrivateValues.{start_at}
use Rattle.page_data.proofs.values.starts_of.Given as goal

abbrev pub invariant-loop-run : goal.invariant-loop-run
invariant-loop-run g l = map number_of l.starts.items ≡ flat_map (λ run. start_at (number_of run.first)) (take l.run-index l.runs)
