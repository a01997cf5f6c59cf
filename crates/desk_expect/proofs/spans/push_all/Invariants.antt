-- Those of the numbers so far are added.
use Rattle.std.proofs.Common.{◌≡◌, ◌+◌, ◌++◌, map, take}
use Rattle.std.specs.List.{flat_map}
use Rattle.desk_text.specs.Address.{number_of}
use Rattle.desk_expect.specs.PrivateSpans.{start_if}
use Rattle.desk_expect.proofs.spans.push_all.Given as goal

abbrev pub invariant-loop-number : goal.invariant-loop-number
invariant-loop-number l = map number_of l.starts.items ≡ map number_of l.initial.starts.items ++ flat_map (λ number. start_if (number + l.step)) (take l.number-index l.numbers)
