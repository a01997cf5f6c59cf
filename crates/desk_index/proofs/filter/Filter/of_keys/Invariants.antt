-- The keys so far pass.
use Rattle.std.proofs.Common.{take}
use Rattle.std.specs.Prelude.{All}
use Rattle.desk_index.specs.PrivateFilter.{Passes}
use Rattle.desk_index.proofs.filter.Filter.of_keys.Given as goal

abbrev pub invariant-loop-key : goal.invariant-loop-key
invariant-loop-key l = All (Passes l.words.items) (take l.key-index l.keys)
