-- What is selected at the first address of all, and at the starts so far.
use Rattle.std.proofs.Common.{◌≡◌, ◌∷◌, map, take}
use Rattle.std.specs.List.{All}
use Rattle.desk_text.specs.Address.{number_of}
use Rattle.desk_policy.specs.Policy.{rows_of}
use Rattle.desk_idle.specs.Selections.{IsSelection, addresses_of}
use Rattle.desk_idle.proofs.selections.selections_of.Given as goal

abbrev pub invariant-loop-start : goal.invariant-loop-start
invariant-loop-start l = record {
  addresses : addresses_of l.found.items ≡ 0 ∷ take l.start-index (map number_of l.start-items);
  each : All (IsSelection (rows_of l.index l.fs.0)) l.found.items;
}
