-- The entries so far were added.
use Rattle.std.proofs.Common.{◌≡◌, ◌++◌, map, take}
use Rattle.std.specs.List.{flat_map}
use Rattle.std.specs.String.{string_bytes}
use Rattle.page_summary.specs.Proposals.{entry, proposal_value}
use Rattle.page_summary.proofs.proposals.push_entries.Given as goal

abbrev pub invariant-loop-row : goal.invariant-loop-row
invariant-loop-row l = string_bytes l.page ≡ string_bytes l.initial.page ++ flat_map (entry l.table) (map proposal_value (take l.row-index l.rows))
