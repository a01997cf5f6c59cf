-- The exports of the lines so far are written, with their terms.
use Rattle.std.proofs.Common.{◌≡◌, ◌++◌, take}
use Rattle.std.specs.List.{flat_map}
use Rattle.std.specs.String.{string_bytes}
use Rattle.desk_policy.specs.ListingPrints.{entry_terms}
use Rattle.desk_policy.proofs.listing_prints.push_terms.Given as goal

abbrev pub invariant-loop-row : goal.invariant-loop-row
invariant-loop-row l = string_bytes l.text ≡ string_bytes l.initial.text ++ flat_map (λ row. entry_terms row.entry) (take l.row-index l.rows)
