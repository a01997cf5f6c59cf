-- The exports of the file systems so far are written, with their terms.
use Rattle.std.proofs.Common.{◌≡◌, take}
use Rattle.std.specs.List.{flat_map}
use Rattle.std.specs.String.{string_bytes}
use Rattle.desk_policy.specs.ListingPrints.{entry_terms}
use Rattle.desk_policy.proofs.listing_prints.all_terms.Given as goal

abbrev pub invariant-loop-rows : goal.invariant-loop-rows
invariant-loop-rows l = string_bytes l.text ≡ flat_map (flat_map (λ row. entry_terms row.entry)) (take l.rows-index l.rows-items)
