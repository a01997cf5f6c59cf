-- What is shown so far is written.
use Rattle.std.proofs.Common.{◌≡◌, take}
use Rattle.std.specs.List.{flat_map}
use Rattle.std.specs.String.{string_bytes}
use Rattle.desk_policy.specs.ListingPrints.{shown_text}
use Rattle.desk_policy.proofs.listing_prints.listing_text.Given as goal

abbrev pub invariant-loop-shown : goal.invariant-loop-shown
invariant-loop-shown l = string_bytes l.text ≡ flat_map (shown_text l.policy) (take l.shown-index l.listing)
