-- The others so far are written, each behind a comma.
use Rattle.std.proofs.Common.{◌≡◌, ◌++◌, ◌∷◌, take}
use Rattle.std.specs.List.{flat_map}
use Rattle.std.specs.String.{string_bytes}
use Rattle.desk_origins.specs.Origins.{line_name}
use Rattle.desk_policy.proofs.listing_prints.joined_names.Given as goal

abbrev pub invariant-loop-number : goal.invariant-loop-number
invariant-loop-number l = string_bytes l.text ≡ string_bytes l.initial.text ++ flat_map (λ number. 44 ∷ line_name l.origins number) (take l.number-index l.others)
