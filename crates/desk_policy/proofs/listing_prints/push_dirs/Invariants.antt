-- The directories so far are written.
use Rattle.std.proofs.Common.{◌≡◌, ◌++◌, take}
use Rattle.std.specs.List.{flat_map}
use Rattle.std.specs.String.{string_bytes}
use Rattle.desk_policy.specs.ListingPrints.{dir_line}
use Rattle.desk_policy.proofs.listing_prints.push_dirs.Given as goal

abbrev pub invariant-loop-dir : goal.invariant-loop-dir
invariant-loop-dir l = string_bytes l.text ≡ string_bytes l.initial.text ++ flat_map dir_line (take l.dir-index l.dirs)
