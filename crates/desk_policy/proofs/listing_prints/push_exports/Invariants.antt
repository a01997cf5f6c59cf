-- The directories so far are written.
use Rattle.std.proofs.Common.{◌≡◌, ◌++◌, take}
use Rattle.std.specs.List.{flat_map}
use Rattle.std.specs.String.{string_bytes}
use Rattle.desk_policy.specs.ListingPrints.{export_line}
use Rattle.desk_policy.proofs.listing_prints.push_exports.Given as goal

abbrev pub invariant-loop-dir : goal.invariant-loop-dir
invariant-loop-dir l = string_bytes l.text ≡ string_bytes l.initial.text ++ flat_map (export_line l.clients) (take l.dir-index l.dirs)
