-- The ranges so far, and those of the addresses that are left, are all.
use Rattle.std.proofs.Common.{◌≡◌, ◌++◌, drop, map}
use Rattle.desk_text.specs.Address.{number_of}
use Rattle.page_html.specs.Ranges.{ends_of}
use Rattle.page_lists.specs.Ranges as spec
use Rattle.page_lists.proofs.ranges.ranges_from.Given as goal

abbrev pub invariant-loop-address : goal.invariant-loop-address
invariant-loop-address l =
    map ends_of l.ranges.items ++ spec.ranges_from (number_of l.first) (number_of l.last) (map number_of (drop l.address-index l.others))
    ≡ spec.ranges_from (number_of l.fn.start) (number_of l.fn.start) (map number_of l.others)
