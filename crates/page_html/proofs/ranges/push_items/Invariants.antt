-- The ranges so far were added.
use Rattle.std.proofs.Common.{◌≡◌, ◌++◌, take}
use Rattle.std.specs.List.{flat_map}
use Rattle.std.specs.String.{string_bytes}
use Rattle.page_html.specs.Ranges.{item}
use Rattle.page_html.proofs.ranges.push_items.Given as goal

abbrev pub invariant-loop-span : goal.invariant-loop-span
invariant-loop-span l = string_bytes l.page ≡ string_bytes l.initial.page ++ flat_map item (take l.span-index l.ranges)
