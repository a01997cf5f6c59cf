-- The ranges so far were counted.
use Rattle.std.proofs.Common.{◌≡◌, take}
use Rattle.page_places.specs.Rows.{size_of}
use Rattle.page_places.proofs.rows.size_of.Given as goal

abbrev pub invariant-loop-span : goal.invariant-loop-span
invariant-loop-span l = l.size ≡ size_of (take l.span-index l.spans)
