-- The ranges so far were gathered.
use Rattle.std.proofs.Common.{◌≡◌, map, take}
use Rattle.desk_who.specs.Who.{range_value}
use Rattle.page_places.specs.Rows.{span_of}
use Rattle.page_places.proofs.rows.spans_of.Given as goal

abbrev pub invariant-loop-range : goal.invariant-loop-range
invariant-loop-range l = l.spans.items ≡ map (λ range. span_of (range_value range)) (take l.range-index l.ranges)
