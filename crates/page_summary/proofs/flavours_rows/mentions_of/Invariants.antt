-- The file systems so far.
use Rattle.std.proofs.Common.{◌≡◌, map, take}
use Rattle.page_summary.specs.FlavoursRows.{all_mentioned, named_in}
use Rattle.page_summary.proofs.flavours_rows.mentions_of.Given as goal

abbrev pub invariant-loop-fs : goal.invariant-loop-fs
invariant-loop-fs l = all_mentioned l.mentions.items ≡ map (λ fs. named_in l.table fs.0) (take l.fs-index l.systems)
