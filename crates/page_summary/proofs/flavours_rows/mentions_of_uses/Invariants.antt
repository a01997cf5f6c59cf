-- The file systems of the flavours so far.
use Rattle.std.proofs.Common.{◌≡◌, map, take}
use Rattle.page_findings.specs.Flavours.{use_value}
use Rattle.page_summary.specs.FlavoursRows.{all_mentioned, systems_of}
use Rattle.page_summary.proofs.flavours_rows.mentions_of_uses.Given as goal

abbrev pub invariant-loop-one : goal.invariant-loop-one
invariant-loop-one l = map all_mentioned l.mentions.items ≡ map (λ one. systems_of l.table (use_value one)) (take l.one-index l.uses)
