-- The lines so far.
use Rattle.std.proofs.Common.{◌≡◌, map, take}
use Rattle.page_site.proofs.system_parts.findings_of.Given as goal

abbrev pub invariant-loop-one : goal.invariant-loop-one
invariant-loop-one l = l.findings.items ≡ map (λ one. one.finding) (take l.one-index l.counted)
