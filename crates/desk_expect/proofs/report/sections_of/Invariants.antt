-- The sections of the scopes so far.
use Rattle.std.proofs.Common.{map, take}
use Rattle.desk_expect.specs.Judging.{judged_section}
use Rattle.desk_expect.specs.Report.{IsTestedIn}
use Rattle.desk_expect.proofs.report.sections_of.Given as goal

abbrev pub invariant-loop-scope : goal.invariant-loop-scope
invariant-loop-scope l = IsTestedIn l.index l.expectation (take l.scope-index l.scope-items) (map judged_section l.sections.items)
