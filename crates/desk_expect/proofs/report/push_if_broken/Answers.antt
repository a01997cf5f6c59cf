use Rattle.std.proofs.Common.{map, refl}
use Rattle.desk_expect.specs.Judging.{judged_section}
use Rattle.desk_expect.proofs.report.push_if_broken.Goals as goal

pub returns : goal.returns
returns c = record {
  found = record { expectation = c.args.expectation.now; sections = map judged_section c.in_ok-sections.sections.items };
  expectation_is = refl;
  tested = c.in_ok-sections.ensures;
  added = c.in_ok-push_if_some.ensures;
}
