-- What is left is among what was found.
use Rattle.std.proofs.Common.{rules, subst, not, List}
use Rattle.std.specs.List.{All}
use Rattle.std.proofs.lemmas.List.Elements.{All-filter}
use Rattle.desk_findings.specs.Finding.{HasSlice}
use Rattle.desk_findings.specs.declared.finding.Finding.{Finding}
use Rattle.desk_check.specs.IgnoredWarnings.{is_ignored}
use Rattle.desk_check.proofs.check_report.report_heard.Goals as goal

pub report_rest-requires : goal.report_rest-requires
report_rest-requires c = subst (λ (left : List Finding). All HasSlice left) (search rules)
    (All-filter (λ finding. not (is_ignored c.args.numbers.now finding)) HasSlice c.args.gathered.findings c.requires)
