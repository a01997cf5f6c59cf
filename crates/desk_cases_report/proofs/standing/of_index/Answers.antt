use Rattle.desk_cases_report.proofs.ToldOf.{is_root}
use Rattle.desk_cases_report.proofs.standing.of_index.Goals as goal

pub of_site-requires-clause-root : goal.of_site-requires-clause-root
of_site-requires-clause-root c = is_root c.in-Ok.root c.in-Ok.ensures
