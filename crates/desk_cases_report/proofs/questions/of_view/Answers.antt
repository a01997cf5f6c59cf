use Rattle.desk_cases_report.proofs.ToldOf.{is_root}
use Rattle.desk_cases_report.proofs.questions.of_view.Goals as goal

pub of_site-requires-clause-root : goal.of_site-requires-clause-root
of_site-requires-clause-root g c = is_root c.in-Ok.root c.in-Ok.ensures
