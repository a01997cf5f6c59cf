use Rattle.desk_impact.proofs.Scoped.{no_section_is_nothing_found}
use Rattle.desk_impact.proofs.laws.no_section_is_nothing_found.Goals as goal

pub returns : goal.returns
returns g c = no_section_is_nothing_found c.no_run_is_no_value.ensures
