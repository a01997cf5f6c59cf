use Rattle.page_data.proofs.SamePlaces.{section_groups_are_groups}
use Rattle.page_data.proofs.laws.section_groups_are_groups.Goals as goal

pub returns : goal.returns
returns c = section_groups_are_groups c.runs_exist.ensures c.runs_pass_tests.ensures c.runs_with_value_are_unique.ensures c.runs_tell_values.ensures c.verdicts_are_discrete.ensures
