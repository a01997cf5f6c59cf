use Rattle.page_data.proofs.DeniedAlike.{alike_throughout}
use Rattle.page_data.proofs.laws.groups_are_alike_throughout.Goals as goal

pub returns : goal.returns
returns c =
    alike_throughout c.runs_exist.ensures c.runs_are_unique.ensures c.runs_pass_tests.ensures c.runs_with_value_are_unique.ensures c.runs_tell_values.ensures c.verdicts_are_discrete.ensures
