use Rattle.desk_policy.proofs.SelectedByKeys.{lines_are_selected_by_keys}
use Rattle.desk_policy.proofs.laws.lines_are_selected_by_keys.Goals as goal

pub returns : goal.returns
returns c = lines_are_selected_by_keys
