use Rattle.page_data.proofs.Agreeing.{classes_are_unique}
use Rattle.page_data.proofs.laws.classes_are_unique.Goals as goal

pub returns : goal.returns
returns c = classes_are_unique c.runs_are_unique.ensures
