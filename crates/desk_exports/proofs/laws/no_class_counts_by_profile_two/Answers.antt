use Rattle.desk_exports.proofs.ClassesByProfile.{no_class_counts_by_profile_two}
use Rattle.desk_exports.proofs.laws.no_class_counts_by_profile_two.Goals as goal

pub returns : goal.returns
returns c = no_class_counts_by_profile_two
