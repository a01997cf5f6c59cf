use Rattle.desk_policy.proofs.SiteLaws.{first_faulty_file_is_reported}
use Rattle.desk_policy.proofs.laws.first_faulty_file_is_reported.Goals as goal

pub returns : goal.returns
returns c = first_faulty_file_is_reported
