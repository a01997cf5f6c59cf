use Rattle.desk_policy.proofs.ExportsPlaces.{no_place_of_the_seven, not_of_the_seven}
use Rattle.desk_policy.proofs.laws.exports_files_are_not_of_the_seven.Goals as goal

pub returns : goal.returns
returns c = record { names = not_of_the_seven; places = no_place_of_the_seven }
