use Rattle.desk_text.proofs.AtomsAreUnique.{atoms_are_unique}
use Rattle.desk_text.proofs.laws.atoms_are_unique.Goals as goal

pub returns : goal.returns
returns c = atoms_are_unique
