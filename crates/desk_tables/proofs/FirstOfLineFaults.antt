-- The fault with which values are refused is the first.
use Rattle.std.proofs.Common.{◌≡◌, ◌↔◌, List, [], ◌∷◌, Some, Err, ap}
use Rattle.desk_text.specs.Reading.{unless_fault}
use Rattle.desk_tables.specs.Laws.{IsFirstOf}
use Rattle.desk_tables.specs.Rules.{TableFault}

-- values are refused with the first fault
pub refused_with_first : {X : Type 0} (faults : List TableFault) (values : List X) (fault : TableFault) → (unless_fault faults values ≡ Err fault) ↔ IsFirstOf fault faults
refused_with_first [] values fault = (λ h. absurd (cc), λ h. absurd (cc))
refused_with_first (first ∷ more) values fault = (λ h. let same : first ≡ fault = cc in ap Some same, λ h. let same : first ≡ fault = cc in ap Err same)
