-- What is said of a policy, by whether it contradicts itself.
use Rattle.std.proofs.Common.{◌≡◌, Bool, List, [], subst}
use Rattle.desk_text.specs.Address.{number_of}
use Rattle.desk_policy.specs.Contradiction.{HasNoContradiction}
use Rattle.desk_policy.specs.Policy.{Content}
use Rattle.desk_policy.specs.View.{IsLeastContradiction}
use Rattle.desk_policy.specs.declared.site_fault.SiteFault.{SiteFault}
use Rattle.desk_policy.specs.declared.warning.Warning.{Warning}
use Rattle.desk_remarks.specs.Remarks.{AreRemarks, AreRemarksOf}
use Rattle.desk_remarks.specs.declared.remark.LineRemark.{LineRemark}

pub in_force : (opinions : Bool) (content policy : Content) (warnings : List Warning) → content ≡ policy → HasNoContradiction policy
    → (found : List LineRemark) → AreRemarksOf opinions content warnings found → AreRemarks opinions policy warnings found
in_force opinions content policy warnings same none found are = record {
  consistent = λ is. subst (λ (now : Content). AreRemarksOf opinions now warnings found) same are;
  contradictory = λ has. absurd (has none);
}

pub refused : (opinions : Bool) (policy : Content) (warnings : List Warning) (fault : SiteFault) → IsLeastContradiction policy fault
    → (found : List LineRemark) → found ≡ [] → AreRemarks opinions policy warnings found
refused opinions policy warnings fault least found none = record {
  consistent = λ is. absurd (is least.fs least.found.line least.found.other (number_of least.found.address) least.here.is);
  contradictory = λ has. none;
}
