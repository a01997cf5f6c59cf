-- The faults are those of the text with these tables.
use Rattle.std.proofs.Common.{◌∙◌, List, OnOk, ap, map, subst}
use Rattle.desk_text.specs.declared.reading.LineFault.{LineFault}
use Rattle.desk_exports.specs.declared.faults.PlacedFault.{PlacedFault}
use Rattle.desk_exports.specs.declared.rules.Rule.{Rule}
use Rattle.desk_findings.specs.CheckFaults.{Adds}
use Rattle.desk_findings.specs.OneFault.{TellOneOf}
use Rattle.desk_findings.proofs.one_fault.push_one_with.Goals as goal

pub returns : goal.returns
returns c =
    subst (λ (faults : List (LineFault Rule)). OnOk c.push_one_of.result (Adds (TellOneOf c.args.source c.args.fault faults) c.args.found.now c.push_one_of.new.found))
    (ap (map (λ (one : PlacedFault). one.fault)) c.as_slice.ensures ∙ c.in_ok-faults.ensures.faults)
    c.push_one_of.ensures
