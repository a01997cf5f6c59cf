-- What is listed is of what `check` gathers.
use Rattle.std.proofs.Common.{◌∙◌, List, ap}
use Rattle.std.specs.Prelude.{option_to_list}
use Rattle.std.specs.List.{find}
use Rattle.desk_findings.specs.OneFault.{is_about}
use Rattle.desk_findings.specs.declared.finding.Finding.{Finding}
use Rattle.desk_check.specs.FindingJson.{findings_json}
use Rattle.desk_check.proofs.told_fault.fault_json.Goals as goal

pub returns : goal.returns
returns c = record {
  gathered = c.in_ok-gathered.gathered;
  gathers = c.in_ok-gathered.ensures.found;
  are = c.in_ok-told.ensures ∙ ap (λ found. findings_json (option_to_list found)) c.first_about.ensures.first
      ∙ ap (λ (findings : List Finding). findings_json (option_to_list (find (λ finding. is_about c.args.fault.now finding.matter) findings))) c.as_slice.ensures;
}
