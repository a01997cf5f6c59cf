-- What is told is of what `check` gathers.
use Rattle.std.proofs.Common.{◌∙◌, List, ap}
use Rattle.std.specs.List.{find}
use Rattle.desk_findings.specs.OneFault.{is_about}
use Rattle.desk_findings.specs.declared.finding.Finding.{Finding}
use Rattle.desk_check.specs.ToldFault.{told_text}
use Rattle.desk_check.proofs.told_fault.tell_fault.Goals as goal

pub returns : goal.returns
returns c = record {
  gathered = c.in_ok-gathered.gathered;
  gathers = c.in_ok-gathered.ensures.found;
  are = c.in_ok-told.ensures ∙ ap told_text c.first_about.ensures.first ∙ ap (λ (findings : List Finding). told_text (find (λ finding. is_about c.args.fault.now finding.matter) findings)) c.as_slice.ensures;
}
