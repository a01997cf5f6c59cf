use Rattle.std.proofs.Common.{◌≡◌, ◌∙◌, Err, Ok, ap, subst, sym}
use Rattle.desk_expect.specs.Faults.{IsAtWord, word_at_fault}
use Rattle.desk_expect.specs.Reading.{line_answer}
use Rattle.desk_expect.specs.declared.rules.Rule.{Rule}
use Rattle.desk_expect.proofs.FaultWords.{first_of}
use Rattle.desk_expect.proofs.FaultyLines.{fault_if, none_if}
use Rattle.desk_expect.proofs.Gathered.{told_expectation, told_rule}
use Rattle.desk_expect.proofs.faulty_lines.line_fault.Goals as goal

pub returns-in-Ok-clause-fault : goal.returns-in-Ok-clause-fault
returns-in-Ok-clause-fault c =
    let netgroups = c.args.netgroups.now in
    let hosts = c.args.hosts.now in
    let line = c.args.line.now in
    let told = told_expectation netgroups hosts (line_answer netgroups hosts line) c.read_line.result c.in-Ok.expectation (sym c.split.ensures ∙ c.in_ok-expectation.was ∙ ap Ok c.in-Ok.is) c.read_line.ensures in
    none_if netgroups hosts line told.promise told.is

pub returns-in_ok-make_fault-in-Err-clause-fault : goal.returns-in_ok-make_fault-in-Err-clause-fault
returns-in_ok-make_fault-in-Err-clause-fault c =
    let netgroups = c.args.netgroups.now in
    let hosts = c.args.hosts.now in
    let line = c.args.line.now in
    let bad : line_answer netgroups hosts line ≡ Err c.in-Err.rule =
    told_rule netgroups hosts (line_answer netgroups hosts line) c.read_line.result c.in-Err.rule (sym c.split.ensures ∙ c.in_ok-expectation.was ∙ ap Ok c.in-Err.is) c.read_line.ensures in
    fault_if netgroups hosts line c.in-Err.rule c.in_ok-make_fault-in-Err.field-0.fault bad c.in_ok-make_fault-in-Err.ensures.fault

pub returns-in_ok-make_fault-in-Err-clause-placed : goal.returns-in_ok-make_fault-in-Err-clause-placed
returns-in_ok-make_fault-in-Err-clause-placed c =
    let netgroups = c.args.netgroups.now in
    let hosts = c.args.hosts.now in
    let line = c.args.line.now in
    let made = c.in_ok-make_fault-in-Err.field-0 in
    let bad : line_answer netgroups hosts line ≡ Err c.in-Err.rule =
    told_rule netgroups hosts (line_answer netgroups hosts line) c.read_line.result c.in-Err.rule (sym c.split.ensures ∙ c.in_ok-expectation.was ∙ ap Ok c.in-Err.is) c.read_line.ensures in
    record {
      number = ap (λ f. f.line) c.in_ok-make_fault-in-Err.ensures.fault;
      own = c.in_ok-make_fault-in-Err.ensures.own;
      lies = c.in_ok-make_fault-in-Err.ensures.lies;
      word = λ words cut.
          subst (λ (rule : Rule). IsAtWord line (word_at_fault netgroups hosts words rule) made.place) (sym (ap (λ f. f.rule) c.in_ok-make_fault-in-Err.ensures.fault))
          (c.in_ok-make_fault-in-Err.ensures.word words cut (first_of netgroups hosts line words c.in-Err.rule cut bad));
    }
