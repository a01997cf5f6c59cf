use Rattle.std.proofs.Common.{◌≡◌, ◌∙◌, Err, Ok, List, ap, map, subst, sym}
use Rattle.std.specs.List.{IsAmong}
use Rattle.desk_text.specs.Lines.{LogicalLine, logical_lines}
use Rattle.desk_text.specs.Reading.{read_lines}
use Rattle.desk_expect.specs.Reading.{answered, line_answer}
use Rattle.desk_expect.specs.Faults.{IsAtWord, word_at_fault}
use Rattle.desk_expect.specs.declared.rules.Rule.{Rule}
use Rattle.desk_expect.proofs.FaultWords.{first_of}
use Rattle.desk_expect.proofs.Gathered.{faulty_line, one_more, told_expectation, told_rule}
use Rattle.desk_expect.proofs.reading.read_expectations.Goals as goal

pub returns-in-Err : goal.returns-in-Err
returns-in-Err c =
    let netgroups = c.args.netgroups.now in
    let hosts = c.args.hosts.now in
    let lines = c.deref-line-items.result.now in
    let line = c.line-item.result in
    let made = c.in_ok-make_fault-in-Err.field-0 in
    let whole : lines ≡ logical_lines c.args.text.now = c.deref-line-items.ensures.value ∙ c.in_ok-lines.ensures.lines in
    let among : IsAmong (logical_lines c.args.text.now) line = subst (λ (ls : List LogicalLine). IsAmong ls line) whole (c.loop-line.line-index, (c.loop-line-test.true, c.line-item.is)) in
    let bad : line_answer netgroups hosts line ≡ Err c.in-Err.rule =
    told_rule netgroups hosts (line_answer netgroups hosts line) c.read_line.result c.in-Err.rule (sym c.split.ensures ∙ c.in_ok-expectation.was ∙ ap Ok c.in-Err.is) c.read_line.ensures in
    record {
      read = ap (λ (ls : List LogicalLine). read_lines (map (answered netgroups hosts) ls)) (sym whole)
          ∙ faulty_line netgroups hosts lines c.loop-line.line-index line c.loop-line-test.true c.line-item.is c.in-Err.rule bad c.loop-line.found c.loop-line.invariant
          ∙ ap Err (sym c.in_ok-make_fault-in-Err.ensures.fault);
      line = line;
      among = among;
      number = ap (λ f. f.line) c.in_ok-make_fault-in-Err.ensures.fault;
      own = c.in_ok-make_fault-in-Err.ensures.own c.args.text.now among;
      lies = c.in_ok-make_fault-in-Err.ensures.lies c.args.text.now among;
      word = λ words cut.
          subst (λ (rule : Rule). IsAtWord line (word_at_fault netgroups hosts words rule) made.place) (sym (ap (λ f. f.rule) c.in_ok-make_fault-in-Err.ensures.fault))
          (c.in_ok-make_fault-in-Err.ensures.word words cut (first_of netgroups hosts line words c.in-Err.rule cut bad));
    }

pub loop-line-preserved : goal.loop-line-preserved
loop-line-preserved c =
    let netgroups = c.args.netgroups.now in
    let hosts = c.args.hosts.now in
    let line = c.line-item.result in
    one_more netgroups hosts c.deref-line-items.result.now c.loop-line.line-index line c.loop-line-test.true c.line-item.is c.in-Ok.expectation
    (told_expectation netgroups hosts (line_answer netgroups hosts line) c.read_line.result c.in-Ok.expectation (sym c.split.ensures ∙ c.in_ok-expectation.was ∙ ap Ok c.in-Ok.is) c.read_line.ensures)
    c.loop-line.found c.push.new.self c.in_ok-push-in-Ok.ensures.added c.loop-line.invariant
