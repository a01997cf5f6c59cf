-- A line without the form of one breaks that rule first.
use Rattle.desk_expect.proofs.FaultWords.{out_of_form}
use Rattle.std.proofs.Common.{◌∙◌}
use Rattle.desk_expect.proofs.faults.word_among.Goals as goal

pub returns-in-None : goal.returns-in-None
returns-in-None c = λ first. c.word_out_of_form.ensures ∙ out_of_form c.args.netgroups.now c.args.hosts.now c.args.words.now c.args.rule c.in-None.ensures first
