-- The word of a name.
use Rattle.std.proofs.Common.{◌≡◌, IfOk, subst}
use Rattle.desk_expect.proofs.FaultWords.{name_of}
use Rattle.desk_expect.proofs.faults.word_in_form.Goals as goal

pub returns-in-BadAddress : goal.returns-in-BadAddress
returns-in-BadAddress c =
    subst (λ n. IfOk c.name_at_fault.result (λ index. index ≡ n))
    (name_of c.args.netgroups.now c.args.hosts.now c.args.words.now c.args.form.now.whom.now c.args.form.now.but.now c.args.rule c.requires.whom_is c.requires.but_is c.in-BadAddress.is)
    c.name_at_fault.ensures
