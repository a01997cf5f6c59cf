use Rattle.desk_policy.specs.Site.{texts_of}
use Rattle.desk_store.proofs.FirstState.{if_seven, none_but, none_of_seven}
use Rattle.desk_store.proofs.first_revisions.fault_of_seven.Goals as goal

pub returns-in-Ok-state-clause-none : goal.returns-in-Ok-state-clause-none
returns-in-Ok-state-clause-none g c = none_of_seven (texts_of c.args.site.now) c.in-Ok.heads.items c.in-Ok.ensures.made c.in-Ok-state.ensures.2.consistent

pub returns-in-Err-Fault-clause-none : goal.returns-in-Err-Fault-clause-none
returns-in-Err-Fault-clause-none g c =
    none_but (texts_of c.args.site.now) c.in-Ok.heads.items c.in-Ok.ensures.made c.in-Err-Fault.fault (rw c.in-Err-Fault.field-0-is at c.in-Err-Fault.ensures) c.if_seven.result c.if_seven.ensures.other

pub returns-in-Err-Fault-clause-errors : goal.returns-in-Err-Fault-clause-errors
returns-in-Err-Fault-clause-errors g c =
    if_seven (texts_of c.args.site.now) c.in-Ok.heads.items c.in-Ok.ensures.made c.in-Err-Fault.fault (rw c.in-Err-Fault.field-0-is at c.in-Err-Fault.ensures) c.if_seven.result c.if_seven.ensures.seven
