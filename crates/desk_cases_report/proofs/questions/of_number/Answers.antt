use Rattle.std.proofs.Common.{◌<◌, arith, length}
use Rattle.desk_cases_report.proofs.ToldOf.{some_runs, told}
use Rattle.desk_cases_report.proofs.questions.of_number.Goals as goal

pub of_system-requires-clause-classes : goal.of_system-requires-clause-classes
of_system-requires-clause-classes c =
    let within : c.args.fs < length c.args.systems.items = omega (arith, c.if-len-place.false) in
    some_runs c.args.policy.now c.args.systems.items c.requires.systems c.args.fs c.swap_remove-system.result within c.swap_remove-system.ensures.value

pub of_system-requires-clause-told : goal.of_system-requires-clause-told
of_system-requires-clause-told c =
    let within : c.args.fs < length c.args.systems.items = omega (arith, c.if-len-place.false) in
    told c.args.policy.now c.args.systems.items c.requires.systems c.args.fs c.swap_remove-system.result within c.swap_remove-system.ensures.value c.orders_tell_verdicts.ensures c.requires.sound
