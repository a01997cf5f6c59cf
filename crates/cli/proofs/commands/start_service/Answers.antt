-- The line of a service that the words ask is printed, or why there is none.
use Rattle.std.proofs.Common.{inl, inr}
use Rattle.cli.proofs.commands.start_service.Goals as goal

pub returns-in-Ok : goal.returns-in-Ok
returns-in-Ok c = inl (c.in-Ok.ensures.started.0, c.in-Ok.ensures.started.1, c.in-Ok.ensures.started.2.prints)

pub returns-in-Err : goal.returns-in-Err
returns-in-Err c = inr c.in-Err.ensures.refused
