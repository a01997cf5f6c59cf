-- The texts go back if `init` can read them.
use Rattle.std.proofs.Common.{inl, inr}
use Rattle.cli_write.proofs.write_command.write_newest.Goals as goal

pub returns-in-Ok : goal.returns-in-Ok
returns-in-Ok c = inl (c.in-Ok.ensures, c.write_back.ensures)

pub returns-in-Err-Fault : goal.returns-in-Err-Fault
returns-in-Err-Fault c = inr (inl (c.in-Err-Fault.fault, rw c.in-Err-Fault.field-0-is at c.in-Err-Fault.ensures, c.refuse_faulty.ensures))
