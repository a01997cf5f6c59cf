-- Out of memory nothing is said.
use Rattle.std.proofs.Common.{inl, inr}
use Rattle.cli_edits.proofs.server_note.counted.Goals as goal

pub returns-in-Ok : goal.returns-in-Ok
returns-in-Ok c = inr c.in-Ok.ensures

pub returns-in-Err : goal.returns-in-Err
returns-in-Err c = inl c.new.ensures.bytes
