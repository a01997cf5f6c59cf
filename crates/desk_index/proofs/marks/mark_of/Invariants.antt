-- The bytes so far are taken in.
use Rattle.std.proofs.Common.{◌≡◌, take}
use Rattle.desk_index.specs.PrivateMarks.{seed_of, steps}
use Rattle.desk_index.proofs.marks.mark_of.Given as goal

abbrev pub invariant-loop-byte : goal.invariant-loop-byte
invariant-loop-byte l = l.mark ≡ steps (seed_of l.fn.group) (take l.byte-index l.text)
