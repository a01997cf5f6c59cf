-- None so far is at fault.
use Rattle.std.specs.Prelude.{is_none}
use Rattle.desk_expect.specs.Scope.{read_scope}
use Rattle.desk_expect.proofs.FaultWords.{NoneUpTo}
use Rattle.desk_expect.proofs.faults.bad_dir.Given as goal

abbrev pub invariant-loop-place : goal.invariant-loop-place
invariant-loop-place l = NoneUpTo (λ dir. is_none (read_scope dir)) l.dirs l.place
