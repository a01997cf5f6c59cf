use Rattle.std.proofs.Common.{◌≡◌, map}
use Rattle.desk_exports.proofs.files.without_file_systems.Given as goal

abbrev pub invariant-loop-entry : goal.invariant-loop-entry
invariant-loop-entry l = l.entries ≡ map (λ one. one.1) l.yielded
