-- The numbers so far are taken.
use Rattle.std.proofs.Common.{◌≡◌, ◌++◌, ◌∷◌, [], ◌<◌, ℕ, true}
use Rattle.std.specs.Fmt.{decimal}
use Rattle.desk_policy.specs.Verdict.{is_directory_among}
use Rattle.desk_impact.specs.Places.{paths_in}
use Rattle.desk_impact.proofs.unwritten_path.free_path.Given as goal

abbrev pub invariant-loop-number : goal.invariant-loop-number
invariant-loop-number l = (k : ℕ) → k < l.number → is_directory_among (l.mount ++ decimal k ∷ []) (paths_in l.taken) ≡ true
