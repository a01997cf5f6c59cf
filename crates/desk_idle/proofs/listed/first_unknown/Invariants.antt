-- The directories so far are there.
use Rattle.std.proofs.Common.{◌≡◌, ℕ, List, None, not, take}
use Rattle.std.specs.Prelude.{find}
use Rattle.desk_policy.specs.Verdict.{is_directory_among}
use Rattle.desk_idle.specs.Listed.{HasDirs}
use Rattle.desk_idle.proofs.listed.first_unknown.Given as goal

abbrev pub invariant-loop-dir : goal.invariant-loop-dir
invariant-loop-dir l = (known : List (List (List ℕ))) → HasDirs l.seen known → find (λ dir. not (is_directory_among dir known)) (take l.dir-index l.dirs) ≡ None
