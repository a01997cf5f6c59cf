-- The directories so far are added, and it is known whether one of them was not there.
use Rattle.std.proofs.Common.{◌≡◌, ◌++◌, ℕ, List, not, take}
use Rattle.std.specs.List.{list_any}
use Rattle.desk_policy.specs.Verdict.{is_directory_among}
use Rattle.desk_idle.specs.Listed.{HasDirs}
use Rattle.desk_idle.proofs.listed.add_dirs.Given as goal

abbrev pub invariant-loop-dir : goal.invariant-loop-dir
invariant-loop-dir l =
    (known : List (List (List ℕ))) → HasDirs l.initial.seen known
    → (l.is_new ≡ list_any (λ dir. not (is_directory_among dir known)) (take l.dir-index l.dirs)) × HasDirs l.seen (known ++ take l.dir-index l.dirs)
