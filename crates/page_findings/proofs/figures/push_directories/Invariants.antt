-- The directories so far are added.
use Rattle.std.proofs.Common.{◌≡◌, ◌++◌, map, take}
use Rattle.page_findings.proofs.figures.push_directories.Given as goal

abbrev pub invariant-loop-dir : goal.invariant-loop-dir
invariant-loop-dir l = map (λ path. path.now) l.paths.items ≡ map (λ path. path.now) l.initial.paths.items ++ take l.dir-index l.dirs
