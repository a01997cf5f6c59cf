-- Those so far were looked at.
use Rattle.std.proofs.Common.{ℕ, ◌<◌, List, get_or}
use Rattle.desk_text.specs.Path.{IsPath}
use Rattle.desk_mounts.proofs.table.have_components.Given as goal

abbrev pub invariant-loop-path : goal.invariant-loop-path
invariant-loop-path l = (k : ℕ) (d : List (List ℕ)) → k < l.path-index → IsPath (get_or l.paths k d)
