-- How many revisions a database has. (this project's own)
use Rattle.std.specs.Prelude.{ℕ, ◌-◌, ◌^◌, List, min}
use Rattle.std.specs.List.{sum_by}
use Rattle.desk_core.specs.declared.head.Head.{Head}

-- the numbers of the newest revisions together, each of which counts those of its file; at the most what a number of 64 bits can be,
-- which no database reaches
abbrev pub revisions_of : List Head → ℕ
revisions_of heads = min (sum_by (λ head. head.rev) heads) (2 ^ 64 - 1)
