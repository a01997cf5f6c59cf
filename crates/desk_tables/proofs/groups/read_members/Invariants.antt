use Rattle.std.proofs.Common.{◌≡◌, ◌==◌, not, length, take, filter}
use Rattle.std.specs.List.{slice_split}
use Rattle.desk_tables.proofs.groups.read_members.Given as goal

-- the members so far
abbrev pub invariant-loop-member : goal.invariant-loop-member
invariant-loop-member l = l.members ≡ filter (λ member. not (length member == 0)) (take (length l.yielded) (slice_split (λ b. b == 44) l.text))
