-- The texts compare as what is left of them.
use Rattle.std.proofs.Common.{◌≡◌, drop, nat_cmp}
use Rattle.std.specs.Cmp.Lexicographic.{slice_cmp}
use Rattle.std.specs.Str.{str_to_ascii_lowercase}
use Rattle.desk_tables.proofs.index.compare_lowered.Given as goal

abbrev pub invariant-loop-index : goal.invariant-loop-index
invariant-loop-index l =
    slice_cmp nat_cmp (str_to_ascii_lowercase l.a) (str_to_ascii_lowercase l.b) ≡ slice_cmp nat_cmp (str_to_ascii_lowercase (drop l.index l.a)) (str_to_ascii_lowercase (drop l.index l.b))
