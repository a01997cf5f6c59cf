use Rattle.std.proofs.Common.{◌∷◌, take}
use Rattle.std.specs.List.{flat_map}
use Rattle.std.specs.Fmt.{HasWritten, IsPlainFormatter, decimal}
use Rattle.desk_tables.proofs.credentials.GroupIdsDisplay.fmt.Given as goal

-- the others so far are written, each behind a colon
abbrev pub invariant-loop-gid : goal.invariant-loop-gid
invariant-loop-gid g l =
    IsPlainFormatter l.initial.f → HasWritten g.W.Write.write_str_gives l.initial.f (flat_map (λ gid. 58 ∷ decimal gid) (take l.gid-index l.others)) l.f
