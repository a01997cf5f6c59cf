-- The physical lines so far stand behind the text.
use Rattle.std.proofs.Common.{◌≡◌, ◌++◌, take}
use Rattle.std.specs.List.{flat_map}
use Rattle.std.specs.String.{string_bytes}
use Rattle.desk_text.specs.Views.{line_of_part}
use Rattle.desk_split.specs.Splitting.{written_part}
use Rattle.desk_split.proofs.splitting.write_line.Given as goal

abbrev pub invariant-loop-part : goal.invariant-loop-part
invariant-loop-part l = string_bytes l.text ≡ string_bytes l.initial.text ++ flat_map (λ part. written_part (line_of_part part)) (take l.part-index l.part-items)
