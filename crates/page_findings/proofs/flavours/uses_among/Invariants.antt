-- What is told of the lists so far.
use Rattle.std.proofs.Common.{◌≡◌, map, take}
use Rattle.page_findings.specs.Flavours.{use_of, use_value}
use Rattle.page_findings.specs.Lines.{line_value}
use Rattle.page_findings.proofs.flavours.uses_among.Given as goal

abbrev pub invariant-loop-flavours : goal.invariant-loop-flavours
invariant-loop-flavours l = map use_value l.uses.items ≡ map (use_of (map line_value l.lines)) (map (λ list. list.now) (take l.flavours-index l.flavours-items))
