-- The greatest class of the runs so far.
use Rattle.std.proofs.Common.{◌≡◌, take}
use Rattle.std.specs.List.{fold}
use Rattle.page_data.specs.Class.{most_of}
use Rattle.page_data.specs.declared.class.Class.TheVariants.{Denied}
use Rattle.page_summary.proofs.reach.most_among.Given as goal

abbrev pub invariant-loop-run : goal.invariant-loop-run
invariant-loop-run l = l.most ≡ fold (λ most run. most_of most run.value) Denied (take l.run-index l.runs)
