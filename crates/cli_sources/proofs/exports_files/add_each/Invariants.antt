-- The files so far were added.
use Rattle.std.proofs.Common.{Ok, map, take}
use Rattle.cli_sources.specs.ExportsFiles.{and_file}
use Rattle.cli_sources.specs.PrivateExportsFiles.{AddsInTurn}
use Rattle.cli_sources.proofs.exports_files.add_each.Given as goal

abbrev pub invariant-loop-path : goal.invariant-loop-path
invariant-loop-path g l =
    AddsInTurn (map (λ word. and_file word.now) (take l.path-index l.files)) (g.I.Read.remaining l.initial.input) (g.I.Read.remaining l.input) l.initial.whole l.whole (Ok tt)
