-- Each file is added behind those before it.
use Rattle.std.proofs.Common.{Bor, List, Ok, map, refl, subst, take_all, ℕ}
use Rattle.std.proofs.lemmas.Result.{err_from_is_err_and}
use Rattle.cli_sources.specs.PrivateExportsFiles.{AddsInTurn}
use Rattle.cli_sources.proofs.ExportsTexts.{file_of, next_added, next_fails, none_added}
use Rattle.cli_sources.proofs.exports_files.add_each.Goals as goal

pub loop-path-init : goal.loop-path-init
loop-path-init g c = none_added (g.I.Read.remaining c.args.input.now) (g.I.Read.remaining c.args.input.now) c.args.whole.now tt refl

pub loop-path-preserved : goal.loop-path-preserved
loop-path-preserved g c =
    next_added c.args.files.now c.loop-path.path-index _ (g.I.Read.remaining c.args.input.now) (g.I.Read.remaining c.loop-path.input) (g.I.Read.remaining c.add_file.new.input)
    c.args.whole.now c.loop-path.whole c.add_file.new.whole c.loop-path-test.true c.loop-path.invariant c.in_ok-add_file.ensures.added c.add_file.ensures.left

pub returns-in_err-add_file : goal.returns-in_err-add_file
returns-in_err-add_file g c =
    let p = err_from_is_err_and c.from_residual.result c.from_residual.ensures.1 in
    rw (p.1, p.2)
    (next_fails c.args.files.now c.loop-path.path-index _ (g.I.Read.remaining c.args.input.now) (g.I.Read.remaining c.loop-path.input) (g.I.Read.remaining c.add_file.new.input)
    c.args.whole.now c.loop-path.whole c.add_file.new.whole c.in_err-add_file.field-0.0 c.loop-path-test.true c.loop-path.invariant c.in_err-add_file.ensures.added)

pub returns : goal.returns
returns g c =
    subst (λ (some : List (Bor (List ℕ))). AddsInTurn (map file_of some) (g.I.Read.remaining c.args.input.now) (g.I.Read.remaining c.loop-path.input) c.args.whole.now c.loop-path.whole (Ok tt))
    (take_all c.loop-path.path-index c.args.files.now c.loop-path-test.false) c.loop-path.invariant
