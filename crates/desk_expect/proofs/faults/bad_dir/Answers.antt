-- The first one at fault.
use Rattle.std.proofs.Common.{◌≡◌, ◌∙◌, ◌<◌, ℕ, Bool, List, ap, arith, false, sym, true}
use Rattle.std.specs.Prelude.{is_none}
use Rattle.desk_expect.specs.Scope.{read_scope}
use Rattle.desk_expect.proofs.FaultWords.{here, none_of, nowhere, one_more, some_of}
use Rattle.desk_expect.proofs.faults.bad_dir.Goals as goal

-- the test of a directory
abbrev is_bad : List ℕ → Bool
is_bad dir = is_none (read_scope dir)

pub returns-then-is_bad-clause-first : goal.returns-then-is_bad-clause-first
returns-then-is_bad-clause-first c =
    let dir = c.index-dirs-place.result in
    let bad : is_bad dir ≡ true = ap is_bad (sym c.as_str.ensures) ∙ ap is_none (sym c.in_ok-scope.ensures) ∙ some_of c.in_ok-scope.scope c.if-is_bad.ensures in
    here is_bad c.args.dirs.now c.loop-place.place dir c.loop-place-test.true c.index-dirs-place.is c.loop-place.invariant bad

pub loop-place-preserved : goal.loop-place-preserved
loop-place-preserved c =
    let dir = c.index-dirs-place.result in
    let good : is_bad dir ≡ false = ap is_bad (sym c.as_str.ensures) ∙ ap is_none (sym c.in_ok-scope.ensures) ∙ none_of c.in_ok-scope.scope c.if-is_bad.ensures in
    one_more is_bad c.args.dirs.now c.loop-place.place dir c.loop-place-test.true c.index-dirs-place.is c.loop-place.invariant good

pub returns-clause-first : goal.returns-clause-first
returns-clause-first c = nowhere is_bad c.args.dirs.now (λ k below. c.loop-place.invariant k (omega (arith, below, c.loop-place-test.false)))
