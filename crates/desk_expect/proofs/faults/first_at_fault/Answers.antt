-- The first one at fault.
use Rattle.std.proofs.Common.{◌≡◌, ◌∙◌, ◌<◌, ap, arith, false, sym, true}
use Rattle.desk_expect.specs.PrivateFaults.{test_of}
use Rattle.desk_expect.proofs.FaultWords.{here, nowhere, one_more}
use Rattle.desk_expect.proofs.faults.first_at_fault.Goals as goal

pub returns-then-branch-clause-first : goal.returns-then-branch-clause-first
returns-then-branch-clause-first c =
    let passes = test_of c.args.netgroups.now c.args.hosts.now c.args.rule in
    let name = c.index-names-place.result in
    let bad : passes name ≡ true = ap passes (sym c.as_str.ensures) ∙ sym c.in_ok-is_at_fault.ensures ∙ c.if-branch.true in
    here passes c.args.names.now c.loop-place.place name c.loop-place-test.true c.index-names-place.is c.loop-place.invariant bad

pub loop-place-preserved : goal.loop-place-preserved
loop-place-preserved c =
    let passes = test_of c.args.netgroups.now c.args.hosts.now c.args.rule in
    let name = c.index-names-place.result in
    let good : passes name ≡ false = ap passes (sym c.as_str.ensures) ∙ sym c.in_ok-is_at_fault.ensures ∙ c.if-branch.false in
    one_more passes c.args.names.now c.loop-place.place name c.loop-place-test.true c.index-names-place.is c.loop-place.invariant good

pub returns-clause-first : goal.returns-clause-first
returns-clause-first c =
    nowhere (test_of c.args.netgroups.now c.args.hosts.now c.args.rule) c.args.names.now
    (λ k below. c.loop-place.invariant k (omega (arith, below, c.loop-place-test.false)))
