use Rattle.std.proofs.Common.{◌≡◌, ◌<◌, ◌^◌, ◌∙◌, Some, ap, arith, get_or, subst, sym}
use Rattle.std.proofs.lemmas.List.{get_or_default}
use Rattle.desk_text.specs.Address.{number_of}
use Rattle.desk_policy.specs.Policy.{rows_of}
use Rattle.desk_index.specs.Keys.{HasNoHostBits}
use Rattle.desk_index.specs.Lighter.{weighing}
use Rattle.desk_index.specs.declared.lighter.Weighed.{Weighed}
use Rattle.desk_index.proofs.WeighedLines.{heaviest_below, no_lines, none_more, nothing_below}
use Rattle.desk_index.proofs.index.Index.heaviest_below.Goals as goal
use Rattle.desk_index.proofs.index.Index.heaviest_below.Goals.{else-weight-below, then-weight-below+in_default}

pub returns-in-Some-clause-heaviest : goal.returns-in-Some-clause-heaviest
returns-in-Some-clause-heaviest c =
    let content = c.args.self.now in
    let fs = c.args.fs in
    let address = number_of c.args.address in
    let small : address < 2 ^ 32 = (let e = c.number-number.ensures in omega (arith, c.number-number.type_inv)) in
    let blocks : HasNoHostBits content = subst HasNoHostBits c.new-probes.ensures.index c.new-probes.ensures.networks in
    let weights = c.weights-weight-items.result.now in
    let i = c.loop-weight.weight-index in
    let weight = get_or weights i 0 in
    let found : Weighed = record { weight = weight; lines = c.lines.result } in
    heaviest_below content fs address small blocks weights c.weights-weight-items.ensures c.args.below i found c.loop-weight.invariant c.loop-weight-test.true
    (get_or_default weights i weight 0 c.loop-weight-test.true) (omega (arith, c.if-weight-below.true))
    (ap Some c.lines.ensures ∙ c.in-Some.ensures.weighing)

pub loop-weight-preserved : goal.loop-weight-preserved
loop-weight-preserved c =
    let rows = rows_of c.args.self.now c.args.fs.0 in
    let address = number_of c.args.address in
    let weights = c.weights-weight-items.result.now in
    let i = c.loop-weight.weight-index in
    let inside = c.loop-weight-test.true in
    none_more rows address c.args.below weights i inside c.loop-weight.invariant (λ d less.
    let at : get_or weights i d ≡ get_or weights i 0 = get_or_default weights i d 0 inside in
    elim c.if-weight-below.branch [
      | then-weight-below+in_default w ↦ ap (weighing rows address) at ∙ no_lines (weighing rows address (get_or weights i 0)) (sym w.in_default.ensures.weighing)
      | else-weight-below w ↦ (let not_less = w.if-weight-below.false in absurd (omega arith))
    ])

pub returns-clause-heaviest : goal.returns-clause-heaviest
returns-clause-heaviest c =
    let content = c.args.self.now in
    let address = number_of c.args.address in
    let small : address < 2 ^ 32 = (let e = c.number-number.ensures in omega (arith, c.number-number.type_inv)) in
    let blocks : HasNoHostBits content = subst HasNoHostBits c.new-probes.ensures.index c.new-probes.ensures.networks in
    nothing_below content c.args.fs address small blocks c.weights-weight-items.result.now c.weights-weight-items.ensures c.args.below c.loop-weight.weight-index c.loop-weight.invariant c.loop-weight-test.false
