use Rattle.std.proofs.Common.{◌∙◌, refl, sym}
use Rattle.desk_text.specs.Address.{number_of}
use Rattle.desk_policy.specs.PrivateWeights.{has_weight}
use Rattle.desk_policy.proofs.Gathered.{gathers_passing, leaves_out}
use Rattle.desk_policy.proofs.weights.all_with.Goals as goal
use Rattle.desk_policy.proofs.weights.all_with.Goals.{then-weighs+in_ok-push, else-weighs}

pub loop-row-preserved : goal.loop-row-preserved
loop-row-preserved c =
    let rows = c.args.rows.now in
    let i = c.loop-row.row-index in
    let row = c.row-item.result in
    let weighs = has_weight (number_of c.args.address) c.args.weight in
    elim c.if-weighs.branch [
      | then-weighs+in_ok-push w ↦
          rw w.found-is (gathers_passing rows i row c.loop-row-test.true c.row-item.is c.loop-row.found.items w.push.new.self.items (λ row. row.now) weighs _ w.in_ok-push.ensures.items refl
          (sym c.weighs.ensures ∙ w.if-weighs.true) c.loop-row.invariant)
      | else-weighs w ↦
          rw w.found-is (leaves_out rows i row c.loop-row-test.true c.row-item.is c.loop-row.found.items (λ row. row.now) weighs (sym c.weighs.ensures ∙ w.if-weighs.false) c.loop-row.invariant)
    ]
