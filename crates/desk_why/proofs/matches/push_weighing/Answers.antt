use Rattle.std.proofs.Common.{◌∙◌, map, refl, sym}
use Rattle.desk_text.specs.Address.{number_of}
use Rattle.desk_why.specs.Matches.{weighs}
use Rattle.desk_why.proofs.Gathered.{gathers_passing_behind, leaves_out_behind}
use Rattle.desk_why.proofs.matches.push_weighing.Goals as goal
use Rattle.desk_why.proofs.matches.push_weighing.Goals.{then-weighs+in_ok-push, else-weighs}

pub loop-row-preserved : goal.loop-row-preserved
loop-row-preserved c =
    let rows = c.args.rows.now in
    let i = c.loop-row.row-index in
    let row = c.row-item.result in
    let passes = weighs (number_of c.args.address) c.args.weight in
    let first = map (λ row. row.now) c.args.found.now.items in
    elim c.if-weighs.branch [
      | then-weighs+in_ok-push w ↦
          rw w.found-is (gathers_passing_behind rows i row c.loop-row-test.true c.row-item.is c.loop-row.found.items w.push.new.self.items (λ row. row.now) passes first _ w.in_ok-push.ensures.items refl
          (sym c.weighs.ensures ∙ w.if-weighs.true) c.loop-row.invariant)
      | else-weighs w ↦
          rw w.found-is (leaves_out_behind rows i row c.loop-row-test.true c.row-item.is c.loop-row.found.items (λ row. row.now) passes first (sym c.weighs.ensures ∙ w.if-weighs.false) c.loop-row.invariant)
    ]
