use Rattle.std.proofs.Common.{Bor, map, refl}
use Rattle.desk_policy.specs.declared.row.Row.{Row}
use Rattle.desk_impact.proofs.Gathered.{gathers}
use Rattle.desk_impact.proofs.unlike_lines.push_rows.Goals as goal

pub loop-row-preserved : goal.loop-row-preserved
loop-row-preserved c =
    gathers c.args.rows.now c.loop-row.row-index c.row-item.result c.loop-row-test.true c.row-item.is
    c.loop-row.unlike.items c.push.new.self.items (λ row. row.now) (map (λ (row : Bor Row). row.now) c.args.unlike.now.items) _ c.in_ok-push.ensures.items refl c.loop-row.invariant
