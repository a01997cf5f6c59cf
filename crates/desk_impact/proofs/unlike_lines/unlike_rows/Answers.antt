use Rattle.std.proofs.Common.{Bor, map, subst, sym, take}
use Rattle.std.proofs.lemmas.List.{take_all}
use Rattle.desk_policy.specs.declared.row.Row.{Row}
use Rattle.desk_impact.proofs.Gathered.{take_next}
use Rattle.desk_impact.proofs.UnlikeLines.{AreBalanced, balanced_all, balanced_first, balanced_next}
use Rattle.desk_impact.proofs.unlike_lines.unlike_rows.Goals as goal

pub loop-row-init : goal.loop-row-init
loop-row-init c =
    let new = c.args.new.now in
    subst (λ items. AreBalanced (take 0 c.args.old.now) new new (map (λ (r : Bor Row). r.now) items)) (sym c.new-unlike.ensures.items) (balanced_first new)

pub loop-row-preserved : goal.loop-row-preserved
loop-row-preserved c =
    let old = c.args.old.now in
    let i = c.loop-row.row-index in
    let row = c.row-item.result in
    balanced_next (take i old) _ row _ _ c.args.new.now _ _ (take_next old i row c.loop-row-test.true c.row-item.is) c.in_ok-rest.ensures c.loop-row.invariant

pub returns : goal.returns
returns c =
    let old = c.args.old.now in
    let new = c.args.new.now in
    let rest = c.loop-row.rest.now in
    let unlike = map (λ (r : Bor Row). r.now) c.loop-row.unlike.items in
    balanced_all old rest new unlike _ c.in_ok-push_rows.ensures
    (subst (λ rows. AreBalanced rows rest new unlike) (take_all c.loop-row.row-index old c.loop-row-test.false) c.loop-row.invariant)
