use Rattle.std.proofs.Common.{◌≡◌, ◌∙◌, Some, add-one, ap, get_or, not, sym, true}
use Rattle.desk_index.proofs.FirstFound.{found_next, none_more}
use Rattle.desk_idle.proofs.Directories.{Path, is_new}
use Rattle.desk_idle.proofs.listed.first_unknown.Goals as goal

pub returns-then-not-is_known : goal.returns-then-not-is_known
returns-then-not-is_known c = λ known has.
    let dirs = c.args.dirs.now in
    let i = c.loop-dir.dir-index in
    let dir = c.dir-item.result in
    let new : is_new known (get_or dirs i dir) ≡ true = ap (is_new known) (sym c.dir-item.is) ∙ ap not (sym (c.if-not-is_known.ensures known has)) in
    sym (found_next (is_new known) dirs i dir c.loop-dir-test.true (c.loop-dir.invariant known has) new ∙ ap (λ (d : Path). Some d) (sym c.dir-item.is))

pub loop-dir-preserved : goal.loop-dir-preserved
loop-dir-preserved c = λ known has.
    let dirs = c.args.dirs.now in
    let i = c.loop-dir.dir-index in
    let dir = c.dir-item.result in
    rw add-one (none_more (is_new known) dirs i dir c.loop-dir-test.true (c.loop-dir.invariant known has)
    (ap (is_new known) (sym c.dir-item.is) ∙ ap not (sym (c.if-not-is_known.ensures known has))))
