use Rattle.std.proofs.Common.{◌∙◌, add-one, ap, find, sym}
use Rattle.desk_index.specs.PrivateMarks.{passes_at}
use Rattle.desk_index.specs.PrivateSlot.{lines_of}
use Rattle.desk_index.proofs.FirstFound.{found_next, none_more}
use Rattle.desk_index.proofs.SelectedLines.{listed_is}
use Rattle.desk_index.proofs.marks.Marks.first_marked.Goals as goal

pub returns-then-passes : goal.returns-then-passes
returns-then-passes c = λ pairs keeps.
    let test = passes_at c.args.rows.now c.args.self.now.spots.items c.args.group.now c.args.path.now in
    sym (ap (find test) (listed_is (lines_of pairs c.args.mark) c.in-Some.found.now (sym (c.in-Some.ensures pairs keeps)) ∙ sym c.lines-numbers.ensures)
    ∙ found_next test c.lines-numbers.result.now c.loop-number.number-index 0 c.loop-number-test.true c.loop-number.invariant (sym c.if-passes.ensures))

pub loop-number-preserved : goal.loop-number-preserved
loop-number-preserved c =
    rw add-one (none_more (passes_at c.args.rows.now c.args.self.now.spots.items c.args.group.now c.args.path.now) c.lines-numbers.result.now c.loop-number.number-index 0
    c.loop-number-test.true c.loop-number.invariant (sym c.if-passes.ensures))
