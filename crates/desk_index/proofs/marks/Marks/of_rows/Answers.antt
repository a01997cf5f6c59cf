use Rattle.std.proofs.Common.{◌≡◌, ℕ, arith, length, subst}
use Rattle.desk_index.specs.PrivateMarks.{AreMarked}
use Rattle.desk_index.proofs.Marking.{none_yet}
use Rattle.desk_index.proofs.marks.Marks.of_rows.Goals as goal

pub loop-place-init : goal.loop-place-init
loop-place-init c = rw (c.new-pairs.ensures.items, c.new-spots.ensures.items) (none_yet c.args.rows.now)

pub returns : goal.returns
returns c =
    let rows = c.args.rows.now in
    let all : c.loop-place.place ≡ length rows = (let a = c.loop-place.auto.place-end in let t = c.loop-place-test.false in omega arith) in
    record {
      pairs = c.loop-place.pairs.items;
      by_mark = c.in_ok-by_mark.ensures;
      marked = subst (λ (n : ℕ). AreMarked c.loop-place.pairs.items c.loop-place.spots.items rows n 0) all c.loop-place.invariant;
    }
