use Rattle.std.proofs.Common.{◌+◌, ◌≤◌, arith, subst, sym, take}
use Rattle.std.specs.Prelude.{sum_by}
use Rattle.std.proofs.lemmas.List.Sums.{sum_by_more_le}
use Rattle.page_places.specs.Rows.{span_size}
use Rattle.page_places.proofs.rows.size_of.Goals as goal

pub overflow_add-size : goal.overflow_add-size
overflow_add-size c =
    let spans = c.args.spans.now in
    let i = c.loop-span.span-index in
    let more : sum_by span_size (take i spans) + c.span_size-size.result ≤ sum_by span_size spans =
    subst (λ n. sum_by span_size (take i spans) + n ≤ sum_by span_size spans) (sym c.span_size-size.ensures)
    (sum_by_more_le span_size spans i _ c.loop-span-test.true) in
    omega (arith, more, c.loop-span.invariant, c.requires)
