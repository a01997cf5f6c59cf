use Rattle.std.proofs.Common.{◌∙◌, rules, sym}
use Rattle.desk_tables.proofs.IndexLemmas.{ended}
use Rattle.desk_tables.proofs.index.compare_lowered.Goals as goal

pub returns : goal.returns
returns c =
    let m = c.min-index-end.ensures in
    let e = c.loop-index.auto.index-end in
    let f = c.loop-index-test.false in
    c.cmp.ensures
    ∙ sym (c.loop-index.invariant ∙ ended c.args.a.now c.args.b.now c.loop-index.index (search rules) (search rules) (λ less. search rules))
