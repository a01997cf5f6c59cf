use Rattle.std.proofs.Common.{◌∙◌, ap, get_or, sym, take}
use Rattle.std.proofs.lemmas.List.{take_more}
use Rattle.desk_index.specs.PrivateMarks.{seed_of, step, steps}
use Rattle.desk_index.proofs.Marking.{steps_more}
use Rattle.desk_index.proofs.marks.mark_of.Goals as goal

pub loop-byte-preserved : goal.loop-byte-preserved
loop-byte-preserved c =
    let text = c.args.text.now in
    let i = c.loop-byte.byte-index in
    let byte = get_or text i 0 in
    let seed = seed_of c.args.group.now in
    c.step-mark.ensures
    ∙ ap (step c.loop-byte.mark) c.from.ensures
    ∙ ap (λ m. step m byte) c.loop-byte.invariant
    ∙ sym (steps_more seed (take i text) byte)
    ∙ ap (steps seed) (sym (take_more text i 0 c.loop-byte-test.true))
