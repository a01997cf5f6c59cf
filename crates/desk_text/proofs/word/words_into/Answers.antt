use Rattle.std.proofs.Common.{not, ap, ◌∙◌, subst, sym, IsTrue, rules}
use Rattle.std.proofs.lemmas.Bool.{cond-true}
use Rattle.desk_text.proofs.PartPlaces.{fits-at}
use Rattle.desk_text.proofs.WordList.{words_more, closed_more, open_part}
use Rattle.desk_text.proofs.word.words_into.Goals as goal

pub push_words-requires : goal.push_words-requires
push_words-requires c = fits-at c.parts-part-items.result.now _ c.loop-part.part-index _ c.parts-part-items.ensures.parts c.loop-part-test.true c.parts-part-items.ensures.placed

pub returns-then-not-branch : goal.returns-then-not-branch
returns-then-not-branch c =
    cond-true _ _ _ (open_part c.parts-part-items.result.now _ c.parts-part-items.ensures.parts c.loop-part.part-index _ c.loop-part-test.true (c.in_ok-push_words.ensures.closed ∙ ap not c.if-not-branch.true))

pub loop-part-preserved : goal.loop-part-preserved
loop-part-preserved c =
    let closes : IsTrue c.in_ok-push_words.field-0 = subst (λ b. IsTrue b) (sym c.if-not-branch.false) (search rules) in
    record {
      so_far = words_more c.parts-part-items.result.now _ c.parts-part-items.ensures.parts c.loop-part.part-index _ c.loop-part-test.true _ _ c.loop-part.invariant.so_far (c.in_ok-push_words.ensures.found closes);
      closed = closed_more c.parts-part-items.result.now _ c.parts-part-items.ensures.parts c.loop-part.part-index _ c.loop-part-test.true c.loop-part.invariant.closed (c.in_ok-push_words.ensures.closed ∙ ap not c.if-not-branch.false);
    }
