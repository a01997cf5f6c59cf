use Rattle.std.proofs.Common.{◌≡◌, false, get_or, drop, sym, subst, ◌∙◌}
use Rattle.std.proofs.lemmas.Bool.{or_parts}
use Rattle.std.proofs.lemmas.List.{take_rest}
use Rattle.desk_text.specs.PrivateWord.{IsAtomLen}
use Rattle.desk_text.specs.Word.{is_special}
use Rattle.desk_text.proofs.AtomsOfWord.{plain_at, IsRun-more}
use Rattle.desk_text.proofs.WordMarks.{marks_before, marks_there}
use Rattle.desk_text.proofs.word.word_end.Goals as goal

pub loop-len-preserved-then-is_special : goal.loop-len-preserved-then-is_special
loop-len-preserved-then-is_special c =
    let text = c.args.text.now in
    let n = c.loop-len.len in
    let k = c.in_ok-len.field-0 in
    let within = c.loop-len-test.true in
    let atom : IsAtomLen (drop n text) k = subst (λ t. IsAtomLen t k) (take_rest text n) c.in_ok-len.ensures.len in
    record {
      is_run = IsRun-more text n k c.loop-len.invariant.is_run within (sym c.is_blank.ensures ∙ c.if-not-is_blank.true) atom;
      marks = marks_there text n within k (sym c.is_special.ensures ∙ c.if-is_special.true) atom;
    }

pub loop-len-preserved : goal.loop-len-preserved
loop-len-preserved c =
    let text = c.args.text.now in
    let n = c.loop-len.len in
    let within = c.loop-len-test.true in
    let ordinary : is_special (get_or text n 0) ≡ false = sym c.is_special.ensures ∙ c.if-is_special.false in
    let parts = or_parts _ _ ordinary in
    record {
      is_run = IsRun-more text n 1 c.loop-len.invariant.is_run within (sym c.is_blank.ensures ∙ c.if-not-is_blank.true) (plain_at text n within parts.1 parts.0);
      marks = marks_before text n within c.loop-len.marked ordinary c.loop-len.invariant.marks;
    }
