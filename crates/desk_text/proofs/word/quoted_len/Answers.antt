use Rattle.std.proofs.Common.{◌+◌, ap, ◌∙◌, sym, subst, eqb, arith}
use Rattle.std.proofs.lemmas.Bool.{eq-eqb, ne_eqb}
use Rattle.desk_text.proofs.Quoted.{IsQuoted, IsQuoted-bare, IsQuoted-escaped, IsAtomLen-quoted, quote_is_no_backslash}
use Rattle.desk_text.proofs.word.quoted_len.Goals as goal
use Rattle.desk_text.proofs.word.quoted_len.Goals.{then-b-eq92, else-b-eq92}

pub returns-then-b-quote-clause-len : goal.returns-then-b-quote-clause-len
returns-then-b-quote-clause-len c =
    IsAtomLen-quoted c.args.text.now c.loop-n.n c.loop-n.invariant.so_far c.loop-n-test.true
    (ap (λ b. eqb b 92) c.if-b-quote.true ∙ quote_is_no_backslash _ c.requires.quote) (eq-eqb _ _ c.if-b-quote.true)

pub loop-n-preserved : goal.loop-n-preserved
loop-n-preserved c =
    elim c.if-b-eq92.branch [
      | then-b-eq92 w ↦ record {
        so_far = subst (λ k. IsQuoted c.args.text.now (c.loop-n.n + k)) (sym w.n-is) (IsQuoted-escaped c.args.text.now c.loop-n.n c.loop-n.invariant.so_far c.loop-n-test.true w.if-b-eq92.true);
        some = omega arith;
      }
      | else-b-eq92 w ↦ record {
        so_far = subst (λ k. IsQuoted c.args.text.now (c.loop-n.n + k)) (sym w.n-is) (IsQuoted-bare c.args.text.now c.loop-n.n c.loop-n.invariant.so_far c.loop-n-test.true (ne_eqb _ _ w.if-b-eq92.false) (ne_eqb _ _ c.if-b-quote.false));
        some = omega arith;
      }
    ]
