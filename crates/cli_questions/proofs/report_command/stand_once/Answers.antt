use Rattle.std.proofs.Common.{◌∙◌, sym, subst, arith, rules}
use Rattle.std.specs.List.{AllPairs}
use Rattle.std.proofs.lemmas.Bool.{false≢true}
use Rattle.std.proofs.lemmas.List.{take_all}
use Rattle.cli_questions.proofs.HeadsOnce.{Apart, not_apart, one_more_apart}
use Rattle.cli_questions.proofs.report_command.stand_once.Goals as goal

pub returns-then-not-is_first : goal.returns-then-not-is_first
returns-then-not-is_first c = (
  λ told. absurd (false≢true told),
  λ all. absurd (not_apart c.args.heads.now c.loop-place.place c.index-heads-place.result (omega arith) c.index-heads-place.is (sym c.is_first.ensures ∙ c.if-not-is_first.true) all),
)

pub loop-place-preserved : goal.loop-place-preserved
loop-place-preserved c =
    one_more_apart c.args.heads.now c.loop-place.place c.index-heads-place.result (omega arith) c.index-heads-place.is (sym c.is_first.ensures ∙ c.if-not-is_first.false) c.loop-place.invariant

pub returns : goal.returns
returns c =
    let whole = take_all c.loop-place.place c.args.heads.now (omega arith) in
    (λ told. subst (AllPairs Apart) whole c.loop-place.invariant, λ all. search rules)
