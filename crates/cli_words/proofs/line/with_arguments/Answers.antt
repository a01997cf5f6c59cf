-- Each argument is added to those before it.
use Rattle.std.proofs.Common.{rules, subst, sym, take_all}
use Rattle.clap.specs.Words.{AddsArg}
use Rattle.cli_words.specs.PrivateLine.{IsCommand, with_arguments}
use Rattle.cli_words.proofs.Additions.{argument_added, arguments_more}
use Rattle.cli_words.proofs.line.with_arguments.Goals as goal

pub loop-argument-init : goal.loop-argument-init
loop-argument-init c = λ app is. is

pub loop-argument-preserved : goal.loop-argument-preserved
loop-argument-preserved c = λ app is.
    let adds : AddsArg c.loop-argument.made c.made_argument.result c.in_ok-made.made = search rules in
    subst (λ shape. IsCommand shape c.in_ok-made.made) (sym (arguments_more app c.args.arguments.now c.loop-argument.argument-index _ c.loop-argument-test.true))
    (argument_added _ _ _ _ _ (c.loop-argument.invariant app is) c.made_argument.ensures adds)

pub returns : goal.returns
returns c = λ app is.
    subst (λ given. IsCommand (with_arguments app given) c.loop-argument.made) (take_all c.loop-argument.argument-index c.args.arguments.now c.loop-argument-test.false) (c.loop-argument.invariant app is)
