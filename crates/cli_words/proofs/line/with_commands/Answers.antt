-- Each command is added to those before it.
use Rattle.std.proofs.Common.{[], get_or, rules, subst, sym, take_all}
use Rattle.clap.specs.Words.{AddsSubcommand}
use Rattle.cli_words.specs.Commands.{app_of_row, row_of}
use Rattle.cli_words.specs.PrivateLine.{IsCommand, IsMade, with_commands}
use Rattle.cli_words.specs.declared.commands.CommandRow.{CommandRow}
use Rattle.cli_words.specs.declared.commands.Shared.TheVariants.{Nothing}
use Rattle.cli_words.specs.declared.commands.Subcommand.TheVariants.{Try}
use Rattle.cli_words.proofs.Additions.{command_added, commands_more}
use Rattle.cli_words.proofs.line.with_commands.Goals as goal

pub loop-row-init : goal.loop-row-init
loop-row-init c = λ app is. is

pub loop-row-preserved : goal.loop-row-preserved
loop-row-preserved c = λ app is.
    let adds : AddsSubcommand c.loop-row.made c.in_ok-command_of.field-0 c.in_ok-made.made = search rules in
    let none : CommandRow = record { command = Try; name = record { ref_ptr = (0, 0); now = [] }; words = record { ref_ptr = (0, 0); now = [] }; shared = Nothing; options = record { ref_ptr = (0, 0); now = [] } } in
    let row : CommandRow = get_or c.args.rows.now c.loop-row.row-index none in
    subst (λ shape. IsCommand shape c.in_ok-made.made) (sym (commands_more app c.args.rows.now c.loop-row.row-index none c.loop-row-test.true))
    (command_added _ _ _ _ _ (c.loop-row.invariant app is) (subst (IsMade (app_of_row (row_of row))) c.in_ok-command_of.was c.command_of.ensures) adds)

pub returns : goal.returns
returns c = λ app is.
    subst (λ given. IsCommand (with_commands app given) c.loop-row.made) (take_all c.loop-row.row-index c.args.rows.now c.loop-row-test.false) (c.loop-row.invariant app is)
