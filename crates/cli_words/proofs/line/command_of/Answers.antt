-- The words come first, then the options that are shared, and then the command's own options.
use Rattle.std.proofs.Common.{map, subst, sym}
use Rattle.clap.specs.Words.{new_app}
use Rattle.cli_words.specs.Commands.{more_of, rule_for, tables_of, with_rules}
use Rattle.cli_words.specs.PrivateLine.{IsCommand, IsMade, with_arguments}
use Rattle.cli_words.proofs.Additions.{all_in_turn}
use Rattle.cli_words.proofs.line.command_of.Goals as goal

pub returns : goal.returns
returns c =
    let row = c.args.row.now in
    let app = new_app row.name.now in
    let words = map rule_for row.words.now in
    let options = map rule_for row.options.now in
    let tables = tables_of row.shared in
    let more = more_of row.shared in
    let first : IsCommand (with_rules app words) c.in_ok-command.command =
    subst (IsMade (with_arguments app row.words.now)) c.in_ok-command.was (c.with_arguments.ensures _ c.titled.ensures) in
    let second : IsCommand (with_rules (with_rules app words) tables) c.in_ok-command-2.command =
    subst (λ given. IsCommand (with_rules (with_rules app words) given) c.in_ok-command-2.command) c.table_options.ensures
    (subst (IsMade (with_arguments (with_rules app words) c.table_options.result.now)) c.in_ok-command-2.was (c.with_arguments-2.ensures _ first)) in
    let third : IsCommand (with_rules (with_rules (with_rules app words) tables) more) c.in_ok-command-3.command =
    subst (λ given. IsCommand (with_rules (with_rules (with_rules app words) tables) given) c.in_ok-command-3.command) c.more_options.ensures
    (subst (IsMade (with_arguments (with_rules (with_rules app words) tables) c.more_options.result.now)) c.in_ok-command-3.was (c.with_arguments-3.ensures _ second)) in
    subst (λ shape. IsMade shape c.with_arguments-4.result) (sym (all_in_turn app words tables more options)) (c.with_arguments-4.ensures _ third)
