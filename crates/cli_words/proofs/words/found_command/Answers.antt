-- The command that is found by its name is the one that clap found.
use Rattle.std.proofs.Common.{◌≡◌, ◌∙◌, ap, sym, Option, Some}
use Rattle.std.specs.Option.{option_map}
use Rattle.clap.specs.Words.{subcommand_rows_of}
use Rattle.cli_words.specs.Commands.{command_of}
use Rattle.cli_words.specs.Words.{rows_in}
use Rattle.cli_words.specs.declared.commands.Subcommand.{Subcommand}
use Rattle.cli_words.proofs.FoundNames.{found_rows}
use Rattle.cli_words.proofs.words.found_command.Goals as goal

pub returns-in-Some-command_named : goal.returns-in-Some-command_named
returns-in-Some-command_named c =
    let rows = rows_in c.in-Some.words.now in
    let found : subcommand_rows_of c.args.matches.now ≡ Some (c.in-Some.name.now, rows) = found_rows _ c.in-Some.name.now rows c.in-Some.ensures.name c.in-Some.ensures.rows in
    ap command_of found ∙ ap (λ (command : Option Subcommand). option_map (λ it. (it, rows)) command) (sym c.command_named.ensures ∙ c.in-Some-command_named.is)

pub returns-in-None-command_named : goal.returns-in-None-command_named
returns-in-None-command_named c =
    let rows = rows_in c.in-Some.words.now in
    let found : subcommand_rows_of c.args.matches.now ≡ Some (c.in-Some.name.now, rows) = found_rows _ c.in-Some.name.now rows c.in-Some.ensures.name c.in-Some.ensures.rows in
    (ap command_of found ∙ ap (λ (command : Option Subcommand). option_map (λ it. (it, rows)) command) (sym c.command_named.ensures ∙ c.in-None-command_named.is), c.of_missing.ensures)
