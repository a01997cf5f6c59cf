-- The row of the code is that of the definition.
use Rattle.std.proofs.Common.{◌∙◌, ap, sym}
use Rattle.std.specs.Option.{option_map}
use Rattle.std.specs.Str.{bytes_eq}
use Rattle.cli_words.specs.Commands.{CommandRow, row_of}
use Rattle.cli_words.proofs.FoundRows.{find_of_image}
use Rattle.cli_words.proofs.commands.command_named.Goals as goal
use Rattle.std.proofs.Common.{find}

pub returns-in-Some : goal.returns-in-Some
returns-in-Some c =
    ap (option_map (λ (r : CommandRow). r.command))
    (ap (option_map row_of) (sym (ap (option_map (λ row. row.now)) c.in-Some.is) ∙ c.first_named.ensures)
    ∙ find_of_image row_of (λ r. bytes_eq r.name c.args.name.now) c.command_rows.result.now
    ∙ ap (find (λ r. bytes_eq r.name c.args.name.now)) c.command_rows.ensures)

pub returns-in-None : goal.returns-in-None
returns-in-None c =
    ap (option_map (λ (r : CommandRow). r.command))
    (ap (option_map row_of) (sym (ap (option_map (λ row. row.now)) c.in-None.is) ∙ c.first_named.ensures)
    ∙ find_of_image row_of (λ r. bytes_eq r.name c.args.name.now) c.command_rows.result.now
    ∙ ap (find (λ r. bytes_eq r.name c.args.name.now)) c.command_rows.ensures)
