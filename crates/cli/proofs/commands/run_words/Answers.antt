-- What clap finds in the words is answered, and so is why it does not take them.
use Rattle.std.proofs.Common.{◌≡◌, ◌∙◌, List, map, Option, ap, ap₂, inl, inr, subst}
use Rattle.clap.specs.Words.{HasKind, Kinds, Row, app_of, fault_of, is_simple, is_simple_and_free, kind_of, subcommand_of}
use Rattle.cli_words.specs.Commands.{command_line, command_of, line_of}
use Rattle.cli_words.specs.declared.commands.Subcommand.{Subcommand}
use Rattle.cli.specs.Commands.{AnswersFound}
use Rattle.cli.proofs.ClapAnswers.{said}
use Rattle.cli.proofs.commands.run_words.Goals as goal

pub returns-in-Ok : goal.returns-in-Ok
returns-in-Ok g c =
    let command_is : app_of c.in_ok-command_line.field-0 ≡ command_line = c.in_ok-command_line.ensures in
    let words_are : map (λ word. word.now) c.as_slice.result.now ≡ line_of (map g.S.AsSlice.items c.args.words.now) =
    ap (map (λ word. word.now)) c.as_slice.ensures.value ∙ c.in_ok-line.ensures in
    inr (subst (λ (words : Option (Subcommand × List Row)). AnswersFound words (g.I.Read.remaining c.args.input.now) c.run_found.result)
    (ap command_of ((c.in-Ok.ensures.matches (ap is_simple command_is)).1 ∙ ap₂ subcommand_of command_is words_are))
    c.run_found.ensures)

pub returns : goal.returns
returns g c =
    let command_is : app_of c.in_ok-command_line.field-0 ≡ command_line = c.in_ok-command_line.ensures in
    let words_are : map (λ word. word.now) c.as_slice.result.now ≡ line_of (map g.S.AsSlice.items c.args.words.now) =
    ap (map (λ word. word.now)) c.as_slice.ensures.value ∙ c.in_ok-line.ensures in
    inl (said (map g.S.AsSlice.items c.args.words.now) (kind_of c.in-Err.error) c.clap_output.result c.clap_output.ensures
    (subst (λ (kinds : Kinds). HasKind kinds c.in-Err.error) (ap₂ fault_of command_is words_are) (c.in-Err.ensures.kinds (ap is_simple_and_free command_is))))
