-- Each setting is one of parsing, or of the help.
use Rattle.std.proofs.Common.{ap, true}
use Rattle.clap.specs.Words.{App}
use Rattle.clap.specs.declared.builder.Command.TheViews.{out-Command}
use Rattle.cli_words.proofs.Additions.{by_fields}
use Rattle.cli_words.proofs.line.program.Goals as goal

pub returns : goal.returns
returns c =
    let versioned =
    by_fields c.version.result _ _ c.version.ensures (ap (λ (app : App). record app { top = record app.top { has_version = true } }) c.new.ensures.app) c.new.ensures.local in
    let about = by_fields c.about.result _ _ c.about.ensures versioned.is versioned.local in
    let helped = by_fields c.after_help.result _ _ c.after_help.ensures about.is about.local in
    let plain =
    by_fields c.disable_help_subcommand.result (record (out-Command c.after_help.result) { disable_help_subcommand = true }) _ c.disable_help_subcommand.ensures
    (ap (λ (app : App). record app { top = record app.top { disable_help_subcommand = true } }) helped.is) helped.local in
    by_fields c.subcommand_required.result (record (out-Command c.disable_help_subcommand.result) { subcommand_required = true }) _ c.subcommand_required.ensures
    (ap (λ (app : App). record app { top = record app.top { subcommand_required = true } }) plain.is) plain.local
