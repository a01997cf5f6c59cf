-- What parsing depends on is that of a new command.
use Rattle.std.proofs.Common.{Some}
use Rattle.clap.specs.declared.builder.Command.TheViews.{out-Command}
use Rattle.cli_words.proofs.Additions.{by_fields}
use Rattle.cli_words.proofs.line.titled.Goals as goal

pub returns : goal.returns
returns c =
    c.with_help.ensures _ (c.with_usage.ensures _
    (by_fields _ (record (out-Command c.new.result) { about = Some c.help_of-help.result.about }) _ c.about-command.ensures c.new.ensures.app c.new.ensures.local))
