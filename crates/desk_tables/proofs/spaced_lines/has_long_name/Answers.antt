use Rattle.std.proofs.Common.{◌∙◌}
use Rattle.desk_tables.specs.SpacedLines.{is_long_name}
use Rattle.desk_tables.proofs.SpacedLineLemmas.{any_now}
use Rattle.desk_tables.proofs.spaced_lines.has_long_name.Goals as goal

pub returns : goal.returns
returns c = c.any_is_long.ensures ∙ any_now is_long_name c.args.names.now
