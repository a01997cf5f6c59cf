use Rattle.desk_exports.specs.Files.{EntriesAscend}
use Rattle.desk_policy.proofs.Chain.{if_kept}
use Rattle.desk_policy.proofs.parsing.whole_entries.Goals as goal

pub returns-clause-read : goal.returns-clause-read
returns-clause-read c = c.in_exports.ensures.read _ c.read_whole.ensures.read

pub returns-clause-ascending : goal.returns-clause-ascending
returns-clause-ascending c = if_kept EntriesAscend c.read_whole.result c.in_exports.result c.in_exports.ensures.kept c.read_whole.ensures.ascending
