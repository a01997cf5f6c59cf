use Rattle.desk_policy.specs.Policy.{rows_of}
use Rattle.desk_index.specs.Keys.{fs_of_key, line_key}
use Rattle.desk_server.proofs.Sharing.{first_earlier, none_earlier, none_under}
use Rattle.desk_server.proofs.repeated_client.sharing_key.Goals as goal

pub returns-in_default : goal.returns-in_default
returns-in_default c = none_under (rows_of c.args.index.now (fs_of_key c.args.key).0) c.args.line (line_key c.args.key) c.in_default.ensures

pub returns-then-other-line : goal.returns-then-other-line
returns-then-other-line c =
    first_earlier (rows_of c.args.index.now (fs_of_key c.args.key).0) c.args.line (line_key c.args.key) c.requires.rows c.in-Some.other c.in-Some.ensures c.if-other-line.true c.args.address c.requires.address

pub returns-else-other-line : goal.returns-else-other-line
returns-else-other-line c =
    none_earlier (rows_of c.args.index.now (fs_of_key c.args.key).0) c.args.line (line_key c.args.key) c.requires.rows c.in-Some.other c.in-Some.ensures c.if-other-line.false
