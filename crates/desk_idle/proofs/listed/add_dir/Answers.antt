use Rattle.desk_idle.proofs.Directories.{one_more}
use Rattle.desk_idle.proofs.listed.add_dir.Goals as goal

pub returns-clause-has : goal.returns-clause-has
returns-clause-has c = λ known has. one_more c.printed_paths_differ.ensures c.args.seen.now c.insert.new.self c.args.dir known c.text-text.ensures.path c.in_ok-insert.ensures.updates.0 has
