use Rattle.desk_idle.proofs.WritingDirectories.{write_by}
use Rattle.desk_idle.proofs.laws.read_lines_write_directories.Goals as goal

pub returns-clause-site : goal.returns-clause-site
returns-clause-site c = λ texts content read fs. write_by content fs (c.lines_write_their_own.ensures.site texts content read) (c.lines_have_directories.ensures.site texts content read fs)

pub returns-clause-whole : goal.returns-clause-whole
returns-clause-whole c = λ profile tables table text content read fs.
    write_by content fs (c.lines_write_their_own.ensures.whole profile tables table text content read) (c.lines_have_directories.ensures.whole profile tables table text content read fs)
