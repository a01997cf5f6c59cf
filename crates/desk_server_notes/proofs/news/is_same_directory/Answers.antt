-- Both are there.
use Rattle.desk_server_notes.proofs.news.is_same_directory.Goals as goal

pub returns-in-Some-Some : goal.returns-in-Some-Some
returns-in-Some-Some c = rw (c.in-Some-Some.is-0, c.in-Some-Some.is-1) c.eq.ensures.same
