-- Those so far.
use Rattle.std.proofs.Common.{take}
use Rattle.desk_server_notes.specs.PrivateNews.{AreKnown}
use Rattle.desk_server_notes.proofs.news.known_of.Given as goal

abbrev pub invariant-loop-one : goal.invariant-loop-one
invariant-loop-one l = AreKnown (take l.one-index l.found) l.known
