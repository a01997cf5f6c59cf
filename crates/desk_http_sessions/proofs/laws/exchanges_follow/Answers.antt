use Rattle.desk_http_sessions.proofs.FollowLemmas.{follows}
use Rattle.desk_http_sessions.proofs.laws.exchanges_follow.Goals as goal

pub returns : goal.returns
returns g c = λ old mid new events more one other. follows g.W.Wire.left g.W.Wire.held old mid new events more one other
