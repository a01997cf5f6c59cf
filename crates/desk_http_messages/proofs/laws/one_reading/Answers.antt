use Rattle.desk_http_messages.proofs.OneReading.{reads, one_reading}
use Rattle.desk_http_messages.proofs.laws.one_reading.Goals as goal

pub returns : goal.returns
returns c = λ bytes r s messages others a b split ends split' ends'.
    one_reading bytes messages others a b (reads bytes messages r a split ends) (reads bytes others s b split' ends')
