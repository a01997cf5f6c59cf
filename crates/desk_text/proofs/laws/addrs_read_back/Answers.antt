use Rattle.desk_text.proofs.AddrLaws.{addrs_read_back}
use Rattle.desk_text.proofs.laws.addrs_read_back.Goals as goal

pub returns : goal.returns
returns c = addrs_read_back
