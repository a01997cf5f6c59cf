use Rattle.hex.proofs.HexLemmas.{IsOk-decode_sized}
use Rattle.desk_tables.proofs.DigestBytes.{digest_written}
use Rattle.desk_tables.proofs.laws.digests_are_hexadecimal.Goals as goal

pub returns : goal.returns
returns c = record { read = λ text. IsOk-decode_sized text 32; write_back = digest_written }
