-- The bytes are read whole, unless the read fails or would be one too many; and the end is the end.
use Rattle.std.proofs.Common.{◌∙◌, ap, arith, sym, ◌++◌, ◌∷◌, [], Bor, List, ℕ}
use Rattle.desk_http_sessions.proofs.GivenBytesLemmas.{takes_in}
use Rattle.desk_http_sessions.proofs.session.take_in.Goals as goal

pub returns : goal.returns
returns c =
    let reader = c.read_from-2.new.reader in
    let read = c.read_from-2.ensures.read in
    takes_in c.args.connection.now c.read_from-2.new.self c.args.bytes.now reader.bytes.now read.0 (ap (λ (b : Bor (List ℕ)). b.now ++ 0 ∷ []) (sym c.new-given.ensures.bytes) ∙ read.1)
    c.read_from-2.result reader.reads reader.failed read.2 (omega (arith, c.read_from-2.ensures.counted, c.new-given.ensures.unread)) c.read_from-2.ensures.ends reader.whole
