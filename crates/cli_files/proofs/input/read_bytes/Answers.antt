-- A reader is read as far as the limit reaches.
use Rattle.cli_files.proofs.KnownBytes.{read_front}
use Rattle.cli_files.proofs.input.read_bytes.Goals as goal

pub returns : goal.returns
returns g c =
    read_front (λ bytes. bytes) (g.R.Read.remaining c.args.reader) 16777217 c.in_ok-bytes.bytes.items _ c.in_ok-bytes.ensures.items
    (rw (c.take-reader.ensures.limit, c.take-reader.ensures.inner) at c.in_ok-read_to_end.ensures.bytes)
