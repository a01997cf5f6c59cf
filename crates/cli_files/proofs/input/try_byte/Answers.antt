-- A reader that shows no bytes is at its end.
use Rattle.cli_files.proofs.KnownBytes.{shows_none}
use Rattle.cli_files.proofs.input.try_byte.Goals as goal

pub returns-in-Ok-empty-clause-read : goal.returns-in-Ok-empty-clause-read
returns-in-Ok-empty-clause-read g c =
    shows_none (g.I.Read.remaining c.args.input.now) (g.I.Read.remaining c.fill_buf.follows.lender-at-none) c.fill_buf.result c.in-Ok-empty.field-0 c.in-Ok-empty.is
    c.in-Ok-empty.len_below c.fill_buf.follows.holds-at-none.0 c.fill_buf.ensures.end
