-- Each text is that of its file.
use Rattle.std.proofs.Common.{refl}
use Rattle.cli_write.proofs.texts_back.texts_back.Goals as goal

pub returns : goal.returns
returns c =
    rw (c.in_ok-newest_text.ensures, c.in_ok-newest_text-2.ensures, c.in_ok-newest_text-3.ensures, c.in_ok-newest_text-4.ensures, c.in_ok-newest_text-5.ensures, c.in_ok-newest_text-6.ensures, c.in_ok-newest_text-7.ensures, c.in_ok-joined_exports.ensures)
    refl
