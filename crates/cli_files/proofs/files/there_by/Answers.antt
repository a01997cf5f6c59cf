-- The text of the bytes that were read is that of the bytes that the input has, as far as the limit reaches.
use Rattle.std.proofs.Common.{ℕ, Ok, Err}
use Rattle.cli_files.proofs.FilesInTurn.{has_text, lacks_text}
use Rattle.cli_files.proofs.KnownText.{known_text, unread_text}
use Rattle.cli_files.proofs.files.there_by.Goals as goal

pub returns-in-Ok-take_text-clause-text : goal.returns-in-Ok-take_text-clause-text
returns-in-Ok-take_text-clause-text g c =
    has_text _ _ _ _
    (known_text c.args.argument.now c.args.word.now (g.I.Read.remaining c.args.input.now) c.in-Ok.bytes.items (Ok c.in-Ok-take_text.text) c.in-Ok.ensures.read c.in-Ok-take_text.ensures.text)

pub returns-in-Err-take_text-clause-text : goal.returns-in-Err-take_text-clause-text
returns-in-Err-take_text-clause-text g c =
    lacks_text {A = ℕ} _ _ _ _
    (known_text {A = ℕ} c.args.argument.now c.args.word.now (g.I.Read.remaining c.args.input.now) c.in-Ok.bytes.items (Err c.in-Err-take_text.failure) c.in-Ok.ensures.read c.in-Err-take_text.ensures.text)

pub returns-else-unread-clause-text : goal.returns-else-unread-clause-text
returns-else-unread-clause-text g c =
    lacks_text {A = ℕ} _ _ _ _ (unread_text {A = ℕ} c.args.argument.now c.args.word.now (g.I.Read.remaining c.args.input.now) c.unread_failure.result c.unread_failure.ensures)
