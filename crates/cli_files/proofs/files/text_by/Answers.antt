-- The text of the bytes that were read is that of the bytes that the input has, as far as the limit reaches.
use Rattle.cli_files.proofs.KnownText.{known_text, named_text, opened_text, unread_named, unread_text}
use Rattle.cli_files.proofs.files.text_by.Goals as goal

pub returns-in-Ok-clause-text : goal.returns-in-Ok-clause-text
returns-in-Ok-clause-text g c =
    known_text c.args.argument.now c.args.word.now (g.I.Read.remaining c.args.input.now) c.in-Ok.bytes.items _ c.in-Ok.ensures.read c.take_text.ensures.text

pub returns-in-Err-clause-text : goal.returns-in-Err-clause-text
returns-in-Err-clause-text g c =
    unread_text c.args.argument.now c.args.word.now (g.I.Read.remaining c.args.input.now) c.unread_failure.result c.unread_failure.ensures

pub returns-in-Ok-clause-named : goal.returns-in-Ok-clause-named
returns-in-Ok-clause-named g c named =
    named_text c.args.argument.now c.args.word.now (g.S.Opens.holds c.args.system.now c.args.word.now) c.in-Ok.bytes.items _ (c.in-Ok.ensures.named named) c.take_text.ensures.text

pub returns-in-Err-clause-named : goal.returns-in-Err-clause-named
returns-in-Err-clause-named g c named =
    unread_named c.args.argument.now c.args.word.now (g.S.Opens.holds c.args.system.now c.args.word.now) c.unread_failure.result c.unread_failure.ensures

pub returns-in-Ok-clause-opened : goal.returns-in-Ok-clause-opened
returns-in-Ok-clause-opened g c named = opened_text (g.S.Opens.fails c.args.system.now c.args.word.now) c.take_text.result (c.in-Ok.ensures.opened named)
